use Rattle.std.proofs.Common.{◌≡◌, true, sym, ◌∙◌}
use Rattle.std.specs.Prelude.{bytes_eq}
use Rattle.domain_rules.specs.Network.{bssid}
use Rattle.frame_intake.proofs.Verdicts.{not_false, is_peer, is_managed, is_from_none}
use Rattle.frame_intake.proofs.judging.judge_managed.Goals as goal

pub returns : goal.returns
returns c =
    let mine = sym c.is_mine.ensures ∙ c.if-not-is_mine.false in
    let from = sym c.peer_of-from.ensures ∙ c.in-Some.is in
    let same = not_false _ _ c.ne.ensures c.if-ne.false in
    let at_bssid : bytes_eq c.args.frame.header.a3.0 (bssid c.args.domain.now c.args.node c.in-Some.peer) ≡ true = cc in
    let peer = is_peer c.args.domain.now c.args.node c.args.frame.header.a2.0 c.in-Some.peer from in
    is_managed c.args.domain.now c.args.node c.args.frame c.args.elements mine c.in-Some.peer from at_bssid peer

pub returns-in_default : goal.returns-in_default
returns-in_default c =
    is_from_none c.args.domain.now c.args.node c.args.frame c.args.elements (sym c.is_mine.ensures ∙ c.if-not-is_mine.false) (sym c.peer_of-from.ensures ∙ c.in_default.is)
