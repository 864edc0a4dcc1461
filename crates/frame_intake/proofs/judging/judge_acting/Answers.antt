use Rattle.std.proofs.Common.{◌≡◌, true, sym, ◌∙◌}
use Rattle.std.specs.Prelude.{bytes_eq}
use Rattle.air_frame.specs.Views.{header_of}
use Rattle.domain_rules.specs.Network.{bssid}
use Rattle.frame_intake.proofs.Actions.{is_station}
use Rattle.frame_intake.proofs.Verdicts.{not_false, is_peer, is_acting, is_acting_from_none}
use Rattle.frame_intake.proofs.judging.judge_acting.Goals as goal

pub returns : goal.returns
returns c =
    let d = c.args.domain.now in
    let n = c.args.node in
    let header = c.args.frame.header in
    let mine = sym c.is_mine_or_group.ensures ∙ c.if-not-is_mine_or_group.false in
    let from = sym c.peer_of-from.ensures ∙ c.in-Some.is in
    let same = not_false _ _ c.ne.ensures c.if-ne.false in
    let at_bssid : bytes_eq header.a3.0 (bssid d n c.in-Some.peer) ≡ true = cc in
    let peer = is_peer d n header.a2.0 c.in-Some.peer from in
    is_acting d n c.args.frame mine c.in-Some.peer from at_bssid peer c.requires.whole
    (is_station d n (header_of header) c.requires.form c.requires.listed c.requires.whole.group mine)

pub returns-in_default : goal.returns-in_default
returns-in_default c =
    is_acting_from_none c.args.domain.now c.args.node c.args.frame (sym c.is_mine_or_group.ensures ∙ c.if-not-is_mine_or_group.false) (sym c.peer_of-from.ensures ∙ c.in_default.is)
