use Rattle.std.proofs.Common.{◌≡◌, false, sym, ◌∙◌}
use Rattle.domain_rules.specs.Network.{direction, goes_like}
use Rattle.frame_intake.proofs.Verdicts.{is_peer, is_keyed, is_keyed_from_none}
use Rattle.frame_intake.proofs.judging.judge_keyed.Goals as goal

pub returns-in-None : goal.returns-in-None
returns-in-None c =
    let other_way : goes_like c.args.message.direction (direction c.args.node) ≡ false = cc in
    is_keyed_from_none c.args.domain.now c.args.node c.args.message (sym c.is_mine.ensures ∙ c.if-not-is_mine.false) other_way (sym c.peer_of-from.ensures ∙ c.in-None.is)

pub returns-in-Some : goal.returns-in-Some
returns-in-Some c =
    let other_way : goes_like c.args.message.direction (direction c.args.node) ≡ false = cc in
    let from = sym c.peer_of-from.ensures ∙ c.in-Some.is in
    let peer = is_peer c.args.domain.now c.args.node c.args.message.header.a2.0 c.in-Some.peer from in
    is_keyed c.args.domain.now c.args.node c.args.message (sym c.is_mine.ensures ∙ c.if-not-is_mine.false) other_way c.in-Some.peer from peer c.requires.frame
