use Rattle.std.proofs.Common.{inl, ◌∙◌}
use Rattle.authenticator.specs.Judged.{frame_of}
use Rattle.ap_node.proofs.Hearing.{for_session_final}
use Rattle.ap_node.proofs.stations.hand.Goals as goal

pub hand_session-requires-clause-which : goal.hand_session-requires-clause-which
hand_session-requires-clause-which c = inl c.in-G2.is

pub hand_session-requires-clause-judged : goal.hand_session-requires-clause-judged
hand_session-requires-clause-judged c = c.requires.judged ∙ for_session_final c.args.message.now.message (frame_of c.args.message.now.frame) c.args.place.now (inl c.in-G2.is)

pub hand_attempt-requires-clause-other : goal.hand_attempt-requires-clause-other
hand_attempt-requires-clause-other c = c.in_default.not-G2
