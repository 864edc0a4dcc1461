use Rattle.std.proofs.Common.{Option, Some, refl, sym, ap, ◌∙◌, inr}
use Rattle.domain_rules.specs.Replies.{taken_as}
use Rattle.node_base.specs.Pairs.{pair_at}
use Rattle.act_memory.specs.Rooms.{between_of}
use Rattle.authenticator.specs.Judged.{frame_of}
use Rattle.authenticator.specs.Taken.{given}
use Rattle.ap_node.specs.declared.station.Attempt.{Attempt}
use Rattle.ap_node.specs.Parts.{is_final_by}
use Rattle.ap_node.proofs.Handing.{by_association, not_by_transition, not_by_none, place_as, seated, step_back, handed_so, attempt_so}
use Rattle.ap_node.proofs.stations.hand_attempt.Goals as goal

-- ---- an attempt by association

pub step_attempt-outcome-requires-clause-judged : goal.step_attempt-outcome-requires-clause-judged
step_attempt-outcome-requires-clause-judged c =
    c.requires.judged ∙ ap (λ (o : Option Attempt). is_final_by o c.args.place.now.session c.args.message.now.message (frame_of c.args.message.now.frame))
    (by_association c.args.place.now.attempt _ c.in-Some-Association.part c.in-Some-Association.is c.in-Some-Association.field-0-is)

pub returns-in-Some-Association-clause-handed : goal.returns-in-Some-Association-clause-handed
returns-in-Some-Association-clause-handed c d id n p octets k room_is =
    let x = c.args.place.now in
    let came = c.step_attempt-outcome.result in
    let there = by_association x.attempt _ c.in-Some-Association.part c.in-Some-Association.is c.in-Some-Association.field-0-is in
    let y = c.step_attempt-outcome.ensures.handed d id n p octets k room_is in (
      y.0,
      y.1,
      attempt_so (pair_at d id n p) (given c.args.message.now.message (frame_of c.args.message.now.frame) c.args.newest.now) (taken_as octets k came.0) (between_of c.args.ready.between)
          x _ c.seat.new.self y.0 (seated x c.seat.new.self c.step_attempt-outcome.new.part came.1 c.seat.ensures) (y.2 x there c.is_some-had_session.ensures),
    )

pub returns-in-Some-Association-clause-refused : goal.returns-in-Some-Association-clause-refused
returns-in-Some-Association-clause-refused c why is =
    let x = c.args.place.now in
    let part = c.step_attempt-outcome.new.part in
    let installed = c.step_attempt-outcome.result.1 in
    let back = c.step_attempt-outcome.ensures.refused why is in
    step_back x c.seat.new.self c.in-Some-Association.part part installed (by_association x.attempt _ c.in-Some-Association.part c.in-Some-Association.is c.in-Some-Association.field-0-is) (seated x c.seat.new.self part installed c.seat.ensures) back.1 back.0

-- ---- one by fast transition

pub hand_session-requires-clause-which : goal.hand_session-requires-clause-which
hand_session-requires-clause-which c = inr (not_by_transition _ c.in-Some-Transition.field-0-0 c.in-Some-Transition.field-0-is)

pub hand_session-requires-clause-judged : goal.hand_session-requires-clause-judged
hand_session-requires-clause-judged c =
    let x = c.args.place.now in
    let m = c.args.message.now.message in
    let f = frame_of c.args.message.now.frame in
    c.requires.judged ∙ ap (λ (o : Option Attempt). is_final_by o x.session m f) c.in-Some-Transition.is ∙ ap (λ (a : Attempt). is_final_by (Some a) x.session m f) c.in-Some-Transition.field-0-is

pub returns-in-Some-Transition-clause-handed : goal.returns-in-Some-Transition-clause-handed
returns-in-Some-Transition-clause-handed c d id n p octets k room_is =
    let y = c.hand_session.ensures.handed d id n p octets k room_is in (
      y.0,
      y.1,
      handed_so (pair_at d id n p) (given c.args.message.now.message (frame_of c.args.message.now.frame) c.args.newest.now) (taken_as octets k c.hand_session.result) (between_of c.args.ready.between)
          c.args.place.now c.hand_session.new.place _ c.hand_session.new.place y.0 (sym (place_as c.args.place.now _ c.in-Some-Transition.is)) refl y.2,
    )

pub returns-in-Some-Transition-clause-refused : goal.returns-in-Some-Transition-clause-refused
returns-in-Some-Transition-clause-refused c why is = c.hand_session.ensures.refused why is ∙ place_as c.args.place.now _ c.in-Some-Transition.is

-- ---- none

pub hand_session-requires-in-None-clause-which : goal.hand_session-requires-in-None-clause-which
hand_session-requires-in-None-clause-which c = inr (not_by_none c.args.place.now.attempt c.in-None.is)

pub hand_session-requires-in-None-clause-judged : goal.hand_session-requires-in-None-clause-judged
hand_session-requires-in-None-clause-judged c =
    c.requires.judged ∙ ap (λ (o : Option Attempt). is_final_by o c.args.place.now.session c.args.message.now.message (frame_of c.args.message.now.frame)) c.in-None.is

pub returns-in-None-clause-handed : goal.returns-in-None-clause-handed
returns-in-None-clause-handed c = c.hand_session-in-None.ensures.handed

pub returns-in-None-clause-refused : goal.returns-in-None-clause-refused
returns-in-None-clause-refused c = c.hand_session-in-None.ensures.refused
