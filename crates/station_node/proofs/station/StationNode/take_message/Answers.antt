use Rattle.std.proofs.Common.{◌≡◌, ◌<◌, length, Option, refl, sym, ap, subst, ◌∙◌, ℕ, true}
use Rattle.domain_base.specs.declared.names.Node.{Node}
use Rattle.domain_base.specs.declared.names.Node.TheVariants.{Ap, Sta}
use Rattle.run_journal.specs.declared.acts.Outcome.TheVariants.{Refused}
use Rattle.run_journal.specs.declared.acts.Reason.TheVariants as reason
use Rattle.domain_rules.specs.Replies.{IsMessageFrom}
use Rattle.run_journal.specs.Events.{IsListed, IsPeerOf}
use Rattle.domain_rules.specs.Rows.{Take}
use Rattle.frame_intake.specs.Views.{message_fields}
use Rattle.supplicant.specs.State.{both}
use Rattle.data_frames.specs.Holding.{fresh_key}
use Rattle.station_node.specs.declared.attempt.Attempt.{Attempt}
use Rattle.station_node.specs.declared.attempt.Association.TheVariants.{Requested, Moving}
use Rattle.station_node.specs.State.{State, HavePlaces, is_there, set_memory}
use Rattle.station_node.specs.Parts.{peer_of_attempt, IsElsewhere}
use Rattle.station_node.specs.Steps.{IsTaken, Takes, turn}
use Rattle.station_node.specs.Handed.{IsHanded, handing}
use Rattle.station_node.specs.contracts.station.StationNode.{the_view}
use Rattle.station_node.proofs.Handed.{tried_state}
use Rattle.station_node.proofs.Roamed.{no_attempt_there, other_attempt}
use Rattle.station_node.proofs.Placed.{accepted_place, whole_attempt, takes_nothing, left-tried, tried_places, finished_places, handed-tried, handed-finished, takes_same_old}
use Rattle.station_node.proofs.Taken.{takes_by, taken-requested, taken-roamed}
use Rattle.station_node.proofs.station.StationNode.take_message.Goals.{in_default-via-in-Some+else-with-ap, in_default-via-in_default}
use Rattle.station_node.proofs.station.StationNode.take_message.Goals as goal

pub of-memory-requires : goal.of-memory-requires
of-memory-requires c = subst (λ (q : ℕ). is_there c.self.inside.memories q ≡ true) c.if-with-ap.true (accepted_place c.self.inside.attempt c.in-Some.field-0 c.in-Accepted.supplicant c.self.inside.memories c.in-Some.is c.in-Accepted.is c.self.invariant.tried)

pub hand-requires-clause-listed : goal.hand-requires-clause-listed
hand-requires-clause-listed c = subst (λ (n : Node). IsListed c.args.here.domain.now n) (sym c.requires.node) c.requires.listed

pub hand-requires-clause-peer : goal.hand-requires-clause-peer
hand-requires-clause-peer c = subst (λ (n : Node). IsPeerOf c.args.here.domain.now n (Ap c.args.ap)) (sym c.requires.node) c.requires.ap

pub invariant_of-self : goal.invariant_of-self
invariant_of-self c = subst (λ (o : Option Attempt). HavePlaces o c.self.inside.session c.self.inside.memories) c.in-Some.is c.self.invariant

pub invariant_of-self-in-Moving : goal.invariant_of-self-in-Moving
invariant_of-self-in-Moving c = subst (λ (o : Option Attempt). HavePlaces o c.self.inside.session c.self.inside.memories) c.in-Some.is c.self.invariant

pub returns-in_err-came-in-Accepted : goal.returns-in_err-came-in-Accepted
returns-in_err-came-in-Accepted c =
    let s = the_view c.self.inside in
    let same = c.in_err-came-in-Accepted.ensures.same in
    takes_nothing c.args.here.domain.now (Take c.args.heard.now.octets.now) (turn c.args.self.now (tried_state s c.in-Some.field-0.ap c.hand.new.supplicant (set_memory s.memories c.args.ap c.hand.new.memory)) c.args.out.now.acts c.hand.new.out.acts) c.from_residual.result c.from_residual.ensures.0
    (left-tried s c.in-Some.field-0 c.args.ap c.in-Accepted.supplicant c.hand.new.supplicant c.of-memory.result.now c.hand.new.memory c.in-Some.is c.in-Accepted.is same.0 same.1 c.of-memory.ensures.value ∙ c.self.view_is)
    c.in_err-came-in-Accepted.ensures.kept

pub invariant_of-self-in_err-came-in-Accepted : goal.invariant_of-self-in_err-came-in-Accepted
invariant_of-self-in_err-came-in-Accepted c =
    tried_places c.self.inside.attempt c.self.inside.session c.in-Some.field-0 c.in-Accepted.supplicant c.hand.new.supplicant c.self.inside.memories c.args.ap c.hand.new.memory c.in-Some.is c.in-Accepted.is c.self.invariant

pub invariant_of-self-in-Some-installed : goal.invariant_of-self-in-Some-installed
invariant_of-self-in-Some-installed c =
    let done = c.finish.ensures c.in-Some.field-0.ap c.hand.new.supplicant refl in
    finished_places c.self.inside.attempt c.finish.new.attempt c.self.inside.session c.finish.new.session c.in-Some.field-0 c.in-Accepted.supplicant c.hand.new.supplicant (fresh_key c.in-Some-installed.tk) c.self.inside.memories c.args.ap c.hand.new.memory c.in-Some.is c.in-Accepted.is c.self.invariant done.0 done.1

pub invariant_of-self-in_default-installed : goal.invariant_of-self-in_default-installed
invariant_of-self-in_default-installed c =
    tried_places c.self.inside.attempt c.self.inside.session c.in-Some.field-0 c.in-Accepted.supplicant c.hand.new.supplicant c.self.inside.memories c.args.ap c.hand.new.memory c.in-Some.is c.in-Accepted.is c.self.invariant

pub returns-in-Requested : goal.returns-in-Requested
returns-in-Requested c =
    let d = c.args.here.domain.now in
    let m = c.args.heard.now in
    let s = c.args.self.now in
    let waits = c.refuse_message.new.out.acts in
    let there = ap (λ (t : State). t.attempt) (sym c.self.view_is) ∙ c.in-Some.is ∙ whole_attempt c.in-Some.field-0 c.args.ap (Requested c.in-Requested.field-0) c.if-with-ap.true c.in-Requested.is in
    let same = ap (λ (o : Option Attempt). the_view (record { number = c.self.inside.number; drawn = c.self.inside.drawn; attempt = o; session = c.self.inside.session; memories = c.self.inside.memories; r0kh_id = c.self.inside.r0kh_id; derived = c.self.inside.derived })) (sym c.in-Some.is) ∙ c.self.view_is in
    subst (λ (t : State). Takes d (Take m.octets.now) (turn s t c.args.out.now.acts waits) c.refuse_message.result) (sym same)
    (takes_by d (Take m.octets.now) (turn s s c.args.out.now.acts waits) c.refuse_message.result (Refused reason.Unawaited) _ c.refuse_message.ensures.outcome c.refuse_message.ensures.acts c.refuse_message.ensures.kept refl
    (λ is. taken-requested d s c.args.ap c.in-Requested.field-0 m.octets.now (message_fields m.message) c.args.out.now.acts waits c.requires.message there is))

pub returns-in-Moving : goal.returns-in-Moving
returns-in-Moving c =
    let d = c.args.here.domain.now in
    let m = c.args.heard.now in
    let s = c.args.self.now in
    let waits = c.refuse_message-in-Moving.new.out.acts in
    let there = ap (λ (t : State). t.attempt) (sym c.self.view_is) ∙ c.in-Some.is ∙ whole_attempt c.in-Some.field-0 c.args.ap (Moving c.in-Moving.field-0) c.if-with-ap.true c.in-Moving.is in
    let same = ap (λ (o : Option Attempt). the_view (record { number = c.self.inside.number; drawn = c.self.inside.drawn; attempt = o; session = c.self.inside.session; memories = c.self.inside.memories; r0kh_id = c.self.inside.r0kh_id; derived = c.self.inside.derived })) (sym c.in-Some.is) ∙ c.self.view_is in
    subst (λ (t : State). Takes d (Take m.octets.now) (turn s t c.args.out.now.acts waits) c.refuse_message-in-Moving.result) (sym same)
    (takes_by d (Take m.octets.now) (turn s s c.args.out.now.acts waits) c.refuse_message-in-Moving.result (Refused reason.Unawaited) _ c.refuse_message-in-Moving.ensures.outcome c.refuse_message-in-Moving.ensures.acts c.refuse_message-in-Moving.ensures.kept refl
    (λ is. taken-roamed d s c.args.ap c.in-Moving.field-0 m.octets.now (message_fields m.message) c.args.out.now.acts waits c.requires.message there is))

pub returns-in-Some-installed : goal.returns-in-Some-installed
returns-in-Some-installed c =
    let d = c.args.here.domain.now in
    let s = the_view c.self.inside in
    let m = c.args.heard.now in
    let had = c.of-memory.result.now in
    let waits = c.hand.new.out.acts in
    let came = c.in_ok-came-in-Accepted.came in
    let t = handing (both c.in-Accepted.supplicant had) (both c.hand.new.supplicant c.hand.new.memory) c.args.out.now.acts waits in
    let node_is : c.args.here.node ≡ Sta s.number = c.requires.node ∙ ap (λ (y : State). Sta y.number) (sym c.self.view_is) in
    let done = c.finish.ensures c.in-Some.field-0.ap c.hand.new.supplicant refl in
    let new : State = record { number = s.number; drawn = s.drawn; attempt = c.finish.new.attempt; session = c.finish.new.session; memories = set_memory s.memories c.args.ap c.hand.new.memory; r0kh_id = c.holder_of-self-inside.result } in
    subst (λ (y : State). IsTaken d (Take m.octets.now) (turn y new c.args.out.now.acts waits) came.outcome) c.self.view_is
    (handed-finished d s c.in-Some.field-0 c.finish.new.attempt c.finish.new.session c.args.ap m c.in-Accepted.supplicant c.hand.new.supplicant c.in-Some-installed.tk c.holder_of-self-inside.result had c.hand.new.memory c.args.out.now.acts waits came c.in-Some.is c.if-with-ap.true c.in-Accepted.is c.self.invariant.tried
    (record { from = subst (λ (y : State). IsMessageFrom d (Sta y.number) (Ap c.args.ap) m.octets.now (message_fields m.message)) (sym c.self.view_is) c.requires.message; value = c.of-memory.ensures.value })
    (subst (λ (n : Node). IsHanded d n (Ap c.args.ap) m t came) node_is c.in_ok-came-in-Accepted.ensures.handed) c.in-Some-installed.is c.holder_of-self-inside.ensures done.0 done.1)

pub returns-in_default-installed : goal.returns-in_default-installed
returns-in_default-installed c =
    let d = c.args.here.domain.now in
    let s = the_view c.self.inside in
    let m = c.args.heard.now in
    let had = c.of-memory.result.now in
    let waits = c.hand.new.out.acts in
    let came = c.in_ok-came-in-Accepted.came in
    let t = handing (both c.in-Accepted.supplicant had) (both c.hand.new.supplicant c.hand.new.memory) c.args.out.now.acts waits in
    let node_is : c.args.here.node ≡ Sta s.number = c.requires.node ∙ ap (λ (y : State). Sta y.number) (sym c.self.view_is) in
    subst (λ (y : State). IsTaken d (Take m.octets.now) (turn y (tried_state s c.in-Some.field-0.ap c.hand.new.supplicant (set_memory s.memories c.args.ap c.hand.new.memory)) c.args.out.now.acts waits) came.outcome) c.self.view_is
    (handed-tried d s c.in-Some.field-0 c.args.ap m c.in-Accepted.supplicant c.hand.new.supplicant had c.hand.new.memory c.args.out.now.acts waits came c.in-Some.is c.if-with-ap.true c.in-Accepted.is c.self.invariant.tried
    (record { from = subst (λ (y : State). IsMessageFrom d (Sta y.number) (Ap c.args.ap) m.octets.now (message_fields m.message)) (sym c.self.view_is) c.requires.message; value = c.of-memory.ensures.value })
    (subst (λ (n : Node). IsHanded d n (Ap c.args.ap) m t came) node_is c.in_ok-came-in-Accepted.ensures.handed) c.in_default-installed.is)

-- the station as it was, for one with that attempt
abbrev as_was : (c : goal.After-take_in_session) → Option Attempt → State
as_was c o = the_view (record { number = c.self.inside.number; drawn = c.self.inside.drawn; attempt = o; session = c.self.inside.session; memories = c.self.inside.memories; r0kh_id = c.self.inside.r0kh_id; derived = c.self.inside.derived })

elsewhere : (c : goal.After-take_in_session) → c.in_default.self ≡ c.args.self.now
    → Takes c.args.here.domain.now (Take c.args.heard.now.octets.now) (turn c.args.self.now c.take_in_session.new.self c.args.out.now.acts c.take_in_session.new.out.acts) c.take_in_session.result
elsewhere c same = takes_same_old c.args.here.domain.now (Take c.args.heard.now.octets.now) c.args.self.now c.in_default.self c.take_in_session.new.self c.args.out.now.acts c.take_in_session.new.out.acts c.take_in_session.result same c.take_in_session.ensures

pub returns-in_default : goal.returns-in_default
returns-in_default c = elim c.in_default.branch [
  | in_default-via-in-Some+else-with-ap w ↦ elsewhere c (w.self-is ∙ ap (as_was c) (sym w.in-Some.is) ∙ c.self.view_is)
  | in_default-via-in_default w ↦ elsewhere c (w.self-is ∙ c.self.view_is)
]

-- the station that is handed on is the one that it was
pub take_in_session-requires-clause-listed : goal.take_in_session-requires-clause-listed
take_in_session-requires-clause-listed c = elim c.in_default.branch [
  | in_default-via-in-Some+else-with-ap w ↦ subst (λ (t : State). t.number < length c.args.here.domain.now.stas) (sym (w.self-is ∙ ap (λ (o : Option Attempt). the_view (record { number = c.self.inside.number; drawn = c.self.inside.drawn; attempt = o; session = c.self.inside.session; memories = c.self.inside.memories; r0kh_id = c.self.inside.r0kh_id; derived = c.self.inside.derived })) (sym w.in-Some.is) ∙ c.self.view_is)) c.requires.listed
  | in_default-via-in_default w ↦ subst (λ (t : State). t.number < length c.args.here.domain.now.stas) (sym (w.self-is ∙ c.self.view_is)) c.requires.listed
]

pub take_in_session-requires-clause-node : goal.take_in_session-requires-clause-node
take_in_session-requires-clause-node c = elim c.in_default.branch [
  | in_default-via-in-Some+else-with-ap w ↦ subst (λ (t : State). c.args.here.node ≡ Sta t.number) (sym (w.self-is ∙ ap (λ (o : Option Attempt). the_view (record { number = c.self.inside.number; drawn = c.self.inside.drawn; attempt = o; session = c.self.inside.session; memories = c.self.inside.memories; r0kh_id = c.self.inside.r0kh_id; derived = c.self.inside.derived })) (sym w.in-Some.is) ∙ c.self.view_is)) c.requires.node
  | in_default-via-in_default w ↦ subst (λ (t : State). c.args.here.node ≡ Sta t.number) (sym (w.self-is ∙ c.self.view_is)) c.requires.node
]

pub take_in_session-requires-clause-message : goal.take_in_session-requires-clause-message
take_in_session-requires-clause-message c = elim c.in_default.branch [
  | in_default-via-in-Some+else-with-ap w ↦ subst (λ (t : State). IsMessageFrom c.args.here.domain.now (Sta t.number) (Ap c.args.ap) c.args.heard.now.octets.now (message_fields c.args.heard.now.message)) (sym (w.self-is ∙ ap (λ (o : Option Attempt). the_view (record { number = c.self.inside.number; drawn = c.self.inside.drawn; attempt = o; session = c.self.inside.session; memories = c.self.inside.memories; r0kh_id = c.self.inside.r0kh_id; derived = c.self.inside.derived })) (sym w.in-Some.is) ∙ c.self.view_is)) c.requires.message
  | in_default-via-in_default w ↦ subst (λ (t : State). IsMessageFrom c.args.here.domain.now (Sta t.number) (Ap c.args.ap) c.args.heard.now.octets.now (message_fields c.args.heard.now.message)) (sym (w.self-is ∙ c.self.view_is)) c.requires.message
]

pub take_in_session-requires-clause-elsewhere : goal.take_in_session-requires-clause-elsewhere
take_in_session-requires-clause-elsewhere c = elim c.in_default.branch [
  | in_default-via-in-Some+else-with-ap w ↦ subst (λ (t : State). IsElsewhere (peer_of_attempt t.attempt) c.args.ap) (sym (w.self-is ∙ ap (λ (o : Option Attempt). the_view (record { number = c.self.inside.number; drawn = c.self.inside.drawn; attempt = o; session = c.self.inside.session; memories = c.self.inside.memories; r0kh_id = c.self.inside.r0kh_id; derived = c.self.inside.derived })) (sym w.in-Some.is))) (other_attempt c.self.inside.attempt w.in-Some.field-0 c.args.ap w.in-Some.is w.if-with-ap.false)
  | in_default-via-in_default w ↦ subst (λ (t : State). IsElsewhere (peer_of_attempt t.attempt) c.args.ap) (sym w.self-is) (no_attempt_there c.self.inside.attempt c.args.ap w.in_default.is)
]

pub invariant_of-self-else-with-ap : goal.invariant_of-self-else-with-ap
invariant_of-self-else-with-ap c = subst (λ (o : Option Attempt). HavePlaces o c.self.inside.session c.self.inside.memories) c.in-Some.is c.self.invariant
