use Rattle.std.proofs.Common.{◌≡◌, Option, refl, sym, ap, subst, ◌∙◌, ℕ, true}
use Rattle.domain_base.specs.declared.names.Node.{Node}
use Rattle.domain_base.specs.declared.names.Node.TheVariants.{Ap, Sta}
use Rattle.domain_rules.specs.Replies.{IsMessageFrom}
use Rattle.run_journal.specs.Events.{IsListed, IsPeerOf}
use Rattle.domain_rules.specs.Rows.{Take}
use Rattle.frame_intake.specs.Views.{message_fields}
use Rattle.supplicant.specs.State.{both}
use Rattle.station_node.specs.declared.session.Session.{Session}
use Rattle.station_node.specs.declared.station.StationNode.TheInside.{Inside}
use Rattle.station_node.specs.State.{State, HavePlaces, is_there, set_memory}
use Rattle.station_node.specs.Parts.{peer_of_session, opens_by, IsElsewhere}
use Rattle.station_node.specs.Steps.{IsTaken, Takes, turn}
use Rattle.station_node.specs.Handed.{IsHanded, handing}
use Rattle.station_node.specs.contracts.station.StationNode.{the_view}
use Rattle.station_node.proofs.Handed.{held_state}
use Rattle.station_node.proofs.Placed.{takes_nothing, left-held, held_place, held_places, handed-held, handed-renewed, no_session_there, other_session, refused-nowhere}
use Rattle.station_node.proofs.station.StationNode.take_beside.Goals.{in-Some-installed, in_default-installed, in_default-via-in-Some+else-with-ap, in_default-via-in_default}
use Rattle.station_node.proofs.station.StationNode.take_beside.Goals as goal

pub hand-requires-clause-listed : goal.hand-requires-clause-listed
hand-requires-clause-listed c = subst (λ (n : Node). IsListed c.args.here.domain.now n) (sym c.requires.node) c.requires.listed

pub hand-requires-clause-peer : goal.hand-requires-clause-peer
hand-requires-clause-peer c = subst (λ (n : Node). IsPeerOf c.args.here.domain.now n (Ap c.args.ap)) (sym c.requires.node) c.requires.ap

pub returns-in_err-came-in-Some : goal.returns-in_err-came-in-Some
returns-in_err-came-in-Some c =
    let s = the_view c.self.inside in
    let same = c.in_err-came-in-Some.ensures.same in
    takes_nothing c.args.here.domain.now (Take c.args.heard.now.octets.now) (turn c.args.self.now (held_state s c.in-Some.field-0.ap c.hand.new.supplicant c.in-Some.field-0.key (set_memory s.memories c.args.ap c.hand.new.memory)) c.args.out.now.acts c.hand.new.out.acts) c.from_residual.result c.from_residual.ensures.0
    (left-held s c.in-Some.field-0 c.args.ap c.in-Some.field-0.supplicant c.hand.new.supplicant c.of-kept.result.now c.hand.new.memory c.in-Some.is refl same.0 same.1 c.of-kept.ensures.value ∙ c.self.view_is)
    c.in_err-came-in-Some.ensures.kept

pub of-kept-requires : goal.of-kept-requires
of-kept-requires c = subst (λ (q : ℕ). is_there c.self.inside.memories q ≡ true) c.if-with-ap.true (held_place c.self.inside.session c.in-Some.field-0 c.self.inside.memories c.in-Some.is c.self.invariant.held)

pub invariant_of-self-else-with-ap : goal.invariant_of-self-else-with-ap
invariant_of-self-else-with-ap c = subst (λ (x : Option Session). HavePlaces c.self.inside.attempt x c.self.inside.memories) c.in-Some.is c.self.invariant

pub invariant_of-self : goal.invariant_of-self
invariant_of-self c =
    held_places c.self.inside.attempt c.self.inside.session c.in-Some.field-0 c.hand.new.supplicant c.in-Some.field-0.key c.self.inside.memories c.args.ap c.hand.new.memory c.in-Some.is c.self.invariant

pub invariant_of-self-then-with-ap : goal.invariant_of-self-then-with-ap
invariant_of-self-then-with-ap c = elim c.match-came.branch [
  | in-Some-installed w ↦ subst (λ (y : Inside). HavePlaces y.attempt y.session y.memories) (sym w.self-inside-is) (held_places c.self.inside.attempt c.self.inside.session c.in-Some.field-0 c.hand.new.supplicant w.pairwise.result c.self.inside.memories c.args.ap c.hand.new.memory c.in-Some.is c.self.invariant)
  | in_default-installed w ↦ subst (λ (y : Inside). HavePlaces y.attempt y.session y.memories) (sym w.self-inside-is) (held_places c.self.inside.attempt c.self.inside.session c.in-Some.field-0 c.hand.new.supplicant c.in-Some.field-0.key c.self.inside.memories c.args.ap c.hand.new.memory c.in-Some.is c.self.invariant)
]

pub returns-after-came : goal.returns-after-came
returns-after-came c =
    let d = c.args.here.domain.now in
    let s = the_view c.self.inside in
    let m = c.args.heard.now in
    let had = c.of-kept.result.now in
    let memories = set_memory s.memories c.args.ap c.hand.new.memory in
    let t = handing (both c.in-Some.field-0.supplicant had) (both c.hand.new.supplicant c.hand.new.memory) c.args.out.now.acts c.hand.new.out.acts in
    let node_is : c.args.here.node ≡ Sta s.number = c.requires.node ∙ ap (λ (y : State). Sta y.number) (sym c.self.view_is) in
    let came = c.in_ok-came-in-Some.came in
    let other = ap (λ (y : State). opens_by d y.attempt y.session c.args.ap m.message.message) c.self.view_is ∙ c.requires.other in
    let from : IsMessageFrom d (Sta s.number) (Ap c.args.ap) m.octets.now (message_fields m.message) = subst (λ (y : State). IsMessageFrom d (Sta y.number) (Ap c.args.ap) m.octets.now (message_fields m.message)) (sym c.self.view_is) c.requires.message in
    let handed = subst (λ (n : Node). IsHanded d n (Ap c.args.ap) m t came) node_is c.in_ok-came-in-Some.ensures.handed in
    elim c.match-came.branch [
      | in-Some-installed w ↦ subst (λ (y : Inside). IsTaken d (Take m.octets.now) (turn c.args.self.now (the_view y) c.args.out.now.acts c.hand.new.out.acts) came.outcome) (sym w.self-inside-is)
          (subst (λ (y : State). IsTaken d (Take m.octets.now) (turn y (held_state s c.in-Some.field-0.ap c.hand.new.supplicant w.pairwise.result memories) c.args.out.now.acts c.hand.new.out.acts) came.outcome) c.self.view_is
          (handed-renewed d s c.in-Some.field-0 c.args.ap m c.in-Some.field-0.supplicant c.hand.new.supplicant w.pairwise.result w.in-Some-installed.tk had c.hand.new.memory c.args.out.now.acts c.hand.new.out.acts came c.in-Some.is c.if-with-ap.true refl other c.self.invariant.held
          (record { from = from; value = c.of-kept.ensures.value }) handed w.in-Some-installed.is w.pairwise.ensures))
      | in_default-installed w ↦ subst (λ (y : Inside). IsTaken d (Take m.octets.now) (turn c.args.self.now (the_view y) c.args.out.now.acts c.hand.new.out.acts) came.outcome) (sym w.self-inside-is)
          (subst (λ (y : State). IsTaken d (Take m.octets.now) (turn y (held_state s c.in-Some.field-0.ap c.hand.new.supplicant c.in-Some.field-0.key memories) c.args.out.now.acts c.hand.new.out.acts) came.outcome) c.self.view_is
          (handed-held d s c.in-Some.field-0 c.args.ap m c.in-Some.field-0.supplicant c.hand.new.supplicant had c.hand.new.memory c.args.out.now.acts c.hand.new.out.acts came c.in-Some.is c.if-with-ap.true refl other c.self.invariant.held
          (record { from = from; value = c.of-kept.ensures.value }) handed w.in_default-installed.is))
    ]

-- the station as it was, for one with that session
abbrev as_was : (c : goal.After-refuse_message) → Option Session → State
as_was c o = the_view (record { number = c.self.inside.number; drawn = c.self.inside.drawn; attempt = c.self.inside.attempt; session = o; memories = c.self.inside.memories; r0kh_id = c.self.inside.r0kh_id; derived = c.self.inside.derived })

nowhere : (c : goal.After-refuse_message) → c.in_default.self ≡ c.args.self.now → IsElsewhere (peer_of_session c.self.inside.session) c.args.ap → Takes c.args.here.domain.now (Take c.args.heard.now.octets.now) (turn c.args.self.now c.in_default.self c.args.out.now.acts c.refuse_message.new.out.acts) c.refuse_message.result
nowhere c same held =
    refused-nowhere c.args.here.domain.now c.args.self.now c.in_default.self c.args.ap c.args.heard.now c.args.out.now.acts c.refuse_message.new.out.acts c.refuse_message.result same c.requires.message c.requires.elsewhere
    (subst (λ (t : State). IsElsewhere (peer_of_session t.session) c.args.ap) c.self.view_is held) c.refuse_message.ensures.outcome c.refuse_message.ensures.acts c.refuse_message.ensures.kept

pub returns-in_default : goal.returns-in_default
returns-in_default c = elim c.in_default.branch [
  | in_default-via-in-Some+else-with-ap w ↦ nowhere c (w.self-is ∙ ap (as_was c) (sym w.in-Some.is) ∙ c.self.view_is) (other_session c.self.inside.session w.in-Some.field-0 c.args.ap w.in-Some.is w.if-with-ap.false)
  | in_default-via-in_default w ↦ nowhere c (w.self-is ∙ c.self.view_is) (no_session_there c.self.inside.session c.args.ap w.in_default.is)
]
