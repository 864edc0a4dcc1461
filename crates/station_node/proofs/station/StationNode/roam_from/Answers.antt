use Rattle.std.proofs.Common.{◌≡◌, ◌<◌, length, arith, ◌++◌, ◌∷◌, [], List, refl, sym, ap, subst, ◌∙◌}
use Rattle.std.specs.Prelude.{Ok}
use Rattle.domain_base.specs.declared.names.Node.{Node}
use Rattle.domain_base.specs.declared.names.Node.TheVariants.{Ap, Sta}
use Rattle.run_journal.specs.declared.acts.Act.{Act}
use Rattle.run_journal.specs.declared.acts.Act.TheVariants.{Opened, Drew}
use Rattle.run_journal.specs.declared.acts.Drawn.TheVariants.{Nonce}
use Rattle.run_journal.specs.declared.acts.Start.TheVariants.{Roam as ByRoam}
use Rattle.run_journal.specs.declared.acts.Why.TheVariants as why
use Rattle.run_journal.specs.declared.acts.Outcome.TheVariants.{Done, Idle as IdleBy}
use Rattle.domain_rules.specs.Network.{nonce}
use Rattle.run_journal.specs.Events.{IsListed, IsPeerOf}
use Rattle.domain_rules.specs.Rows.{Roam}
use Rattle.domain_rules.specs.Closing.{close_pending}
use Rattle.ft_exchange.specs.OriginatorSteps.{IsBegun}
use Rattle.ft_exchange.specs.Told.{transition_sent}
use Rattle.transition_acts.specs.Rooms.{IsSendRoom}
use Rattle.station_node.specs.State.{State, HavePlaces}
use Rattle.station_node.specs.Parts.{peer_of_attempt, CanRoam, roams_from}
use Rattle.station_node.specs.Steps.{turn, IsTaken}
use Rattle.station_node.specs.contracts.station.StationNode.{the_view}
use Rattle.station_node.proofs.Roamed.{roamed_places}
use Rattle.station_node.proofs.Taken.{takes_by}
use Rattle.station_node.proofs.RoamRows.{roams_from_is, roamed_state, taken-cannot, taken-roamed}
use Rattle.station_node.proofs.station.StationNode.roam_from.Goals as goal

pub returns-then-not-can_roam : goal.returns-then-not-can_roam
returns-then-not-can_roam c =
    let d = c.args.here.domain.now in
    let s = c.args.self.now in
    takes_by d (Roam c.args.ap) (turn s s c.args.out.now.acts c.idle.new.out.acts) c.idle.result (IdleBy why.NoSession) _ c.idle.ensures.outcome c.idle.ensures.acts c.idle.ensures.kept refl
    (λ is. taken-cannot d s c.args.ap c.args.current c.args.out.now.acts c.idle.new.out.acts c.requires.suite c.requires.from
    (subst (λ (t : State). CanRoam d c.args.current t.r0kh_id → ⊥) c.self.view_is (subst (λ (l : List _). CanRoam d c.args.current l → ⊥) c.as_slice-r0kh_id.ensures (c.can_roam.ensures.wrong c.if-not-can_roam.true))))

pub returns : goal.returns
returns c =
    let d = c.args.here.domain.now in
    let s = the_view c.self.inside in
    let node_is : c.args.here.node ≡ Sta s.number = c.requires.node ∙ ap (λ (t : State). Sta t.number) (sym c.self.view_is) in
    let v = c.nonce-snonce.result in
    let o = c.begin-originator.result in
    let reply = c.begin-originator.ensures.0 in
    let memories = c.reserve_transition.new.memories in
    let closed = c.args.out.now.acts ++ close_pending (peer_of_attempt s.attempt) in
    let opened = closed ++ Opened (Ap c.args.ap) ByRoam ∷ Drew (Nonce v) ∷ [] in
    subst (λ (t : State). IsTaken d (Roam c.args.ap) (turn t (roamed_state s c.args.ap o memories) c.args.out.now.acts c.begin-originator.new.out.acts) Done) c.self.view_is
    (taken-roamed d s _ c.args.ap c.args.current v o reply memories c.args.out.now.acts closed opened c.begin-originator.new.out.acts c.requires.suite c.requires.ap
    (subst (λ (t : State). roams_from t.session c.args.ap t.drawn ≡ Ok c.args.current) (sym c.self.view_is) c.requires.from)
    (c.nonce-snonce.ensures ∙ ap (λ (n : Node). nonce d n s.drawn) node_is)
    (subst (λ (id : List _). IsBegun d (Sta s.number) (Ap c.args.ap) (Ap c.args.current) id v o reply) c.as_slice-r0kh_id.ensures c.begin-originator.ensures.1) c.reserve_transition.ensures.same refl refl refl
    (c.begin-originator.ensures.2 ∙ ap (λ (l : List Act). ((l ++ close_pending (peer_of_attempt s.attempt)) ++ Opened (Ap c.args.ap) ByRoam ∷ Drew (Nonce v) ∷ []) ++ transition_sent d (Sta s.number) (Ap c.args.ap) reply) c.reserve_transition.ensures.acts))

pub begin-originator-requires-clause-room : goal.begin-originator-requires-clause-room
begin-originator-requires-clause-room c =
    let node_is : c.args.here.node ≡ Sta c.self.inside.number = c.requires.node ∙ ap (λ (t : State). Sta t.number) (sym c.self.view_is) in
    subst (λ (n : Node). IsSendRoom c.args.here.domain.now n (Ap c.args.ap) c.in_ok-send.send) node_is c.in_ok-send.ensures.room

pub invariant_of-self-2 : goal.invariant_of-self-2
invariant_of-self-2 c =
    roamed_places c.self.inside.session c.args.ap c.begin-originator.result c.self.inside.memories c.reserve_transition.new.memories c.reserve_transition.ensures.more c.in_ok-send.ensures.place c.self.invariant.held

pub invariant_of-self : goal.invariant_of-self
invariant_of-self c = subst (λ (l : List _). HavePlaces c.self.inside.attempt c.self.inside.session l) (sym c.in_err-send.ensures.err) c.self.invariant

pub begin-originator-requires-clause-sta : goal.begin-originator-requires-clause-sta
begin-originator-requires-clause-sta c = subst (λ (t : State). t.number < length c.args.here.domain.now.stas) (sym c.self.view_is) c.requires.listed

pub begin-originator-requires-clause-ap : goal.begin-originator-requires-clause-ap
begin-originator-requires-clause-ap c = c.requires.ap

pub begin-originator-requires-clause-can : goal.begin-originator-requires-clause-can
begin-originator-requires-clause-can c = c.can_roam.ensures.right c.if-not-can_roam.false

pub nonce-snonce-requires : goal.nonce-snonce-requires
nonce-snonce-requires c = subst (λ (n : Node). IsListed c.args.here.domain.now n) (sym c.requires.node) c.requires.listed

pub overflow_add-self : goal.overflow_add-self
overflow_add-self c =
    let from = roams_from_is (the_view c.self.inside) c.args.ap c.args.current (subst (λ (t : State). roams_from t.session c.args.ap t.drawn ≡ Ok c.args.current) (sym c.self.view_is) c.requires.from) in
    omega (arith, from.early)

pub begin-originator-requires-clause-suite : goal.begin-originator-requires-clause-suite
begin-originator-requires-clause-suite c = c.requires.suite

pub reserve_transition-requires-clause-listed : goal.reserve_transition-requires-clause-listed
reserve_transition-requires-clause-listed c = subst (λ (n : Node). IsListed c.args.here.domain.now n) (sym c.requires.node) c.requires.listed

pub reserve_transition-requires-clause-peer : goal.reserve_transition-requires-clause-peer
reserve_transition-requires-clause-peer c = subst (λ (n : Node). IsPeerOf c.args.here.domain.now n (Ap c.args.ap)) (sym c.requires.node) c.requires.ap
