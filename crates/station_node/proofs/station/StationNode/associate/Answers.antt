use Rattle.std.proofs.Common.{◌<◌, length, List, refl, sym, ap, subst, ◌∙◌}
use Rattle.domain_base.specs.declared.names.Node.TheVariants.{Ap, Sta}
use Rattle.rsn_elements.specs.Fields.{element_fields}
use Rattle.frame_intake.specs.Views.{management_fields}
use Rattle.node_base.specs.Ends.{AreEnds}
use Rattle.supplicant.specs.Bases.{NamesHolder, IsBaseOf}
use Rattle.station_node.specs.State.{State, HavePlaces, memory_at}
use Rattle.station_node.proofs.Beginning.{associated_state}
use Rattle.station_node.proofs.Placed.{held_stays}
use Rattle.station_node.proofs.Responding.{names_holder, based_on}
use Rattle.station_node.proofs.Taken.{taken-response}
use Rattle.station_node.proofs.station.StationNode.associate.Goals as goal

pub invariant_of-self : goal.invariant_of-self
invariant_of-self c = subst (λ (l : List _). HavePlaces c.self.inside.attempt c.self.inside.session l) (sym c.in_err-take_accepted.ensures.err) c.self.invariant

pub begin-supplicant-requires-clause-sta : goal.begin-supplicant-requires-clause-sta
begin-supplicant-requires-clause-sta c = subst (λ (t : State). t.number < length c.args.here.domain.now.stas) (sym c.self.view_is) c.requires.listed

pub invariant_of-self-2 : goal.invariant_of-self-2
invariant_of-self-2 c = record { tried = c.in_ok-take_accepted.ensures.place; held = held_stays c.self.inside.session c.self.inside.memories c.take_accepted.new.memories c.take_accepted.ensures.more c.self.invariant.held }

pub begin-supplicant-requires-clause-holder : goal.begin-supplicant-requires-clause-holder
begin-supplicant-requires-clause-holder c =
    let d = c.args.here.domain.now in
    let e = element_fields c.args.managed.now.elements in
    λ suite. subst NamesHolder (sym c.response_fte-fte.ensures.fte) (names_holder d c.args.ap c.args.managed.now.frame.status e c.requires.raw c.requires.accepts suite)

pub returns : goal.returns
returns c =
    let d = c.args.here.domain.now in
    let m = c.args.managed.now in
    let b = management_fields m.frame in
    let e = element_fields m.elements in
    let based = based_on d c.args.self.now.number c.args.ap m.frame.status m.octets.now b e c.begin-supplicant.result.base c.requires.managed.reads c.requires.raw c.requires.accepts
    (subst (λ (l : List _). IsBaseOf d (Sta c.args.self.now.number) (Ap c.args.ap) l c.begin-supplicant.result.base) c.response_fte-fte.ensures.fte
    (subst (λ (t : State). IsBaseOf d (Sta t.number) (Ap c.args.ap) c.response_fte-fte.result.now c.begin-supplicant.result.base) c.self.view_is c.begin-supplicant.ensures.base)) in
    taken-response d c.args.self.now _ c.args.ap c.args.snonce m.octets.now b e c.begin-supplicant.result c.take_accepted.new.memories _ c.args.out.now.acts c.take_accepted.new.out.acts c.requires.managed c.requires.kind
    c.requires.requested c.requires.accepts
    (record {
      ends = subst (λ (t : State). AreEnds d (Sta t.number) (Ap c.args.ap) c.begin-supplicant.result.ends) c.self.view_is c.begin-supplicant.ensures.ends;
      based = based.0;
      attempt_is = c.begin-supplicant.ensures.attempt;
      session_is = c.begin-supplicant.ensures.session;
      names = based.1;
    })
    (λ k. c.take_accepted.ensures.same k ∙ ap (λ (t : State). memory_at t.memories k) c.self.view_is)
    (ap (λ (t : State). associated_state t c.args.ap c.begin-supplicant.result c.take_accepted.new.memories) c.self.view_is)
    refl c.in_ok-take_accepted.ensures.acts

pub begin-supplicant-requires-clause-form : goal.begin-supplicant-requires-clause-form
begin-supplicant-requires-clause-form c = c.requires.form

pub begin-supplicant-requires-clause-ap : goal.begin-supplicant-requires-clause-ap
begin-supplicant-requires-clause-ap c = c.requires.ap
