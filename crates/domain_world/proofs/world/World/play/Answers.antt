use Rattle.std.proofs.Common.{◌≡◌, ◌<◌, ℕ, suc, IfOk, List, [], ◌∷◌, length, map, sym, ap, subst, ◌∙◌}
use Rattle.std.specs.List.{AllByRecursion}
use Rattle.run_journal.specs.declared.domain.Domain.{Domain}
use Rattle.run_journal.specs.declared.domain.Event.{Event}
use Rattle.run_journal.specs.declared.acts.Entry.{Entry}
use Rattle.domain_world.specs.declared.working.Turn.{Turn}
use Rattle.domain_world.specs.declared.world.Coming.{Coming}
use Rattle.domain_world.specs.State.{State}
use Rattle.domain_world.specs.Owning.{AreEventsIn, Stand, nodes_of}
use Rattle.domain_world.specs.Waiting.{events_below}
use Rattle.domain_world.specs.Acting.{Played}
use Rattle.domain_world.specs.Working.{IsComing, IsFor, IsTurn}
use Rattle.domain_world.proofs.Owned.{all_below}
use Rattle.domain_world.proofs.Running.{if_ok}
use Rattle.domain_rules.specs.Network.{InForm}
use Rattle.domain_world.proofs.world.World.play.Goals as goal

pub returns-clause-played : goal.returns-clause-played
returns-clause-played g c =
    let old = c.args.self.now in
    let j = c.args.journal.now.entries in
    let ts : List Turn = c.as_slice-2.result.now in
    let is : ts ≡ c.in_ok-turns.turns.items = c.as_slice-2.ensures.value in
    let events : map (λ (t : Turn). t.event.now) ts ≡ c.args.events.now =
    ap (map (λ (t : Turn). t.event.now)) is ∙ c.in_ok-turns.ensures.events ∙ ap (map (λ (x : Coming). x.event.now)) c.as_slice.ensures.value ∙ c.in_ok-comings.ensures.events in
    let turns : AllByRecursion (IsTurn old.domain j (suc old.rounds)) ts = subst (AllByRecursion (IsTurn old.domain j (suc old.rounds))) (sym is) c.in_ok-turns.ensures.turns in
    let low = all_below old.domain old.rounds j c.requires.placed.past in
    let played = subst
    (λ (w : State). IfOk c.round.result (λ parts. (round : ℕ) (i : List Entry) → Stand (nodes_of w) i → AllByRecursion (λ (e : Entry). e.round < round) i → AllByRecursion (IsTurn w.domain i round) ts
    → Played round (events_below (length w.domain.aps) (map (λ (t : Turn). t.event.now) ts)) i (nodes_of w) c.round.new.self parts.items))
    c.self.view_is c.round.ensures.played in
    if_ok c.round.result _ _
    (λ parts w. subst (λ (es : List Event). Played (suc old.rounds) (events_below (length old.domain.aps) es) j (nodes_of old) c.round.new.self parts.items) events
    (w (suc old.rounds) j c.requires.stand low turns))
    played

pub round-requires-clause-form : goal.round-requires-clause-form
round-requires-clause-form g c = λ κs bounds. subst (λ (w : State). InForm w.domain) (sym c.self.view_is) c.requires.form

pub returns-clause-rounds : goal.returns-clause-rounds
returns-clause-rounds g c = ap (λ (w : State). w.rounds) c.self.view_is

pub returns-clause-frames : goal.returns-clause-frames
returns-clause-frames g c = ap (λ (w : State). w.frames) c.self.view_is

pub returns-clause-usable : goal.returns-clause-usable
returns-clause-usable g c = ap (λ (w : State). w.usable) c.self.view_is

pub turns-requires-clause-events : goal.turns-requires-clause-events
turns-requires-clause-events g c =
    let events = ap (map (λ (x : Coming). x.event.now)) c.as_slice.ensures.value ∙ c.in_ok-comings.ensures.events in
    subst (AreEventsIn c.args.self.now.domain (length c.args.self.now.frames) c.args.journal.now.entries) (sym events) c.requires.events

pub turns-requires-clause-changed : goal.turns-requires-clause-changed
turns-requires-clause-changed g c = subst (AllByRecursion (IsComing c.args.journal.now.entries (suc c.args.self.now.rounds))) (sym c.as_slice.ensures.value) c.in_ok-comings.ensures.changed

all_for : (d : Domain) (j : List Entry) (round : ℕ) (ts : List Turn) → AllByRecursion (IsTurn d j round) ts → AllByRecursion (IsFor d) ts
all_for d j round [] all = tt
all_for d j round (t ∷ ts) all = (all.0.1, all_for d j round ts all.1)

pub round-requires-clause-turns : goal.round-requires-clause-turns
round-requires-clause-turns g c = λ κs bounds.
    let turns = all_for c.args.self.now.domain c.args.journal.now.entries (suc c.args.self.now.rounds) _ c.in_ok-turns.ensures.turns in
    subst (λ (w : State). AllByRecursion (IsFor w.domain) c.as_slice-2.result.now) (sym c.self.view_is) (subst (AllByRecursion (IsFor c.args.self.now.domain)) (sym c.as_slice-2.ensures.value) turns)
