use Rattle.std.proofs.Common.{◌∙◌, ◌++◌, [], ◌∷◌, suc, List, map, sym, ap, subst, length, arith}
use Rattle.std.proofs.lemmas.List.{length-map, take_all}
use Rattle.run_journal.specs.declared.domain.Event.{Event}
use Rattle.domain_world.specs.Working.{IsTurn, IsComing}
use Rattle.domain_world.specs.Acting.{IsChanged}
use Rattle.domain_world.specs.declared.world.Coming.{Coming}
use Rattle.domain_world.proofs.Played.{event_in, listed_at, index_map, map_taken}
use Rattle.domain_world.proofs.Turning.{map_more, all_more, all_at, comes_stays}
use Rattle.domain_world.proofs.world.World.turns.Goals as goal

pub comes-comes-requires-clause-event : goal.comes-comes-requires-clause-event
comes-comes-requires-clause-event c =
    let comings = c.args.comings.now in
    let i = c.loop-coming.coming-index in
    event_in c.args.self.now.domain _ c.args.journal.now.entries (map (λ x. x.event.now) comings) i c.coming-item.result.event.now (omega (arith, c.loop-coming-test.true, length-map comings (λ x. x.event.now)))
    (index_map (λ x. x.event.now) comings i c.coming-item.result c.loop-coming-test.true c.coming-item.is) c.requires.events

pub loop-coming-preserved : goal.loop-coming-preserved
loop-coming-preserved c =
    let d = c.args.self.now.domain in
    let sent = length c.args.self.now.frames in
    let j = c.args.journal.now.entries in
    let comings = c.args.comings.now in
    let i = c.loop-coming.coming-index in
    let coming = c.coming-item.result in
    let event = coming.event.now in
    let held = c.loop-coming.invariant in
    let pushed = c.in_ok-push.ensures.items in
    let low = c.loop-coming-test.true in
    let within = event_in d sent j (map (λ x. x.event.now) comings) i event (omega (arith, low, length-map comings (λ x. x.event.now))) (index_map (λ x. x.event.now) comings i coming low c.coming-item.is) c.requires.events in (
      map_more (λ t. t.event.now) c.loop-coming.turns.items _ _ pushed ∙ ap (λ (l : List Event). l ++ event ∷ []) held.0 ∙ sym (map_taken (λ x. x.event.now) comings i coming low c.coming-item.is),
      all_more (IsTurn d j (suc c.args.self.now.rounds)) c.loop-coming.turns.items _ _ pushed held.1 (c.comes-comes.ensures.happens, (listed_at d sent j event within, c.comes-comes.ensures.there, comes_stays event _ within.1)),
    )

pub returns-clause-events : goal.returns-clause-events
returns-clause-events c = c.loop-coming.invariant.0 ∙ ap (map (λ (x : Coming). x.event.now)) (take_all c.loop-coming.coming-index c.args.comings.now (omega (arith, c.loop-coming-test.false)))

pub comes-comes-requires-clause-changed : goal.comes-comes-requires-clause-changed
comes-comes-requires-clause-changed c =
    let j = c.args.journal.now.entries in
    let r = suc c.args.self.now.rounds in
    subst (IsChanged c.coming-item.result.event.now j r) (sym c.as_slice.ensures.value)
    (all_at (IsComing j r) c.args.comings.now c.loop-coming.coming-index c.coming-item.result c.requires.changed c.loop-coming-test.true c.coming-item.is)
