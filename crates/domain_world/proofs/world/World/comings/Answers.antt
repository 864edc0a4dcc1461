use Rattle.std.proofs.Common.{◌∙◌, ◌++◌, [], ◌∷◌, suc, List, sym, ap, arith}
use Rattle.std.proofs.lemmas.List.{take_all}
use Rattle.run_journal.specs.declared.domain.Event.{Event}
use Rattle.domain_world.specs.Working.{IsComing}
use Rattle.domain_world.proofs.Played.{event_in}
use Rattle.domain_world.proofs.Turning.{map_more, all_more, one_taken}
use Rattle.domain_world.proofs.world.World.comings.Goals as goal

pub changed-requires-clause-event : goal.changed-requires-clause-event
changed-requires-clause-event c =
    event_in c.args.self.now.domain _ c.args.journal.now.entries c.args.events.now c.loop-event.event-index c.event-item.result c.loop-event-test.true c.event-item.is c.requires.events

pub loop-event-preserved : goal.loop-event-preserved
loop-event-preserved c =
    let held = c.loop-event.invariant in
    let event = c.event-item.result in
    let pushed = c.in_ok-push.ensures.items in (
      map_more (λ x. x.event.now) c.loop-event.comings.items _ _ pushed ∙ ap (λ (l : List Event). l ++ event ∷ []) held.0 ∙ sym (one_taken c.args.events.now c.loop-event.event-index event c.loop-event-test.true c.event-item.is),
      all_more (IsComing c.args.journal.now.entries (suc c.args.self.now.rounds)) c.loop-event.comings.items _ _ pushed held.1 c.in_ok-changed.ensures,
    )

pub returns-clause-events : goal.returns-clause-events
returns-clause-events c = c.loop-event.invariant.0 ∙ take_all c.loop-event.event-index c.args.events.now (omega (arith, c.loop-event-test.false))
