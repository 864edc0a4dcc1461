use Rattle.std.proofs.Common.{arith}
use Rattle.domain_world.proofs.Waits.{joined_next, waiting_next}
use Rattle.domain_world.proofs.journaling.journal_parts.Goals as goal

pub loop-part-preserved : goal.loop-part-preserved
loop-part-preserved c =
    let is = c.in-Some.ensures.steps.0 in
    let more = waiting_next c.in-Some.part c.next.new.self.rest.items c.loop-part.part-iterator.rest.items is in (
      joined_next c.args.round c.in-Some.part c.next.new.self.rest.items c.loop-part.part-iterator.rest.items c.loop-part.journal.entries c.journal_acts.new.journal.entries _ is c.journal_acts.ensures.entries c.loop-part.invariant.0,
      omega (arith, more, c.loop-part.invariant.1, c.journal_acts.ensures.room),
      omega (arith, more, c.loop-part.invariant.2, c.journal_acts.ensures.length, c.journal_acts.ensures.capacity),
      c.journal_acts.ensures.noted,
    )
