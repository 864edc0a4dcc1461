use Rattle.std.proofs.Common.{◌≡◌, suc, map, take}
use Rattle.std.specs.List.{AllByRecursion}
use Rattle.domain_world.specs.Working.{IsComing}
use Rattle.domain_world.proofs.world.World.comings.Given as goal

-- the events so far
abbrev pub invariant-loop-event : goal.invariant-loop-event
invariant-loop-event l = (map (λ c. c.event.now) l.comings.items ≡ take l.event-index l.events) × AllByRecursion (IsComing l.journal.entries (suc l.self.rounds)) l.comings.items
