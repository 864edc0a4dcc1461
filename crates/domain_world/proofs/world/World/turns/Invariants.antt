use Rattle.std.proofs.Common.{◌≡◌, suc, map, take}
use Rattle.std.specs.List.{AllByRecursion}
use Rattle.domain_world.specs.Working.{IsTurn}
use Rattle.domain_world.proofs.world.World.turns.Given as goal

-- the events so far
abbrev pub invariant-loop-coming : goal.invariant-loop-coming
invariant-loop-coming l = (map (λ t. t.event.now) l.turns.items ≡ map (λ c. c.event.now) (take l.coming-index l.comings)) × AllByRecursion (IsTurn l.self.domain l.journal.entries (suc l.self.rounds)) l.turns.items
