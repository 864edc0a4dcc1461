use Rattle.std.proofs.Common.{take}
use Rattle.domain_world.specs.Working.{AreIdle}
use Rattle.domain_world.proofs.by_ap.RoundActs.has_turn.Given as goal

-- none so far
abbrev pub invariant-loop-turn_of : goal.invariant-loop-turn_of
invariant-loop-turn_of l = AreIdle l.first l.count (take l.turn_of-index l.self.turns.now)
