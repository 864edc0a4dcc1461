use Rattle.std.proofs.Common.{◌≡◌, take}
use Rattle.holder_table.specs.Relations.{KnowsNoLess}
use Rattle.domain_world.specs.Working.{turns_at, Worked}
use Rattle.domain_world.proofs.by_ap.RoundActs.act.Given as goal

-- those of its events that came so far
abbrev pub invariant-loop-turn_of : goal.invariant-loop-turn_of
invariant-loop-turn_of l =
    Worked l.self.domain.now l.number (turns_at l.number (take l.turn_of-index l.self.turns.now)) l.fn.node l.node l.fn.holders.pass.knows.seen l.holders.pass.knows.seen l.parts.items
    × (l.node.number ≡ l.number) × KnowsNoLess l.fn.holders.table.now l.fn.holders.pass l.holders.table.now l.holders.pass
