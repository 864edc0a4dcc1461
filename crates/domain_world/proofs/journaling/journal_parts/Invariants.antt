use Rattle.std.proofs.Common.{◌≡◌, ◌≤◌, ◌+◌, vec_len, vec_capacity}
use Rattle.domain_world.specs.Owning.{places}
use Rattle.domain_world.specs.Waiting.{joined, waiting}
use Rattle.domain_world.proofs.journaling.journal_parts.Given as goal

-- with what still waits it is the journal that there will be, and there is room for that
abbrev pub invariant-loop-part : goal.invariant-loop-part
invariant-loop-part l =
    (joined l.round l.part-iterator.rest.items l.journal.entries ≡ joined l.round l.fn.parts.items l.fn.journal.entries)
    × (waiting l.part-iterator.rest.items ≤ l.journal.spare)
    × (vec_len l.frames + waiting l.part-iterator.rest.items ≤ vec_capacity l.frames)
    × (l.frames.items ≡ places l.journal.entries)
