use Rattle.std.proofs.Common.{◌≡◌, ◌≤◌, ◌+◌, ◌++◌, length}
use Rattle.act_memory.proofs.room.add_all.Given as goal

-- the acts that are there and those still to come make what was to be made; there is room for them
abbrev pub invariant-loop-act : goal.invariant-loop-act
invariant-loop-act l =
    (l.out.acts ++ l.act-iterator.rest.items ≡ l.fn.out.acts ++ l.fn.acts.items)
    × (l.out.spare + length l.fn.acts.items ≡ l.fn.out.spare + length l.act-iterator.rest.items) × (length l.act-iterator.rest.items ≤ l.out.spare)
