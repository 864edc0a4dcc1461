-- What is kept of one access point is lent out of what is kept of all (this project's choice).
-- For the code alone: no public contract speaks of it.
use Rattle.std.specs.Prelude.{ℕ, List}
use Rattle.std.specs.Borrow.{Lends, MutBor, Fml}
use Rattle.group_key.specs.Keys.{Memories}
use Rattle.group_key.specs.contracts.memory.GroupMemory.{the_row as memory}
use Rattle.station_node.specs.contracts.memories.Memories.{the_row as all}
use Rattle.station_node.specs.State.{set_memory}

-- it ends as what is lent does, in its place
abbrev pub IsLentAt : ℕ → MutBor (List (ℕ × Memories)) → MutBor Memories → Fml
IsLentAt p memories lent = Lends all memory memories lent (λ m. set_memory memories.now p m)
