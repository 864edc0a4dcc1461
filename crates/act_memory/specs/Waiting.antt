-- What contracts see of an outbox (profile).
use Rattle.std.specs.Prelude.{ℕ, List}
use Rattle.run_journal.specs.declared.acts.Act.{Act}

-- what contracts see of an outbox: the acts that wait, the first first, and for how many more there is room
pub record Waiting : Type 0 where
  pub acts : List Act
  pub spare : ℕ
