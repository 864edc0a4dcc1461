-- What contracts see of a journal (profile).
use Rattle.std.specs.Prelude.{ℕ, List}
use Rattle.run_journal.specs.declared.acts.Entry.{Entry}

-- what contracts see of a journal: its entries, the newest first, and for how many more there is room
pub record Kept : Type 0 where
  pub entries : List Entry
  pub spare : ℕ
