-- Octets on their way to a sink.
-- For the code alone: no public contract speaks of it.
use Rattle.std.specs.Prelude.{ℕ, ◌≡◌, List, ◌++◌, Option}
use Rattle.std.specs.Io.KnownBytes.{Appends}

-- the text has gone out, but for what waits
abbrev pub Waits : Option (List ℕ) → Option (List ℕ) → List ℕ → List ℕ → Type 0
Waits first now waiting text = (gone : List ℕ) × (gone ++ waiting ≡ text) × Appends first now gone
