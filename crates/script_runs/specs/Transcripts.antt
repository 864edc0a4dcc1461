-- A copy of the octets that a reading took from its source (profile).
use Rattle.std.specs.Prelude.{◌≡◌, ◌⊎◌, ℕ, List, ◌++◌}
use Rattle.script_runs.specs.declared.transcript.Transcript.{Transcript}
use Rattle.script_runs.specs.declared.transcript.Transcript.TheVariants.{Unkept, Kept, Short}

-- these octets are kept, and no others (profile)
abbrev pub Holds : Transcript → List ℕ → Type 0
Holds (Kept octets) these = octets.items ≡ these
Holds copy these = ⊥

-- what is kept with these octets, too: them after what was kept, unless memory ran out; and nothing where none are kept (profile)
abbrev pub IsCopy : Transcript → Transcript → List ℕ → Type 0
IsCopy Unkept new these = new ≡ Unkept
IsCopy (Kept octets) new these = Holds new (octets.items ++ these) ⊎ (new ≡ Short)
IsCopy Short new these = new ≡ Short
