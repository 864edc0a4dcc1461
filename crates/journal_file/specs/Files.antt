-- What went out of the file of a journal, by how its writing ended (profile).
use Rattle.std.specs.Prelude.{ℕ, ◌≡◌, List, Option, Result, Ok, Err}
use Rattle.std.specs.Io.KnownBytes.{Appends}
use Rattle.domain_base.specs.Causes.{AppendsPart}
use Rattle.run_journal.specs.declared.acts.Entry.{Entry}
use Rattle.journal_file.specs.declared.file.FileFault.{FileFault}
use Rattle.journal_file.specs.declared.file.FileFault.TheVariants.{NoMemory, WriteFault}
use Rattle.journal_file.specs.File.{IsFile}

-- the whole file, or a part of it where the sink failed; nothing where memory ran out (profile)
abbrev pub Files : {A : Type 0} → Result A FileFault → List ℕ → List Entry → Option (List ℕ) → Option (List ℕ) → Type 0
Files (Ok x) octets j old new = (text : List ℕ) × (IsFile octets j text × Appends old new text)
Files (Err WriteFault) octets j old new = (text : List ℕ) × (IsFile octets j text × AppendsPart old new text)
Files (Err NoMemory) octets j old new = new ≡ old
