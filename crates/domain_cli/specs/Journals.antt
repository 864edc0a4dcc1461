-- What a run did whose journal goes into a file (profile).
use Rattle.std.specs.Prelude.{◌≡◌, ◌⊎◌, ℕ, List, [], Bool, true, Option, map}
use Rattle.std.specs.Io.KnownBytes.{Consumes, IsAtEnd, Appends}
use Rattle.domain_base.specs.Causes.{AppendsPart}
use Rattle.run_journal.specs.declared.acts.Entry.{Entry}
use Rattle.run_journal.specs.Premises.{In}
use Rattle.domain_rules.specs.Present.{earlier, present}
use Rattle.entry_lines.specs.Entries.{bare}
use Rattle.whole_entries.specs.Whole.{complete}
use Rattle.journal_file.specs.File.{IsFile}
use Rattle.script_lines.specs.Script.{Draft, AtVersion, AtHeader, AtNodes, InRound}
use Rattle.frame_script.specs.declared.reader.Mode.TheVariants.{Replay}
use Rattle.script_runs.specs.declared.stops.Found.{Found}
use Rattle.script_runs.specs.declared.stops.Found.TheVariants as found
use Rattle.script_runs.specs.Script.{Rounds, point_of}
use Rattle.script_runs.specs.Story.{Tells}
use Rattle.domain_cli.specs.declared.status.Status.{Status}
use Rattle.domain_cli.specs.declared.status.Status.TheVariants.{Done, Usage, Script, Limit, ReadFault, WriteFault, NoMemory, LinkFault, DrawFault}
use Rattle.domain_cli.specs.Story.{status_of}

-- each entry of the journal, as its line tells it, is completed to that entry by the network of the script, with the keys as lines of
-- rounds before have changed them. Before a script lists nodes there is no entry
abbrev pub ReadsBack : Draft → List Entry → Type 0
ReadsBack (AtNodes h) j = (e : Entry) → In e j → complete (present h.network (earlier e.round (map bare j))) (bare e) ≡ e
ReadsBack (AtHeader awaited h) j = j ≡ []
ReadsBack AtVersion j = ⊥
ReadsBack (InRound h count) j = ⊥

-- what went out after the whole script: the file, or a part of it where the sink failed; nothing where memory ran out. It ends in no
-- other way
abbrev pub IsFiled : Status → List ℕ → List Entry → Option (List ℕ) → Option (List ℕ) → Type 0
IsFiled Done octets j old new = (text : List ℕ) × (IsFile octets j text × Appends old new text)
IsFiled WriteFault octets j old new = (text : List ℕ) × (IsFile octets j text × AppendsPart old new text)
IsFiled NoMemory octets j old new = new ≡ old
IsFiled status octets j old new = ⊥

-- what went out of the file, by the status and by how the reading ended: only after the whole script anything; memory may run out after
-- it, too
abbrev pub Filed : Draft → Found → Status → List ℕ → List Entry → Option (List ℕ) → Option (List ℕ) → Type 0
Filed draft found_ Done octets j old new = (found_ ≡ found.Whole) × (ReadsBack draft j × IsFiled Done octets j old new)
Filed draft found_ WriteFault octets j old new = (found_ ≡ found.Whole) × (ReadsBack draft j × IsFiled WriteFault octets j old new)
Filed draft found_ NoMemory octets j old new = ((found_ ≡ found.Whole) ⊎ (status_of found_ ≡ NoMemory)) × (new ≡ old)
Filed draft found_ (Script number reason mistake) octets j old new = (status_of found_ ≡ Script number reason mistake) × (new ≡ old)
Filed draft found_ (Limit which) octets j old new = (status_of found_ ≡ Limit which) × (new ≡ old)
Filed draft found_ ReadFault octets j old new = (status_of found_ ≡ ReadFault) × (new ≡ old)
Filed draft found_ LinkFault octets j old new = (status_of found_ ≡ LinkFault) × (new ≡ old)
Filed draft found_ DrawFault octets j old new = (status_of found_ ≡ DrawFault) × (new ≡ old)
Filed draft found_ Usage octets j old new = ⊥

-- a run that was asked for whose journal goes into a file: what was read, what it told, and what was written
pub record Journals (left_old left_new out_old out_new : Option (List ℕ)) (status : Status) (j : List Entry) : Type 0 where
  pub draft : Draft
  pub rounds : Rounds
  pub found_ : Found
  pub octets : List ℕ
  pub ended : Bool
  pub read : Consumes left_old left_new octets
  pub end : ended ≡ true → IsAtEnd left_new
  pub tells : Tells found_ octets ended (point_of Replay j draft rounds)
  pub files : Filed draft found_ status octets j out_old out_new
