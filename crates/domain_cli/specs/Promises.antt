-- What `run` promises, by the command that its words ask for: what it did, what of the outside it touched, and how it
-- tells of it (profile).
use Rattle.std.specs.Prelude.{◌≡◌, ◌≢◌, ◌⊎◌, ℕ, Bool, true, false, List, [], Option, None, Some}
use Rattle.domain_base.specs.Causes.{Rose}
use Rattle.domain_base.specs.Told.{AirStory}
use Rattle.run_journal.specs.declared.acts.Entry.{Entry}
use Rattle.run_journal.specs.Premises.{Fresh, NoCollision, Unforged}
use Rattle.command_words.specs.declared.Command.{Command}
use Rattle.command_words.specs.declared.Command.TheVariants.{Journal, Replay, Live, Link, Storm}
use Rattle.domain_cli.specs.declared.status.Status.{Status}
use Rattle.domain_cli.specs.declared.status.Status.TheVariants as status
use Rattle.domain_cli.specs.Safety.{SafeRun}
use Rattle.domain_cli.specs.Story.{Runs, Lives}
use Rattle.domain_cli.specs.Storms.{StormReports}
use Rattle.domain_cli.specs.Journals.{Journals}
use Rattle.domain_cli.specs.Links.{Links}

-- ---- the outside

-- what source, sink, air and draws tell, each with the count of its calls that failed
pub record Outside : Type 0 where
  pub left : Option (List ℕ)
  pub read_faults : ℕ
  pub out : Option (List ℕ)
  pub write_faults : ℕ
  pub air : Option AirStory
  pub link_faults : ℕ
  pub last : Option (List ℕ)
  pub draw_faults : ℕ

-- what all four tell
abbrev pub outside : Option (List ℕ) → ℕ → Option (List ℕ) → ℕ → Option AirStory → ℕ → Option (List ℕ) → ℕ → Outside
outside left reads out writes air links last draws = record {
  left = left;
  read_faults = reads;
  out = out;
  write_faults = writes;
  air = air;
  link_faults = links;
  last = last;
  draw_faults = draws;
}

-- with source and sink as they tell
abbrev pub over : Outside → Option (List ℕ) → ℕ → Option (List ℕ) → ℕ → Outside
over o left reads out writes = record o { left = left; read_faults = reads; out = out; write_faults = writes }

-- with the sink alone as it tells
abbrev pub over_sink : Outside → Option (List ℕ) → ℕ → Outside
over_sink o out writes = record o { out = out; write_faults = writes }

-- ---- by command

-- what a command did, by the status that it ended with, and its journal
abbrev pub Does : Command → Outside → Outside → Status → List Entry → Type 0
Does Replay old new s j = Runs old.left new.left old.out new.out s j
Does (Live port) old new s j = Lives old.left new.left old.out new.out old.air new.air old.last new.last s j
Does (Storm number) old new s j = StormReports number s j old.out new.out
Does Journal old new s j = Journals old.left new.left old.out new.out s j
Does (Link port end) old new s j = Links end old.left new.left old.out new.out old.air new.air old.last new.last s j

-- which of the four a command asks
pub record Asked : Type 0 where
  pub source : Bool
  pub sink : Bool
  pub air : Bool
  pub draws : Bool

abbrev pub asks : Command → Asked
asks Replay = record { source = true; sink = true; air = false; draws = false }
asks (Live port) = record { source = true; sink = true; air = true; draws = true }
asks (Storm number) = record { source = false; sink = true; air = false; draws = false }
asks Journal = record { source = true; sink = true; air = false; draws = false }
asks (Link port end) = record { source = true; sink = true; air = true; draws = true }

-- where nothing of the outside failed, a script ends as done, with its fault, at a limit, or out of memory
abbrev pub EndsScript : Status → Type 0
EndsScript status.Done = Unit {0}
EndsScript (status.Script number reason mistake) = Unit {0}
EndsScript (status.Limit which) = Unit {0}
EndsScript status.NoMemory = Unit {0}
EndsScript _ = ⊥

-- where nothing of the outside failed, a storm ends as done or out of memory
abbrev pub EndsStorm : Status → Type 0
EndsStorm status.Done = Unit {0}
EndsStorm status.NoMemory = Unit {0}
EndsStorm _ = ⊥

-- how a command ends where nothing of the outside failed
abbrev pub IsAnswered : Command → Status → Type 0
IsAnswered Replay s = EndsScript s
IsAnswered (Live port) s = EndsScript s
IsAnswered (Storm number) s = EndsStorm s
IsAnswered Journal s = EndsScript s
IsAnswered (Link port end) s = EndsScript s

-- that the journal is safe, of each command that runs nodes; by command, so that it opens only where the command is known. Of one end of
-- a link it says nothing: its journal has no act of a node (profile)
abbrev pub IsSafe : Command → List Entry → Type 0
IsSafe Replay j = SafeRun j
IsSafe (Live port) j = SafeRun j
IsSafe (Storm number) j = SafeRun j
IsSafe Journal j = SafeRun j
IsSafe (Link port end) j = Unit {0}

-- ---- in all commands

-- an object that is not asked stays as it was, and none of its calls failed
pub record Unasked (a : Asked) (old new : Outside) : Type 0 where
  pub source : a.source ≡ false → (new.left ≡ old.left) × (new.read_faults ≡ old.read_faults)
  pub sink : a.sink ≡ false → (new.out ≡ old.out) × (new.write_faults ≡ old.write_faults)
  pub air : a.air ≡ false → (new.air ≡ old.air) × (new.link_faults ≡ old.link_faults)
  pub draws : a.draws ≡ false → (new.last ≡ old.last) × (new.draw_faults ≡ old.draw_faults)

-- no call of an object that is asked failed
pub record Unfailed (a : Asked) (old new : Outside) : Type 0 where
  pub source : a.source ≡ true → ¬ Rose old.read_faults new.read_faults
  pub sink : a.sink ≡ true → ¬ Rose old.write_faults new.write_faults
  pub air : a.air ≡ true → ¬ Rose old.link_faults new.link_faults
  pub draws : a.draws ≡ true → ¬ Rose old.draw_faults new.draw_faults

-- a fault is told only where a call of its object failed
abbrev pub IsCaused : Status → Outside → Outside → Type 0
IsCaused status.ReadFault old new = Rose old.read_faults new.read_faults
IsCaused status.WriteFault old new = Rose old.write_faults new.write_faults
IsCaused status.LinkFault old new = Rose old.link_faults new.link_faults
IsCaused status.DrawFault old new = Rose old.draw_faults new.draw_faults
IsCaused _ old new = Unit {0}

-- a fault that happened is told: where the sink's count is not what it was, whatever else was found, and where another's is not
-- and the sink did not fail
pub record IsTold (s : Status) (old new : Outside) : Type 0 where
  pub write : new.write_faults ≢ old.write_faults → s ≡ status.WriteFault
  pub read : new.read_faults ≢ old.read_faults → ¬ Rose old.write_faults new.write_faults → s ≡ status.ReadFault
  pub link : new.link_faults ≢ old.link_faults → ¬ Rose old.write_faults new.write_faults → s ≡ status.LinkFault
  pub draw : new.draw_faults ≢ old.draw_faults → ¬ Rose old.write_faults new.write_faults → s ≡ status.DrawFault

-- what `run` promises of a command that was asked for
pub record Keeps (c : Command) (old new : Outside) (s : Status) (j : List Entry) : Type 0 where
  pub meant : s ≢ status.Usage
  pub did : Does c old new s j
  pub unasked : Unasked (asks c) old new
  pub caused : IsCaused s old new
  pub told : IsTold s old new
  pub complete : Unfailed (asks c) old new → IsAnswered c s
  pub safe : Fresh j → NoCollision j → Unforged j → IsSafe c j

-- words that ask for no command: nothing is read, written or run, and no call failed, also where memory ran out over reading them
pub record Refuses (old new : Outside) (s : Status) (j : List Entry) : Type 0 where
  pub answer : (s ≡ status.Usage) ⊎ (s ≡ status.NoMemory)
  pub untouched : new ≡ old
  pub unrun : j ≡ []

-- what `run` promises: where the words ask for no command it refuses, and nothing is read, written, run or called; else
-- what the command did, what it left alone, how faults are told, and safety
abbrev pub Promises : Option Command → Outside → Outside → Status → List Entry → Type 0
Promises None old new s j = Refuses old new s j
Promises (Some c) old new s j = Keeps c old new s j
