-- What a reading told: the journal by the octets read, and how the reading ended (profile).
use Rattle.std.specs.Prelude.{◌≡◌, ℕ, suc, List, [], ◌∷◌, Bool, Ok, length}
use Rattle.script_lines.specs.Script.{Fault}
use Rattle.frame_script.specs.declared.mistakes.Mistake.{Mistake}
use Rattle.frame_script.specs.Live.{Draws}
use Rattle.frame_script.specs.declared.reader.Mode.TheVariants.{Live}
use Rattle.script_lines.specs.Refusals.{fault_of}
use Rattle.script_runs.specs.declared.stops.Found.{Found}
use Rattle.script_runs.specs.declared.stops.Found.TheVariants as found
use Rattle.script_runs.specs.declared.stops.Stop.{Stop}
use Rattle.script_runs.specs.declared.stops.Stop.TheVariants as stop
use Rattle.script_runs.specs.Outer.{HasRun}
use Rattle.script_runs.specs.Script.{Spells, IsJournal, HasFault, HasMistake, Point, says_in, script_limits, script_of, sizes_before}
use Rattle.text_lines.specs.Texts.{IsCutIn, IsLastIn, IsPrefixIn, IsUnendedIn, IsWholeIn, texts}

-- the lines tell these rounds, by the journal, and the journal is that of the rounds that are to be run: of a round that is
-- open nothing was run
pub record Explains (lines : List (List ℕ)) (p : Point) : Type 0 where
  pub spelled : Spells p.mode p.journal lines p.draft p.rounds
  pub journal : IsJournal p.draft p.rounds.run p.journal

-- the whole script was read, may end there, and told the journal
abbrev pub IsWhole : List ℕ → Bool → Point → Type 0
IsWhole octets ended p = IsWholeIn (script_of p.mode p.journal) (λ lines. Explains lines p) octets ended (p.draft, p.rounds)

-- the whole script was read, but may not end there, for that fault, which stands at the line after its last one; its
-- lines told the journal
abbrev pub IsUnended : Fault → ℕ → List ℕ → Bool → Point → Type 0
IsUnended fault number octets ended p = IsUnendedIn (script_of p.mode p.journal) (λ lines. Explains lines p) fault number octets ended (p.draft, p.rounds)

-- the script has its first fault in the line of that number, in which that is wrong, and the lines before it told the journal
pub record IsFaulty (fault : Fault) (mistake : Mistake) (number : ℕ) (octets : List ℕ) (ended : Bool) (p : Point) : Type 0 where
  pub good : List (List ℕ)
  pub number_is : number ≡ suc (length good)
  pub is : HasFault octets ended good p fault
  pub mistaken : HasMistake p fault mistake is.wrong
  pub explains : Explains (texts good) p

-- the source failed: all whole lines that were read told the journal, and the line after them is not too long so far
abbrev pub IsCut : List ℕ → Point → Type 0
IsCut octets p = IsCutIn script_limits (λ lines. Explains lines p) octets

-- a read asks for so many octets
abbrev pub most_read : ℕ
most_read = 512

-- memory ran out over a line, or before the first: all lines before it told the journal, and after it at most so many
-- octets were read, its line feed among them
abbrev pub IsPrefix : ℕ → List ℕ → Point → Type 0
IsPrefix most octets p = IsPrefixIn script_limits (λ lines. Explains lines p) most octets

-- in a live run a call failed over what that line tells, or ran out of memory: the lines up to it, itself among them, told the
-- journal. The line of a node told the node, whose link was not attached; that of an event or of the end of a round
-- told the round; and `turn` told those deliveries of its turn that came before
pub record IsBroken (most : ℕ) (octets : List ℕ) (ended : Bool) (p : Point) : Type 0 where
  pub good : List (List ℕ)
  pub text : List ℕ
  pub last : IsLastIn script_limits most octets ended good text
  pub live : p.mode ≡ Live
  pub explains : Explains (text ∷ texts good) p

-- the lines of the round that was run last could not be written: the lines up to the one that asked for it, itself among them, told
-- the journal, and where that one is `turn` the deliveries of its turn up to that round
pub record IsUnwritten (most : ℕ) (octets : List ℕ) (ended : Bool) (p : Point) : Type 0 where
  pub good : List (List ℕ)
  pub text : List ℕ
  pub last : IsLastIn script_limits most octets ended good text
  pub ran : HasRun p.rounds.last p.rounds.turns
  pub explains : Explains (text ∷ texts good) p

-- in a live run the seed could not be drawn, for which that line asks: the lines before it told the journal, which is empty
pub record IsUndrawn (most : ℕ) (octets : List ℕ) (ended : Bool) (p : Point) : Type 0 where
  pub good : List (List ℕ)
  pub text : List ℕ
  pub last : IsLastIn script_limits most octets ended good text
  pub live : p.mode ≡ Live
  pub asks : says_in p.mode p.draft p.rounds.asked (sizes_before (length p.rounds.run) p.journal) text ≡ Ok Draws
  pub none : p.journal ≡ []
  pub explains : Explains (texts good) p

-- why the reading stopped; after a line over which memory ran out at most so many octets came
abbrev pub StoppedBy : ℕ → Stop → List ℕ → Bool → Point → Type 0
StoppedBy most (stop.Refused number refusal mistake) octets ended p = IsFaulty (fault_of refusal) mistake number octets ended p
StoppedBy most stop.NoMemory octets ended p = IsPrefix most octets p
StoppedBy most stop.DrawFault octets ended p = IsUndrawn most octets ended p
StoppedBy most (stop.Broken error) octets ended p = IsBroken most octets ended p
StoppedBy most stop.Unwritten octets ended p = IsUnwritten most octets ended p

-- the journal at the end of the reading, by the octets read
abbrev pub Tells : Found → List ℕ → Bool → Point → Type 0
Tells found.Whole octets ended p = IsWhole octets ended p
Tells (found.Stopped stop) octets ended p = StoppedBy most_read stop octets ended p
Tells (found.Unended number refusal) octets ended p = IsUnended (fault_of refusal) number octets ended p
Tells found.ReadFault octets ended p = IsCut octets p
