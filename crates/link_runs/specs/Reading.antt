-- The reading of the script of an end, line by line.
-- For the code alone: no public contract speaks of it.
use Rattle.std.specs.Prelude.{◌≡◌, ◌⊎◌, ℕ, ◌+◌, ◌<◌, ◌≤◌, Bool, true, false, List, [], Result, Ok, Err, Option}
use Rattle.std.specs.Io.KnownBytes.{Consumes, IsAtEnd}
use Rattle.domain_base.specs.Told.{LinkStory}
use Rattle.domain_base.specs.declared.outside.LinkError.TheVariants as link
use Rattle.run_journal.specs.declared.acts.Entry.{Entry}
use Rattle.link_steps.specs.declared.ends.LinkEnd.{LinkEnd}
use Rattle.link_lines.specs.declared.refusal.LinkRefusal.{LinkRefusal}
use Rattle.link_lines.specs.declared.refusal.LinkRefusal.TheVariants.{ManyLines}
use Rattle.link_lines.specs.declared.said.LinkSaid.TheVariants as said
use Rattle.link_lines.specs.Lines.{line_says}
use Rattle.link_lines.specs.Slips.{slip_in}
use Rattle.text_lines.specs.declared.reader.LineReader.{LineReader}
use Rattle.text_lines.specs.Reads.{HasRead}
use Rattle.text_lines.specs.Texts.{texts}
use Rattle.link_runs.specs.declared.found.Breach.TheVariants.{ByLink, ByWrite}
use Rattle.link_runs.specs.declared.found.LinkFound.{LinkFound}
use Rattle.link_runs.specs.declared.found.LinkFound.TheVariants as found
use Rattle.link_runs.specs.declared.state.LinkState.{LinkState}
use Rattle.link_runs.specs.declared.steps.Running.{Running}
use Rattle.link_runs.specs.Endings.{TellBy, Tells}
use Rattle.link_runs.specs.Standing.{BreaksLine, Met, MetPart, Outer, Stands, TellsLine, Unmoved}
use Rattle.link_runs.specs.Told.{Refuses, Told, asked_by, entries_of, script_limits}

-- ---- a line that ends the reading

-- the line is one too many after so many, or refused
abbrev pub IsRefused : LinkRefusal → ℕ → List ℕ → Told → Type 0
IsRefused refusal lines line before = ((refusal ≡ ManyLines) × (65536 ≤ lines)) ⊎ ((lines < 65536) × Refuses line before refusal)

-- why; the journal and the outside are as they were, but for a line that was not done wholly
abbrev pub StopsLine : {L : Type 0} → (L → Option LinkStory) → Outer → Outer → LinkState L → ℕ → List ℕ → List Entry → Told → LinkFound → Type 0
StopsLine told first now s lines line k before (found.Refused number refusal slip) =
    (number ≡ lines + 1) × ((slip ≡ slip_in before.draft (asked_by before) refusal line) × (IsRefused refusal lines line before × Unmoved told first now s k before))
StopsLine told first now s lines line k before found.NoMemory = Unmoved told first now s k before
StopsLine told first now s lines line k before found.DrawFault =
    (lines < 65536) × ((line_says before.draft (asked_by before) line ≡ Ok (before.draft, said.Draw)) × ((before.notes ≡ []) × Unmoved told first now s k before))
StopsLine told first now s lines line k before (found.Broken why) = (lines < 65536) × BreaksLine told why first now s line k before
StopsLine told first now s lines line k before found.Whole = ⊥
StopsLine told first now s lines line k before found.ReadFault = ⊥

abbrev pub LineEnds : {L T : Type 0} → (L → Option LinkStory) → Outer → Outer → LinkState L → ℕ → List ℕ → List Entry → Told → Result T LinkFound → Type 0
LineEnds told first now s lines line k before (Ok x) = TellsLine told first now s line k before
LineEnds told first now s lines line k before (Err found_) = StopsLine told first now s lines line k before found_

-- ---- the reading

-- the octets read so far are these lines, which told this
pub record Reached {L : Type 0} (told : L → Option LinkStory) (end : LinkEnd) (first now : Outer) (r : LineReader) (s : LinkState L) (octets : List ℕ) (j : List Entry) : Type 0 where
  pub good : List (List ℕ)
  pub t : Told
  pub has : HasRead script_limits r octets good
  pub end_is : s.reader.end ≡ end
  pub tells : TellBy end t (texts good)
  pub stands : Stands told first now s j t

-- what the outside was asked for, by how the reading ended
abbrev pub MetAfter : {L : Type 0} → LinkFound → (L → Option LinkStory) → Outer → Outer → Option (Running L) → Told → Type 0
MetAfter (found.Broken why) told first now running t = MetPart told why first now running t
MetAfter found_ told first now running t = Met told first now running t

-- the reading ended so
pub record Closes {L : Type 0} (told : L → Option LinkStory) (end : LinkEnd) (first now : Outer) (s : LinkState L) (octets : List ℕ) (ended : Bool) (k : List Entry) (found_ : LinkFound) : Type 0 where
  pub t : Told
  pub end_is : t.draft.end ≡ end
  pub tells : Tells found_ end octets ended t
  pub journal : k ≡ entries_of t.notes
  pub met : MetAfter found_ told first now s.running t

-- after some octets more
pub record Ends {L : Type 0} (told : L → Option LinkStory) (end : LinkEnd) (first now : Outer) (s : LinkState L) (left_old left_new : Option (List ℕ)) (k : List Entry) (found_ : LinkFound) : Type 0 where
  pub octets : List ℕ
  pub ended : Bool
  pub read : Consumes left_old left_new octets
  pub at_end : ended ≡ true → IsAtEnd left_new
  pub closes : Closes told end first now s octets ended k found_

-- ---- faults

abbrev pub found_short : LinkFound → Bool
found_short (found.Broken ByWrite) = true
found_short found_ = false

abbrev pub found_hurt : LinkFound → Bool
found_hurt (found.Broken (ByLink link.Failed)) = true
found_hurt found_ = false

abbrev pub found_undrawn : LinkFound → Bool
found_undrawn found.DrawFault = true
found_undrawn found_ = false

abbrev pub line_short : {T : Type 0} → Result T LinkFound → Bool
line_short (Ok x) = false
line_short (Err found_) = found_short found_

abbrev pub line_hurt : {T : Type 0} → Result T LinkFound → Bool
line_hurt (Ok x) = false
line_hurt (Err found_) = found_hurt found_

abbrev pub line_undrawn : {T : Type 0} → Result T LinkFound → Bool
line_undrawn (Ok x) = false
line_undrawn (Err found_) = found_undrawn found_
