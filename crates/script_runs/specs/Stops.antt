-- Why a reading goes no further (profile).
use Rattle.std.specs.Prelude.{◌≡◌, ◌<◌, ◌≤◌, ◌⊎◌, ℕ, suc, List, Bool, false, Option, None, Some}
use Rattle.domain_base.specs.declared.outside.LinkError.TheVariants as link
use Rattle.run_journal.specs.declared.acts.Entry.{Entry}
use Rattle.domain_links.specs.declared.breaks.Break.TheVariants.{ByLink, ByWrite}
use Rattle.script_lines.specs.declared.refusal.Refusal.{Refusal}
use Rattle.script_lines.specs.Refusals.{fault_of}
use Rattle.frame_script.specs.Script.{end_fault}
use Rattle.script_lines.specs.Script.{Draft}
use Rattle.frame_script.specs.declared.reader.Mode.{Mode}
use Rattle.domain_base.specs.Told.{LinkStory}
use Rattle.script_runs.specs.declared.stops.Found.{Found}
use Rattle.script_runs.specs.declared.stops.Found.TheVariants as found
use Rattle.script_runs.specs.declared.stops.Stop.{Stop}
use Rattle.script_runs.specs.declared.stops.Stop.TheVariants.{Refused, NoMemory, DrawFault, Broken, Unwritten}
use Rattle.script_runs.specs.declared.stops.Undone.{Undone}
use Rattle.script_runs.specs.declared.stops.Undone.TheVariants as undone
use Rattle.script_runs.specs.Script.{Rounds, Point, Refuses, mistake_of, point_of, most_lines, too_many}
use Rattle.script_runs.specs.Story.{StoppedBy, Tells}
use Rattle.script_runs.specs.States.{BreaksLine, FailsToDraw}
use Rattle.script_runs.specs.Outer.{Outer, Blame, Nobody, OnLinks, OnDraws, IsMet, IsMetPart}

-- why it stopped, wherever the octets go on
abbrev pub Stopped : ℕ → Stop → List ℕ → Point → Type 0
Stopped most stop octets p = StoppedBy most stop octets false p

-- a line was refused
abbrev pub IsRefusal : Stop → Type 0
IsRefusal (Refused number refusal mistake) = Unit {0}
IsRefusal stop = ⊥

-- how the outside was met by then
abbrev pub MetBy : {L : Type 0} → Stop → (L → Option LinkStory) → Outer L → Outer L → Mode → Draft → Rounds → List Entry → Type 0
MetBy (Broken error) told first o m draft rounds j = IsMetPart told (ByLink error) first o m draft rounds j
MetBy Unwritten told first o m draft rounds j = IsMetPart told ByWrite first o m draft rounds j
MetBy stop told first o m draft rounds j = IsMet told first o m draft rounds j

-- the reading stopped there, and what the outside was asked for by then
pub record Halts {L : Type 0} (told : L → Option LinkStory) (first o : Outer L) (m : Mode) (most : ℕ) (stop : Stop) (octets : List ℕ) (j : List Entry) : Type 0 where
  pub draft : Draft
  pub rounds : Rounds
  pub stopped : Stopped most stop octets (point_of m j draft rounds)
  pub met : MetBy stop told first o m draft rounds j

-- what the outside was asked for until the reading ended, by how it ended
abbrev pub MetBefore : {L : Type 0} → Found → (L → Option LinkStory) → Outer L → Outer L → Mode → Draft → Rounds → List Entry → Type 0
MetBefore (found.Stopped stop) told first o m draft rounds j = MetBy stop told first o m draft rounds j
MetBefore found_ told first o m draft rounds j = IsMet told first o m draft rounds j

-- the reading ended so
pub record Closes {L : Type 0} (told : L → Option LinkStory) (first o : Outer L) (m : Mode) (found_ : Found) (octets : List ℕ) (ended : Bool) (j : List Entry) : Type 0 where
  pub draft : Draft
  pub rounds : Rounds
  pub tells : Tells found_ octets ended (point_of m j draft rounds)
  pub met : MetBefore found_ told first o m draft rounds j

-- a line is one too many after so many, or refused after what they told
abbrev pub IsRefused : Mode → Refusal → List Entry → ℕ → List ℕ → Draft → Rounds → Type 0
IsRefused m refusal j lines line draft rounds =
    ((fault_of refusal ≡ too_many) × (most_lines ≤ lines)) ⊎ ((lines < most_lines) × Refuses m j line draft rounds (fault_of refusal))

-- why a line stopped it; the journal, and the outside, are as they were but for a line that was done
abbrev pub StopsLine : {L : Type 0} → Stop → (L → Option LinkStory) → Outer L → Outer L → Outer L → Mode → ℕ → List ℕ → Draft → Rounds → List Entry → List Entry → Type 0
StopsLine (Refused number refusal mistake) told first old new m lines line draft rounds j k =
    (number ≡ suc lines) × ((mistake ≡ mistake_of (point_of m j draft rounds) (fault_of refusal) line) × (IsRefused m refusal j lines line draft rounds × ((k ≡ j) × (new ≡ old))))
StopsLine NoMemory told first old new m lines line draft rounds j k = (k ≡ j) × (new ≡ old)
StopsLine DrawFault told first old new m lines line draft rounds j k = (lines < most_lines) × (FailsToDraw m line draft rounds j k × (new ≡ old))
StopsLine (Broken error) told first old new m lines line draft rounds j k = (lines < most_lines) × BreaksLine told (ByLink error) first new m line draft rounds j k
StopsLine Unwritten told first old new m lines line draft rounds j k = (lines < most_lines) × BreaksLine told ByWrite first new m line draft rounds j k

-- how the reading ends after so many lines at the end of the source
abbrev pub EndsAt : Found → ℕ → Draft → Type 0
EndsAt found.Whole lines draft = end_fault draft ≡ None
EndsAt (found.Unended number refusal) lines draft = (number ≡ suc lines) × (end_fault draft ≡ Some (fault_of refusal))
EndsAt other lines draft = ⊥

-- to whom a line that was not done is laid
abbrev pub undone_blame : Undone → Blame
undone_blame (undone.Broken link.Failed) = OnLinks
undone_blame undone.DrawFault = OnDraws
undone_blame undone_ = Nobody

-- to whom a fault is laid, by why the reading stopped
abbrev pub stop_blame : Stop → Blame
stop_blame (Broken link.Failed) = OnLinks
stop_blame DrawFault = OnDraws
stop_blame stop_ = Nobody

-- to whom a fault is laid, by what was found
abbrev pub found_blame : Found → Blame
found_blame (found.Stopped stop) = stop_blame stop
found_blame found_ = Nobody
