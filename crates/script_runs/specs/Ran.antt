-- What a line does that has its meaning in both kinds of run, with what goes out for it.
-- For the code alone: no public contract speaks of it.
use Rattle.std.specs.Prelude.{◌≡◌, List, length, Option, None, Some, Result, Ok, Err}
use Rattle.domain_base.specs.Told.{LinkStory}
use Rattle.domain_base.specs.declared.outside.LinkError.{LinkError}
use Rattle.domain_base.specs.declared.outside.LinkError.TheVariants as link
use Rattle.run_journal.specs.declared.acts.Entry.{Entry}
use Rattle.script_lines.specs.declared.step.Step.{Step as Asked}
use Rattle.script_lines.specs.declared.step.Step.TheVariants as step
use Rattle.script_runs.specs.declared.state.ScriptState.{ScriptState}
use Rattle.script_runs.specs.declared.stops.Undone.{Undone}
use Rattle.script_runs.specs.declared.stops.Undone.TheVariants.{Refused, NoMemory, DrawFault, Broken, Unwritten}
use Rattle.script_runs.specs.Outer.{Outer, Blame, Nobody, OnLinks}
use Rattle.script_runs.specs.States.{Waiting, DidRun, world_of}
use Rattle.script_runs.specs.Turning.{GoesOut}

-- it was done, and all of this went out, or at an error a front of it
pub record HasDone {L T : Type 0} (told : L → Option LinkStory) (s t : ScriptState) (old new : Outer L) (j k : List Entry) (asked : Asked) (result : Result T LinkError) : Type 0 where
  pub did : DidRun (world_of s.session) (world_of t.session) s.waiting t.waiting s.reader.draft j k asked
  pub goes : GoesOut told s.reader.mode (world_of t.session) (length j) k old new result

-- the line asks for a round: it is an event outside rounds, or the end of a round
abbrev pub IsRound : Asked → Waiting → Type 0
IsRound (step.Event event) None = Unit {0}
IsRound (step.Event event) (Some events) = ⊥
IsRound step.End waiting = Unit {0}
IsRound asked waiting = ⊥

-- its round was run, but the lines could not be written, and nothing went out
pub record HasRunAlone {L : Type 0} (s t : ScriptState) (old new : Outer L) (j k : List Entry) (asked : Asked) : Type 0 where
  pub did : DidRun (world_of s.session) (world_of t.session) s.waiting t.waiting s.reader.draft j k asked
  pub round : IsRound asked s.waiting
  pub same : new ≡ old

-- or nothing was done, as memory ran out
abbrev pub RanLine : {L T : Type 0} → (L → Option LinkStory) → ScriptState → ScriptState → Outer L → Outer L → List Entry → List Entry → Asked → Result T Undone → Type 0
RanLine {L} {T} told s t old new j k asked (Ok x) = HasDone {L = L} {T = T} told s t old new j k asked (Ok x)
RanLine {L} {T} told s t old new j k asked (Err (Broken error)) = HasDone {L = L} {T = T} told s t old new j k asked (Err error)
RanLine told s t old new j k asked (Err Unwritten) = HasRunAlone s t old new j k asked
RanLine told s t old new j k asked (Err NoMemory) = (k ≡ j) × (new ≡ old)
RanLine told s t old new j k asked (Err (Refused refusal)) = ⊥
RanLine told s t old new j k asked (Err DrawFault) = ⊥

abbrev pub ran_blame : {T : Type 0} → Result T Undone → Blame
ran_blame (Err (Broken link.Failed)) = OnLinks
ran_blame result = Nobody
