-- What a reader answers to a line, by number.
use Rattle.std.proofs.Common.{◌≡◌, ℕ, List, Ok, Err}
use Rattle.frame_script.specs.declared.reader.Mode.{Mode}
use Rattle.frame_script.specs.declared.reader.Mode.TheVariants.{Replay, Live}
use Rattle.script_lines.specs.declared.step.Step.{Step}
use Rattle.script_lines.specs.declared.refusal.Untaken.{Untaken}
use Rattle.script_lines.specs.declared.refusal.Untaken.TheVariants.{Refused, NoMemory}
use Rattle.script_lines.specs.Refusals.{answer_of, fault_of, numbered}
use Rattle.frame_script.specs.Script.{line_says}
use Rattle.script_lines.specs.Script.{Fault, Outside, Past}
use Rattle.frame_script.specs.Live.{live_says}
use Rattle.frame_script.specs.Headers.{Reading, ReadsIn, TakesIn, TakesLine, TakesLive}

-- one that is taken
pub by_step : (mode : Mode) (old new : Reading) (sizes line : List ℕ) (s : Step) → ReadsIn mode old new sizes line (Ok s) → TakesIn mode old new sizes line (Ok s)
by_step Replay old new sizes line s reads = reads
by_step Live old new sizes line s reads = reads

-- and one that is not
by_fault : (old new : Reading) (sizes line : List ℕ) (fault : Fault) → line_says old.draft old.rounds sizes line ≡ Err fault → (new.draft ≡ old.draft) × (new.rounds ≡ old.rounds) → TakesLine old new sizes line (Err (answer_of fault))
by_fault old new sizes line (Outside reason) says same = (says, same)
by_fault old new sizes line (Past limit) says same = (says, same)

live_fault : (old new : Reading) (sizes line : List ℕ) (fault : Fault) → live_says old.draft old.rounds sizes line ≡ Err fault → (new.draft ≡ old.draft) × (new.rounds ≡ old.rounds) → TakesLive old new sizes line (Err (answer_of fault))
live_fault old new sizes line (Outside reason) says same = (says, same)
live_fault old new sizes line (Past limit) says same = (says, same)

pub by_number : (mode : Mode) (old new : Reading) (sizes line : List ℕ) (untaken : Untaken) → ReadsIn mode old new sizes line (Err untaken) → TakesIn mode old new sizes line (Err (numbered untaken))
by_number Replay old new sizes line (Refused refusal) reads = by_fault old new sizes line (fault_of refusal) reads.0 reads.1
by_number Replay old new sizes line NoMemory reads = reads
by_number Live old new sizes line (Refused refusal) reads = live_fault old new sizes line (fault_of refusal) reads.0 reads.1
by_number Live old new sizes line NoMemory reads = reads

pub ruleset numbering = (by_step, by_number)
