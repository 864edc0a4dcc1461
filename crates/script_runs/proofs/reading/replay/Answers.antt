use Rattle.std.proofs.Common.{[], false}
use Rattle.std.proofs.lemmas.Bool.{false≢true}
use Rattle.script_lines.specs.Script.{AtVersion}
use Rattle.frame_script.specs.declared.reader.Mode.TheVariants.{Replay}
use Rattle.script_runs.specs.Script.{no_rounds}
use Rattle.script_runs.proofs.Copying.{copied_none}
use Rattle.script_runs.proofs.Lines.{Consumes-nil, nothing_yet}
use Rattle.script_runs.proofs.Writings.{written_nothing}
use Rattle.script_runs.proofs.reading.replay.Goals as goal

pub returns-in_default-clause-told : goal.returns-in_default-clause-told
returns-in_default-clause-told g c = ([], false, AtVersion, no_rounds, Consumes-nil _, λ e. absurd (false≢true e), nothing_yet Replay _ c.requires, copied_none c.args.copy.now)

pub returns-clause-told : goal.returns-clause-told
returns-clause-told g c =
    let told = c.read_script.ensures.told in
    (told.0, told.1, told.4.draft, told.4.rounds, told.2, told.3, told.4.tells, told.5)

pub returns-clause-written : goal.returns-clause-written
returns-clause-written g c = c.read_script.ensures.written

pub returns-in_default-clause-written : goal.returns-in_default-clause-written
returns-in_default-clause-written g c = written_nothing _ _ c.requires

pub returns-clause-fault : goal.returns-clause-fault
returns-clause-fault g c = c.read_script.ensures.fault

pub returns-clause-fault_told : goal.returns-clause-fault_told
returns-clause-fault_told g c = c.read_script.ensures.fault_told
