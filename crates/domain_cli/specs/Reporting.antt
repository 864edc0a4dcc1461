-- What is written after the lines of a journal, and how a run ends by it.
-- For the code alone: no public contract speaks of it.
use Rattle.std.specs.Prelude.{◌≡◌, ◌≢◌, ℕ, List, []}
use Rattle.domain_base.specs.Causes.{Rose}
use Rattle.run_journal.specs.declared.acts.Entry.{Entry}
use Rattle.run_journal.specs.declared.premises.Premises.{Premises}
use Rattle.run_journal.specs.Report.{summary}
use Rattle.script_runs.specs.declared.stops.Found.{Found}
use Rattle.script_runs.specs.declared.stops.Found.TheVariants as found
use Rattle.script_runs.specs.Outer.{OnDraws, OnLinks}
use Rattle.script_runs.specs.Sessions.{Output}
use Rattle.script_runs.specs.Stops.{found_blame}
use Rattle.domain_cli.specs.declared.status.Status.{Status}
use Rattle.domain_cli.specs.declared.status.Status.TheVariants.{ReadFault, WriteFault, LinkFault, DrawFault}
use Rattle.domain_cli.specs.Story.{IsText, Reports}

-- after the lines: with the whole script the summary, else nothing
abbrev pub rest_of : Found → List Entry → Premises → List ℕ
rest_of found.Whole j p = summary j p
rest_of found_ j p = []

-- what went out, and how it is told, by how the reading ended
pub record IsReported (found_ : Found) (s : Status) (first now : Output) (j : List Entry) : Type 0 where
  pub text : List ℕ
  pub is_text : IsText found_ j text
  pub reports : Reports found_ s j text first.out now.out
  pub write_fault : s ≡ WriteFault → Rose first.faults now.faults
  pub write_told : now.faults ≢ first.faults → s ≡ WriteFault
  pub read_told : found_ ≡ found.ReadFault → ¬ Rose first.faults now.faults → s ≡ ReadFault
  pub link_told : found_blame found_ ≡ OnLinks → ¬ Rose first.faults now.faults → s ≡ LinkFault
  pub draw_told : found_blame found_ ≡ OnDraws → ¬ Rose first.faults now.faults → s ≡ DrawFault
