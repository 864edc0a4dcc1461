-- The run of a storm, and what of it went out (profile).
use Rattle.std.specs.Prelude.{◌≡◌, ℕ, List, Option}
use Rattle.std.specs.Io.KnownBytes.{Appends}
use Rattle.domain_base.specs.Causes.{AppendsPart}
use Rattle.run_journal.specs.declared.acts.Entry.{Entry}
use Rattle.run_journal.specs.declared.premises.Premises.{Premises}
use Rattle.run_journal.specs.Report.{Decides, summary}
use Rattle.domain_cli.specs.declared.status.Status.{Status}
use Rattle.domain_cli.specs.declared.status.Status.TheVariants.{Done, Usage, Script, Limit, ReadFault, WriteFault, NoMemory, LinkFault, DrawFault}
use Rattle.script_runs.specs.Storms.{IsWholeStorm, IsStormFront}

-- the text is the summary of the journal, whose answers are right
abbrev pub IsSummary : List Entry → List ℕ → Type 0
IsSummary j text = (p : Premises) × (Decides j p × (text ≡ summary j p))

-- what a run of a storm did, by its status: only the summary goes out, after the whole storm, and nothing where memory ran
-- out; it ends in no other way
abbrev pub StormReports : ℕ → Status → List Entry → Option (List ℕ) → Option (List ℕ) → Type 0
StormReports number Done j old new = IsWholeStorm number j × ((text : List ℕ) × (IsSummary j text × Appends old new text))
StormReports number WriteFault j old new = IsWholeStorm number j × ((text : List ℕ) × (IsSummary j text × AppendsPart old new text))
StormReports number NoMemory j old new = IsStormFront number j × (new ≡ old)
StormReports number Usage j old new = ⊥
StormReports number ReadFault j old new = ⊥
StormReports number (Script line reason mistake) j old new = ⊥
StormReports number (Limit which) j old new = ⊥
StormReports number LinkFault j old new = ⊥
StormReports number DrawFault j old new = ⊥
