use Rattle.std.proofs.Common.{◌≡◌, ℕ, List, Ok, Some, refl, sym, subst}
use Rattle.run_journal.specs.declared.domain.Version.{Version}
use Rattle.script_lines.specs.declared.header.Header.{Header}
use Rattle.script_lines.specs.declared.header.HeaderLine.TheVariants as due
use Rattle.script_lines.specs.declared.step.Step.TheVariants as step
use Rattle.frame_script.specs.Script.{line_says, version_of}
use Rattle.script_lines.specs.Script.{AtVersion, AtHeader, blank}
use Rattle.frame_script.specs.Sentences.{Takes}
use Rattle.frame_script.proofs.Keeping.{version_said, version_missing}
use Rattle.frame_script.proofs.Taking.{went}
use Rattle.frame_script.proofs.lines.take_version.Goals as goal

begins : (h : Header) (rounds : ℕ) (sizes line : List ℕ) (version : Version) → h ≡ blank version → version_of line ≡ Some version → Takes AtVersion (AtHeader due.Seed h) rounds sizes (line_says AtVersion rounds sizes line) (Ok step.Nothing)
begins h rounds sizes line version is e =
    subst (λ (x : Header). Takes AtVersion (AtHeader due.Seed x) rounds sizes (line_says AtVersion rounds sizes line) (Ok step.Nothing)) (sym is)
    (went AtVersion (AtHeader due.Seed (blank version)) rounds sizes _ (version_said rounds sizes line version e) tt)

pub returns-in-Some-clause-takes : goal.returns-in-Some-clause-takes
returns-in-Some-clause-takes c rounds sizes = begins c.blank-header.result rounds sizes c.args.line.now _ c.blank-header.ensures (sym c.in-Some.ensures)

pub returns-in-None-clause-takes : goal.returns-in-None-clause-takes
returns-in-None-clause-takes c rounds sizes = (version_missing rounds sizes _ (sym c.in-None.ensures), refl)
