use Rattle.std.proofs.Common.{◌≡◌, refl}
use Rattle.run_journal.specs.declared.acts.Act.{Act}
use Rattle.run_journal.specs.declared.acts.Act.TheVariants.{Idle}
use Rattle.entry_lines.specs.Entries.{FitsAct, HasLine, bare_act}
use Rattle.entry_lines.specs.Lines.{act_words}
use Rattle.entry_lines.specs.Splitting.{Joins}
use Rattle.entry_lines.proofs.OfKind.{is_idle}
use Rattle.entry_lines.proofs.acts.idle.Goals as goal

pub returns : goal.returns
returns c =
    λ n. record {
      has = tt;
      is_kind = refl;
      is_bare = refl;
      same = λ number x k h f j. is_idle (λ (y : Act). HasLine y → FitsAct y → Joins 32 c.args.text.now (act_words number y) → Idle c.why_of.result ≡ bare_act n y) (λ y h f j.
          let a0 : c.why_of.result ≡ y = c.why_of.ensures y (c.field-why.ensures _ j) in
          cc) x k h h f j;
    }
