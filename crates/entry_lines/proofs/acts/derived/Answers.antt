use Rattle.std.proofs.Common.{◌≡◌, [], ◌∷◌, refl}
use Rattle.run_journal.specs.declared.acts.Act.{Act}
use Rattle.run_journal.specs.declared.acts.Act.TheVariants.{Derived}
use Rattle.run_journal.specs.Report.{hex}
use Rattle.entry_lines.specs.Entries.{FitsAct, HasLine, bare_act}
use Rattle.entry_lines.specs.Lines.{act_words, ptk_octets}
use Rattle.entry_lines.specs.Splitting.{Joins}
use Rattle.entry_lines.proofs.OfKind.{is_derived}
use Rattle.entry_lines.proofs.acts.derived.Goals as goal

pub returns : goal.returns
returns c =
    record {
      has = tt;
      is_kind = refl;
      is_bare = refl;
      same = λ number x k h f j. is_derived (λ (y : Act). HasLine y → FitsAct y → Joins 32 c.args.text.now (act_words number y) → Derived c.args.node c.in_ok-inputs.inputs c.ptk_of.result ≡ bare_act c.args.node y) (λ p i k h f j.
          let a0 : c.in_ok-inputs.inputs ≡ i = c.in_ok-inputs.ensures i (hex (ptk_octets k) ∷ []) f.1 (c.after_fields-rest.ensures _ j) in
          let b1 : c.ptk_of.result ≡ k = c.ptk_of.ensures k f.2 (c.field-ptk.ensures _ j) in
          cc) x k h f j;
    }
