use Rattle.std.proofs.Common.{◌≡◌, [], refl}
use Rattle.run_journal.specs.declared.acts.Act.{Act}
use Rattle.run_journal.specs.declared.acts.Act.TheVariants.{Drew}
use Rattle.entry_lines.specs.Entries.{FitsAct, HasLine, bare_act}
use Rattle.entry_lines.specs.Lines.{act_words, drawn_words}
use Rattle.entry_lines.specs.Splitting.{Joins}
use Rattle.entry_lines.proofs.Parting.{whole}
use Rattle.entry_lines.proofs.OfKind.{is_drew}
use Rattle.entry_lines.proofs.acts.drew.Goals as goal

pub returns : goal.returns
returns c =
    λ n. record {
      has = tt;
      is_kind = refl;
      is_bare = refl;
      same = λ number x k h f j. is_drew (λ (y : Act). HasLine y → FitsAct y → Joins 32 c.args.text.now (act_words number y) → Drew c.drawn_of.result ≡ bare_act n y) (λ v h f j.
          let a0 : c.drawn_of.result ≡ v = c.drawn_of.ensures v [] f (whole (drawn_words v) (c.after_fields-rest.ensures _ j)) in
          cc) x k h f j;
    }
