use Rattle.std.proofs.Common.{◌≡◌, [], refl}
use Rattle.run_journal.specs.declared.acts.Act.{Act}
use Rattle.run_journal.specs.declared.acts.Act.TheVariants.{Finished}
use Rattle.entry_lines.specs.Entries.{FitsAct, HasLine, bare_act}
use Rattle.entry_lines.specs.Lines.{act_words}
use Rattle.entry_lines.specs.Splitting.{Joins}
use Rattle.entry_lines.proofs.OfKind.{is_finished}
use Rattle.entry_lines.proofs.acts.finished.Goals as goal

pub returns : goal.returns
returns c =
    λ n. record {
      has = tt;
      is_kind = refl;
      is_bare = refl;
      same = λ number x k h f j. is_finished (λ (y : Act). HasLine y → FitsAct y → Joins 32 c.args.text.now (act_words number y) → Finished c.node_of.result c.in_ok-inputs.inputs ≡ bare_act n y) (λ p i h f j.
          let a0 : c.node_of.result ≡ p = c.node_of.ensures p f.0 (c.field-peer.ensures _ j) in
          let b1 : c.in_ok-inputs.inputs ≡ i = c.in_ok-inputs.ensures i [] f.1 (c.after_fields-rest.ensures _ j) in
          cc) x k h f j;
    }
