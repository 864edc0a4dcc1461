use Rattle.std.proofs.Common.{◌≡◌, refl}
use Rattle.run_journal.specs.declared.acts.Act.{Act}
use Rattle.run_journal.specs.declared.acts.Act.TheVariants.{Opened}
use Rattle.entry_lines.specs.Entries.{FitsAct, HasLine, bare_act}
use Rattle.entry_lines.specs.Lines.{act_words}
use Rattle.entry_lines.specs.Splitting.{Joins}
use Rattle.entry_lines.proofs.OfKind.{is_opened}
use Rattle.entry_lines.proofs.acts.opened.Goals as goal

pub returns : goal.returns
returns c =
    λ n. record {
      has = tt;
      is_kind = refl;
      is_bare = refl;
      same = λ number x k h f j. is_opened (λ (y : Act). HasLine y → FitsAct y → Joins 32 c.args.text.now (act_words number y) → Opened c.node_of.result c.start_of.result ≡ bare_act n y) (λ p s h f j.
          let a0 : c.node_of.result ≡ p = c.node_of.ensures p f (c.field-peer.ensures _ j) in
          let b1 : c.start_of.result ≡ s = c.start_of.ensures s (c.field-start.ensures _ j) in
          cc) x k h f j;
    }
