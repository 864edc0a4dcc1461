use Rattle.std.proofs.Common.{◌≡◌, refl}
use Rattle.run_journal.specs.declared.acts.Act.{Act}
use Rattle.run_journal.specs.declared.acts.Act.TheVariants.{Closed}
use Rattle.entry_lines.specs.Entries.{FitsAct, HasLine, bare_act}
use Rattle.entry_lines.specs.Lines.{act_words}
use Rattle.entry_lines.specs.Splitting.{Joins}
use Rattle.entry_lines.proofs.OfKind.{is_closed}
use Rattle.entry_lines.proofs.acts.closed.Goals as goal

pub returns : goal.returns
returns c =
    λ n. record {
      has = tt;
      is_kind = refl;
      is_bare = refl;
      same = λ number x k h f j. is_closed (λ (y : Act). HasLine y → FitsAct y → Joins 32 c.args.text.now (act_words number y) → Closed c.node_of.result c.part_of.result ≡ bare_act n y) (λ p part h f j.
          let a0 : c.node_of.result ≡ p = c.node_of.ensures p f (c.field-peer.ensures _ j) in
          let b1 : c.part_of.result ≡ part = c.part_of.ensures part (c.field-part.ensures _ j) in
          cc) x k h f j;
    }
