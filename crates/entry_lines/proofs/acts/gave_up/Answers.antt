use Rattle.std.proofs.Common.{◌≡◌, refl}
use Rattle.run_journal.specs.declared.acts.Act.{Act}
use Rattle.run_journal.specs.declared.acts.Act.TheVariants.{GaveUp}
use Rattle.entry_lines.specs.Entries.{FitsAct, HasLine, bare_act}
use Rattle.entry_lines.specs.Lines.{act_words}
use Rattle.entry_lines.specs.Splitting.{Joins}
use Rattle.entry_lines.proofs.OfKind.{is_gave_up}
use Rattle.entry_lines.proofs.acts.gave_up.Goals as goal

pub returns : goal.returns
returns c =
    λ n. record {
      has = tt;
      is_kind = refl;
      is_bare = refl;
      same = λ number x k h f j. is_gave_up (λ (y : Act). HasLine y → FitsAct y → Joins 32 c.args.text.now (act_words number y) → GaveUp c.node_of.result c.message_of.result ≡ bare_act n y) (λ p m h f j.
          let a0 : c.node_of.result ≡ p = c.node_of.ensures p f (c.field-peer.ensures _ j) in
          let b1 : c.message_of.result ≡ m = c.message_of.ensures m (c.field-message.ensures _ j) in
          cc) x k h f j;
    }
