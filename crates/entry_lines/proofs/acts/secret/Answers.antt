use Rattle.std.proofs.Common.{◌≡◌, refl}
use Rattle.run_journal.specs.declared.acts.Act.{Act}
use Rattle.run_journal.specs.declared.acts.Act.TheVariants.{Secret}
use Rattle.entry_lines.specs.Entries.{FitsAct, HasLine, bare_act}
use Rattle.entry_lines.specs.Lines.{act_words}
use Rattle.entry_lines.specs.Splitting.{Joins}
use Rattle.entry_lines.proofs.OfKind.{is_secret}
use Rattle.entry_lines.proofs.acts.secret.Goals as goal

pub returns : goal.returns
returns c =
    λ n. record {
      has = tt;
      is_kind = refl;
      is_bare = refl;
      same = λ number x k h f j. is_secret (λ (y : Act). HasLine y → FitsAct y → Joins 32 c.args.text.now (act_words number y) → Secret c.node_of.result c.array_of.result ≡ bare_act n y) (λ p psk h f j.
          let a0 : c.node_of.result ≡ p = c.node_of.ensures p f.0 (c.field-sta.ensures _ j) in
          let b1 : c.array_of.result ≡ psk = c.array_of.ensures psk f.1 (c.field-psk.ensures _ j) in
          cc) x k h f j;
    }
