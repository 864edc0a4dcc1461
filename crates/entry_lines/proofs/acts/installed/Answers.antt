use Rattle.std.proofs.Common.{◌≡◌, [], refl}
use Rattle.run_journal.specs.declared.acts.Act.{Act}
use Rattle.run_journal.specs.declared.acts.Act.TheVariants.{Installed}
use Rattle.entry_lines.specs.Entries.{FitsAct, HasLine, bare_act}
use Rattle.entry_lines.specs.Lines.{act_words, key_words}
use Rattle.entry_lines.specs.Splitting.{Joins}
use Rattle.entry_lines.proofs.Parting.{whole}
use Rattle.entry_lines.proofs.OfKind.{is_installed}
use Rattle.entry_lines.proofs.acts.installed.Goals as goal

pub returns : goal.returns
returns c =
    λ n. record {
      has = tt;
      is_kind = refl;
      is_bare = refl;
      same = λ number x k h f j. is_installed (λ (y : Act). HasLine y → FitsAct y → Joins 32 c.args.text.now (act_words number y) → Installed c.peer_of.result c.in_ok-key.key ≡ bare_act n y) (λ p key h f j.
          let a0 : c.peer_of.result ≡ p = c.peer_of.ensures p f.0 (c.field-peer.ensures _ j) in
          let b1 : c.in_ok-key.key ≡ key = c.in_ok-key.ensures key [] f.1 (whole (key_words key) (c.after_fields-rest.ensures _ j)) in
          cc) x k h f j;
    }
