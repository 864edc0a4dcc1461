use Rattle.std.proofs.Common.{◌≡◌, [], refl}
use Rattle.run_journal.specs.declared.acts.Act.{Act}
use Rattle.run_journal.specs.declared.acts.Act.TheVariants.{Sent}
use Rattle.entry_lines.specs.Entries.{FitsAct, HasLine, bare_act}
use Rattle.entry_lines.specs.Lines.{act_words, seal_words}
use Rattle.entry_lines.specs.Splitting.{Joins}
use Rattle.entry_lines.proofs.Parting.{whole}
use Rattle.entry_lines.proofs.OfKind.{is_sent}
use Rattle.entry_lines.proofs.acts.sent.Goals as goal

pub returns : goal.returns
returns c =
    λ n. record {
      has = tt;
      is_kind = refl;
      is_bare = refl;
      same = λ number x k h f j. is_sent (λ (y : Act). HasLine y → FitsAct y → Joins 32 c.args.text.now (act_words number y) → Sent c.peer_of.result c.frame_kind_of.result c.in_ok-octets.octets c.in_ok-seal.seal ≡ bare_act n y) (λ p k octets s h f j.
          let a0 : c.peer_of.result ≡ p = c.peer_of.ensures p f.0 (c.field-peer.ensures _ j) in
          let b1 : c.frame_kind_of.result ≡ k = c.frame_kind_of.ensures k (c.field-kind.ensures _ j) in
          let d2 : c.in_ok-octets.octets ≡ octets = c.in_ok-octets.ensures octets f.1 (c.field-octets.ensures _ j) in
          let e3 : c.in_ok-seal.seal ≡ s = c.in_ok-seal.ensures s [] f.2 (whole (seal_words s) (c.after_fields-rest.ensures _ j)) in
          cc) x k h f j;
    }
