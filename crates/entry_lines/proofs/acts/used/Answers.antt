use Rattle.std.proofs.Common.{◌≡◌, refl}
use Rattle.run_journal.specs.declared.acts.Act.{Act}
use Rattle.run_journal.specs.declared.acts.Act.TheVariants.{Used}
use Rattle.entry_lines.specs.Entries.{FitsAct, HasLine, bare_act}
use Rattle.entry_lines.specs.Lines.{act_words}
use Rattle.entry_lines.specs.Splitting.{Joins}
use Rattle.entry_lines.proofs.OfKind.{is_used}
use Rattle.entry_lines.proofs.acts.used.Goals as goal

pub returns : goal.returns
returns c =
    λ n. record {
      has = tt;
      is_kind = refl;
      is_bare = refl;
      same = λ number x k h f j. is_used (λ (y : Act). HasLine y → FitsAct y → Joins 32 c.args.text.now (act_words number y) → Used c.peer_of.result c.array_of.result c.byte_of.result c.number_of.result c.in_ok-octets.octets ≡ bare_act n y) (λ p key id n octets h f j.
          let a0 : c.peer_of.result ≡ p = c.peer_of.ensures p f.0 (c.field-peer.ensures _ j) in
          let b1 : c.array_of.result ≡ key = c.array_of.ensures key f.1 (c.field-key.ensures _ j) in
          let d2 : c.byte_of.result ≡ id = c.byte_of.ensures id f.2 (c.field-id.ensures _ j) in
          let e3 : c.number_of.result ≡ n = c.number_of.ensures n f.3 (c.field-number.ensures _ j) in
          let g4 : c.in_ok-octets.octets ≡ octets = c.in_ok-octets.ensures octets f.4 (c.field-octets.ensures _ j) in
          cc) x k h f j;
    }
