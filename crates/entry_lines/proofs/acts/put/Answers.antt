use Rattle.std.proofs.Common.{◌≡◌, refl}
use Rattle.run_journal.specs.declared.acts.Act.{Act}
use Rattle.run_journal.specs.declared.acts.Act.TheVariants.{Put}
use Rattle.entry_lines.specs.Entries.{FitsAct, HasLine, bare_act}
use Rattle.entry_lines.specs.Lines.{act_words}
use Rattle.entry_lines.specs.Splitting.{Joins}
use Rattle.entry_lines.proofs.OfKind.{is_put}
use Rattle.entry_lines.proofs.acts.put.Goals as goal

pub returns : goal.returns
returns c =
    λ n. record {
      has = c.put_of.ensures.has;
      is_kind = refl;
      is_bare = refl;
      same = λ number x k h f j. is_put (λ (y : Act). HasLine y → FitsAct y → Joins 32 c.args.text.now (act_words number y) → Put c.in_ok-r0kh_id.r0kh_id c.array_of.result c.node_of.result c.put_of.result ≡ bare_act n y) (λ x m p answer h f j.
          let a0 : c.in_ok-r0kh_id.r0kh_id ≡ x = c.in_ok-r0kh_id.ensures x f.0 (c.field-r0kh_id.ensures _ j) in
          let b1 : c.array_of.result ≡ m = c.array_of.ensures m f.1 (c.field-name.ensures _ j) in
          let d2 : c.node_of.result ≡ p = c.node_of.ensures p f.2 (c.field-sta.ensures _ j) in
          let e3 : c.put_of.result ≡ answer = c.put_of.ensures.read answer h (c.field-answer.ensures _ j) in
          cc) x k h f j;
    }
