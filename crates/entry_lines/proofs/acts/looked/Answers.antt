use Rattle.std.proofs.Common.{◌≡◌, [], refl, ap}
use Rattle.key_hierarchy.specs.declared.answers.PullAnswer.{PullAnswer}
use Rattle.run_journal.specs.declared.acts.Act.{Act}
use Rattle.run_journal.specs.declared.acts.Act.TheVariants.{Looked}
use Rattle.entry_lines.specs.Entries.{FitsAct, HasLine, bare_act, bare_answer}
use Rattle.entry_lines.specs.Lines.{act_words}
use Rattle.entry_lines.specs.Splitting.{Joins}
use Rattle.entry_lines.proofs.OfKind.{is_looked}
use Rattle.entry_lines.proofs.acts.looked.Goals as goal

pub returns : goal.returns
returns c =
    λ n. record {
      has = tt;
      is_kind = refl;
      is_bare = ap (λ (a : PullAnswer). Looked c.in_ok-r0kh_id.r0kh_id c.array_of.result c.node_of.result a) c.answer_of.ensures.is_bare;
      same = λ number x k h f j. is_looked (λ (y : Act). HasLine y → FitsAct y → Joins 32 c.args.text.now (act_words number y) → Looked c.in_ok-r0kh_id.r0kh_id c.array_of.result c.node_of.result c.answer_of.result ≡ bare_act n y) (λ x m p answer h f j.
          let a0 : c.in_ok-r0kh_id.r0kh_id ≡ x = c.in_ok-r0kh_id.ensures x f.0 (c.field-r0kh_id.ensures _ j) in
          let b1 : c.array_of.result ≡ m = c.array_of.ensures m f.1 (c.field-name.ensures _ j) in
          let d2 : c.node_of.result ≡ p = c.node_of.ensures p f.2 (c.field-sta.ensures _ j) in
          let e3 : c.answer_of.result ≡ bare_answer answer = c.answer_of.ensures.read answer [] f.3 (c.after_fields-rest.ensures _ j) in
          cc) x k h f j;
    }
