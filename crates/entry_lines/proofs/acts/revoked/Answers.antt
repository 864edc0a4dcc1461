use Rattle.std.proofs.Common.{◌≡◌, refl, ◌∙◌}
use Rattle.run_journal.specs.declared.acts.Act.{Act}
use Rattle.run_journal.specs.declared.acts.Act.TheVariants.{Revoked}
use Rattle.entry_lines.specs.Entries.{FitsAct, HasLine, bare_act}
use Rattle.entry_lines.specs.Lines.{act_words}
use Rattle.entry_lines.specs.Splitting.{Joins}
use Rattle.entry_lines.proofs.OfKind.{is_revoked}
use Rattle.entry_lines.proofs.acts.revoked.Goals as goal

pub returns : goal.returns
returns c =
    λ n. record {
      has = c.short_of.ensures.few;
      is_kind = refl;
      is_bare = refl;
      same = λ number x k h f j. is_revoked (λ (y : Act). HasLine y → FitsAct y → Joins 32 c.args.text.now (act_words number y) → Revoked c.short_of.result c.array_of.result c.node_of.result c.revoke_of.result ≡ bare_act n y) (λ x m p answer h f j.
          let o : c.in_ok-r0kh_id.r0kh_id ≡ x = c.in_ok-r0kh_id.ensures x f.0 (c.field-r0kh_id.ensures _ j) in
          let s : c.as_slice.result.now ≡ x = c.as_slice.ensures ∙ o in
          let a0 : c.short_of.result ≡ x = c.short_of.ensures.same (rw s h) ∙ s in
          let b1 : c.array_of.result ≡ m = c.array_of.ensures m f.1 (c.field-name.ensures _ j) in
          let d2 : c.node_of.result ≡ p = c.node_of.ensures p f.2 (c.field-sta.ensures _ j) in
          let e3 : c.revoke_of.result ≡ answer = c.revoke_of.ensures answer (c.field-answer.ensures _ j) in
          cc) x k h f j;
    }
