-- Entries in their order, and the journal that has them newest first.
use Rattle.std.proofs.Common.{◌≡◌, ℕ, suc, ◌+◌, ◌-◌, ◌^◌, ◌<◌, ◌≤◌, Bool, true, false, cond, List, [], ◌∷◌, ◌++◌, length, take, drop, get_or, reverse, refl, ap, sym, ◌∙◌, append_assoc, add-one, arith, length-take}
use Rattle.std.proofs.Math.Seq.{take-suc}
use Rattle.std.proofs.lemmas.List.{reverse-append, length-reverse, take-append-drop, append-nil}
use Rattle.run_journal.specs.declared.acts.Act.{Act}
use Rattle.run_journal.specs.declared.acts.Entry.{Entry}
use Rattle.run_journal.specs.declared.premises.Premises.{Premises}
use Rattle.run_journal.specs.Acts.{is_sent}
use Rattle.run_journal.specs.Report.{count, is_accepted, is_answered, is_handed_up, is_ignored, is_installed, is_refused, is_resumed, is_used, line, lines, summary}
use Rattle.journal_report.specs.declared.summary.Counts.{Counts}
use Rattle.journal_report.specs.Counts.{HasRoom, counts_of, counts_with, summary_text}

-- the entry behind the first i is the newest of the first i + 1
pub reverse-take : (es : List Entry) (i : ℕ) (e : Entry) → i < length es → e ≡ get_or es i e → reverse (take (i + 1) es) ≡ e ∷ reverse (take i es)
reverse-take es i e h is =
    rw (add-one, take-suc es i e h, reverse-append) (rw (← is) refl)

-- nothing is counted of an empty journal
pub none-counted : (c : Counts) → c.frames ≡ 0 → c.accepted ≡ 0 → c.answered ≡ 0 → c.refused ≡ 0 → c.ignored ≡ 0 → c.installed ≡ 0 → c.resumed ≡ 0 → c.used ≡ 0 → c.handed_up ≡ 0 → c ≡ counts_of []
unfolding count
none-counted c frames accepted answered refused ignored installed resumed used handed_up = λ i. record {
  frames = frames i;
  accepted = accepted i;
  answered = answered i;
  refused = refused i;
  ignored = ignored i;
  installed = installed i;
  resumed = resumed i;
  used = used i;
  handed_up = handed_up i;
}

-- one act more
pub counts-step : (es : List Entry) (i : ℕ) (e : Entry) → i < length es → e ≡ get_or es i e → counts_of (reverse (take (i + 1) es)) ≡ counts_with e.act (counts_of (reverse (take i es)))
unfolding count
counts-step es i e h is = rw (reverse-take es i e h is) (simp add-one)

-- no more pass the test than there are
pub count-le : (test : Act → Bool) (j : List Entry) → count test j ≤ length j
unfolding count
count-le test [] = omega arith
count-le test (e ∷ past) = elim (test e.act) as (λ b. cond b (suc (count test past)) (count test past) ≤ suc (length past)) [
  | true ↦ omega (arith, count-le test past)
  | false ↦ omega (arith, count-le test past)
]

-- no count of the first i entries is above i
pub counts-room : (es : List Entry) (i : ℕ) → i < 2 ^ 64 - 1 → HasRoom (counts_of (reverse (take i es)))
counts-room es i h =
    let j = reverse (take i es) in
    let most : length j ≤ i = omega (arith, length-reverse (take i es), length-take i es) in
    record {
      frames = omega (arith, count-le is_sent j);
      accepted = omega (arith, count-le is_accepted j);
      answered = omega (arith, count-le is_answered j);
      refused = omega (arith, count-le is_refused j);
      ignored = omega (arith, count-le is_ignored j);
      installed = omega (arith, count-le is_installed j);
      resumed = omega (arith, count-le is_resumed j);
      used = omega (arith, count-le is_used j);
      handed_up = omega (arith, count-le is_handed_up j);
    }

-- a summary is the text of its counts
pub summary-is : (j : List Entry) (p : Premises) (c : Counts) → c ≡ counts_of j → summary j p ≡ summary_text c p
unfolding summary
summary-is j p c is = ap (λ (k : Counts). summary_text k p) (sym is)

-- one line more
pub lines-step : (es : List Entry) (i : ℕ) (e : Entry) → i < length es → e ≡ get_or es i e → lines (reverse (take (i + 1) es)) ≡ lines (reverse (take i es)) ++ line e
unfolding lines
lines-step es i e h is = rw (reverse-take es i e h is) refl

pub lines-append : (late early : List Entry) → lines (late ++ early) ≡ lines early ++ lines late
unfolding lines
lines-append [] early = simp append-nil
lines-append (e ∷ late) early = rw (lines-append late early) (append_assoc (lines early) (lines late) (line e))

-- the lines of some first entries, and of the rest
pub lines-split : (es : List Entry) (i : ℕ) → lines (reverse es) ≡ lines (reverse (take i es)) ++ lines (reverse (drop i es))
lines-split es i =
    ap (λ (l : List Entry). lines (reverse l)) (sym (take-append-drop i es))
    ∙ ap lines (reverse-append (take i es) (drop i es))
    ∙ lines-append (reverse (drop i es)) (reverse (take i es))
