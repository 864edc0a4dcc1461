-- The entries of round 0.
use Rattle.std.proofs.Common.{◌≡◌, ◌⊎◌, ℕ, zero, suc, ◌+◌, ◌<◌, ◌≤◌, List, [], ◌∷◌, ◌++◌, length, reverse, Option, None, Some, refl, sym, ap, subst, ◌∙◌, arith, inl, inr}
use Rattle.std.specs.Prelude.{drop, slice_get, take}
use Rattle.std.proofs.lemmas.List.{reverse-append, reverse-reverse}
use Rattle.domain_base.specs.declared.names.Node.{Node}
use Rattle.domain_base.specs.declared.names.Node.TheVariants.{Ap}
use Rattle.run_journal.specs.declared.domain.Domain.{Domain}
use Rattle.run_journal.specs.declared.acts.Act.{Act}
use Rattle.run_journal.specs.declared.acts.Entry.{Entry}
use Rattle.domain_rules.specs.AccessPointRows.{start_acts}
use Rattle.domain_rules.specs.Due.{entry_of, entries_of, onto}
use Rattle.domain_rules.specs.Explained.{push, started}
use Rattle.audit_rules.specs.Wrong.{AreRight, IsFirst, first_due}
use Rattle.audit_rules.specs.declared.cause.Cause.{Cause}
use Rattle.audit_rules.specs.declared.cause.Cause.TheVariants as cause
use Rattle.audit_rules.specs.Causes.{cause_number}
use Rattle.audit_rules.specs.Looks.{AllRightUpTo, IsFirstWrong}
use Rattle.audit_rules.specs.Causes.{GroupMet}
use Rattle.audit_rules.specs.Rounds.{StartsMet, EndsBy}
use Rattle.audit_rules.proofs.Ended.{AllSafe, Whole, NextNot, assoc, both_whole, entries_both, group_broken, group_whole, next_not, onto_both, push_is}
use Rattle.audit_rules.proofs.Judged.{all_fine, append_none, by_next, differs_first, drop_all, drop_some, held_first, plain, within}

-- ---- what is due of round 0

-- the entries of access points from that one on, so many of them
abbrev due_starts : Domain → ℕ → ℕ → List Entry → List Entry
due_starts d k zero j = []
due_starts d k (suc more) j = entries_of 0 (Ap k) (start_acts d 0 (Ap k)) j ++ due_starts d (suc k) more (push 0 (Ap k) (start_acts d 0 (Ap k)) j)

one_more : (d : Domain) (k : ℕ) → push 0 (Ap k) (start_acts d 0 (Ap k)) (started d k) ≡ started d (suc k)
unfolding started
one_more d k = refl

no_start : (d : Domain) → started d zero ≡ []
unfolding started
no_start d = refl

put_starts : (d : Domain) (k m : ℕ) (j : List Entry) → j ≡ started d k → onto (due_starts d k m j) j ≡ started d (k + m)
put_starts d k zero j is = is ∙ ap (started d) (let same : k ≡ k + 0 = omega arith in same)
put_starts d k (suc m) j is =
    let g : List Act = start_acts d 0 (Ap k) in
    let next : push 0 (Ap k) g j ≡ started d (suc k) = ap (push 0 (Ap k) g) is ∙ one_more d k in
    onto_both (entries_of 0 (Ap k) g j) (due_starts d (suc k) m (push 0 (Ap k) g j)) j ∙ ap (onto (due_starts d (suc k) m (push 0 (Ap k) g j))) (sym (push_is 0 (Ap k) g j))
    ∙ put_starts d (suc k) m (push 0 (Ap k) g j) next ∙ ap (started d) (let same : suc k + m ≡ k + suc m = omega arith in same)

turned : (told j : List Entry) → onto told j ≡ reverse told ++ j
turned [] j = refl
turned (e ∷ told) j = turned told (e ∷ j) ∙ sym (ap (λ (l : List Entry). l ++ j) (reverse-append (e ∷ []) told) ∙ assoc (reverse told) (e ∷ []) j)

starts_are : (d : Domain) → due_starts d 0 (length d.aps) [] ≡ first_due d
starts_are d =
    let all : List Entry = due_starts d 0 (length d.aps) [] in
    sym (reverse-reverse all) ∙ ap reverse (sym (append_none (reverse all)) ∙ sym (turned all []) ∙ put_starts d 0 (length d.aps) [] (sym (no_start d)) ∙ ap (started d) (let same : 0 + length d.aps ≡ length d.aps = omega arith in same))

-- ---- what was met of it

starts_whole : (d : Domain) (k m : ℕ) (j told : List Entry) (at end : ℕ) → StartsMet d k m j told at end None → Whole told (due_starts d k m j) j at end
starts_whole d k zero j told at end is = record { is = ap (λ (n : ℕ). drop n told) (sym is); safe = tt; count = omega (arith, is) }
starts_whole d k (suc m) j told at end (inl (mid, (met, rest))) =
    let g : List Act = start_acts d 0 (Ap k) in
    let a = group_whole 0 (Ap k) g j told at mid met in
    let w = starts_whole d (suc k) m (push 0 (Ap k) g j) told mid end rest in
    both_whole told (entries_of 0 (Ap k) g j) (due_starts d (suc k) m (push 0 (Ap k) g j)) j at mid end a
    (subst (λ (l : List Entry). Whole told (due_starts d (suc k) m (push 0 (Ap k) g j)) l mid end) (push_is 0 (Ap k) g j) w)
starts_whole d k (suc m) j told at end (inr (c, (some, met))) = absurd (cc some)

record SomeStart (due j told : List Entry) (at end : ℕ) (c : Cause) : Type 0 where
  now : List Entry
  next : Entry
  more : List Entry
  due_is : due ≡ now ++ next ∷ more
  whole : Whole told now j at end
  not_met : NextNot told end next (onto now j) c

starts_broken : (d : Domain) (k m : ℕ) (j told : List Entry) (at end : ℕ) (c : Cause) → StartsMet d k m j told at end (Some c) → SomeStart (due_starts d k m j) j told at end c
starts_broken d k zero j told at end c met = absurd met
starts_broken d k (suc m) j told at end c (inl (mid, (met, rest))) =
    let g : List Act = start_acts d 0 (Ap k) in
    let es : List Entry = entries_of 0 (Ap k) g j in
    let a = group_whole 0 (Ap k) g j told at mid met in
    let w = starts_broken d (suc k) m (push 0 (Ap k) g j) told mid end c rest in record {
      now = es ++ w.now;
      next = w.next;
      more = w.more;
      due_is = ap (λ (l : List Entry). es ++ l) w.due_is ∙ sym (assoc es w.now (w.next ∷ w.more));
      whole = both_whole told es w.now j at mid end a (subst (λ (l : List Entry). Whole told w.now l mid end) (push_is 0 (Ap k) g j) w.whole);
      not_met = subst (λ (l : List Entry). NextNot told end w.next l c) (ap (onto w.now) (push_is 0 (Ap k) g j) ∙ sym (onto_both es w.now j)) w.not_met;
    }
starts_broken d k (suc m) j told at end c (inr (b, (some, met))) =
    let one : c ≡ b = cc some in
    let g : List Act = start_acts d 0 (Ap k) in
    let w = group_broken 0 (Ap k) g j told at end c (subst (λ (x : Cause). GroupMet 0 (Ap k) g j told at end (Some x)) (sym one) met) in
    let i : List Entry = push 0 (Ap k) w.before j in
    let x : Entry = entry_of 0 (Ap k) w.act i in
    let rest : List Entry = entries_of 0 (Ap k) w.after (x ∷ i) in
    let later : List Entry = due_starts d (suc k) m (push 0 (Ap k) g j) in
    let cut : entries_of 0 (Ap k) g j ≡ entries_of 0 (Ap k) w.before j ++ x ∷ rest = ap (λ (l : List Act). entries_of 0 (Ap k) l j) w.cut ∙ entries_both 0 (Ap k) w.before (w.act ∷ w.after) j in record {
      now = entries_of 0 (Ap k) w.before j;
      next = x;
      more = rest ++ later;
      due_is = ap (λ (l : List Entry). l ++ later) cut ∙ assoc (entries_of 0 (Ap k) w.before j) (x ∷ rest) later;
      whole = w.whole;
      not_met = subst (λ (l : List Entry). NextNot told end x l c) (push_is 0 (Ap k) w.before j) (next_not 0 (Ap k) w.act i told end c w.met);
    }

-- ---- how round 0 ended

abbrev Ended : Domain → List Entry → ℕ → Option Cause → Type 0
Ended d told end o = EndsBy (StartsMet d 0 (length d.aps) [] told 0) (length told) end o

pub met_start : (d : Domain) (told : List Entry) (end : ℕ) → Ended d told end None → IsFirstWrong d [] told end None → AreRight d [] told (first_due d)
met_start d told end (met, size) right =
    let w = starts_whole d 0 (length d.aps) [] told 0 end met in
    let now : List Entry = due_starts d 0 (length d.aps) [] in
    let is : told ≡ now = w.is ∙ ap (λ (l : List Entry). now ++ l) (drop_all told end (omega (arith, size))) ∙ append_none now in record {
      same = is ∙ starts_are d;
      fine = all_fine d (onto told []) told [] (subst (λ (l : List Entry). AllSafe l []) (sym is) w.safe) (λ q e at. right q e (let low = within told q e at in omega (arith, low, size)) at);
    }

not_met_start : (d : Domain) (told : List Entry) (end : ℕ) (c : Cause) → StartsMet d 0 (length d.aps) [] told 0 end (Some c) → AllRightUpTo d [] told end → IsFirst d [] told (first_due d) end (cause_number c)
not_met_start d told end c met right =
    let w = starts_broken d 0 (length d.aps) [] told 0 end c met in
    subst (λ (l : List Entry). IsFirst d [] told l end (cause_number c)) (sym w.due_is ∙ starts_are d) (by_next d [] told w.now w.more w.next end c w.whole.is w.whole.safe (plain end (length w.now) w.whole.count) right w.not_met)

pub fails_start : (d : Domain) (told : List Entry) (end : ℕ) (c : Cause) → Ended d told end (Some c) → IsFirstWrong d [] told end None → IsFirst d [] told (first_due d) end (cause_number c)
fails_start d told end cause.Surplus (met, more) right =
    let w = starts_whole d 0 (length d.aps) [] told 0 end met in
    let now : List Entry = due_starts d 0 (length d.aps) [] in
    let (e, (rest, there)) = drop_some told end more in
    let cut : told ≡ now ++ e ∷ rest = w.is ∙ ap (λ (l : List Entry). now ++ l) there in
    subst (λ (l : List Entry). IsFirst d [] told l end 3) (append_none now ∙ starts_are d)
    (subst (λ (n : ℕ). IsFirst d [] told (now ++ []) n 3) (sym (plain end (length (due_starts d 0 (length d.aps) [])) w.count))
    (differs_first d [] told now (e ∷ rest) [] 3 cut w.safe (subst (λ (n : ℕ). AllRightUpTo d [] told n) (plain end (length (due_starts d 0 (length d.aps) [])) w.count) right) (refl, refl) (omega arith) (λ r b differs. differs)))
fails_start d told end cause.Other ended right = not_met_start d told end cause.Other ended right
fails_start d told end cause.Missing ended right = not_met_start d told end cause.Missing ended right
fails_start d told end cause.Held ended right = not_met_start d told end cause.Held ended right
fails_start d told end cause.Installed ended right = not_met_start d told end cause.Installed ended right
fails_start d told end cause.Used ended right = not_met_start d told end cause.Used ended right
fails_start d told end cause.Joined ended right = not_met_start d told end cause.Joined ended right
fails_start d told end cause.HandedUp ended right = not_met_start d told end cause.HandedUp ended right

-- what is told begins with what is due, and all that is safe
record Front (d : Domain) (told : List Entry) (end : ℕ) : Type 0 where
  now : List Entry
  rest : List Entry
  due : now ++ rest ≡ first_due d
  is : told ≡ now ++ drop end told
  safe : AllSafe now []
  count : end ≡ length now

front_all : (d : Domain) (told : List Entry) (end : ℕ) → StartsMet d 0 (length d.aps) [] told 0 end None → Front d told end
front_all d told end met =
    let w = starts_whole d 0 (length d.aps) [] told 0 end met in
    let now : List Entry = due_starts d 0 (length d.aps) [] in record { now = now; rest = []; due = append_none now ∙ starts_are d; is = w.is; safe = w.safe; count = (plain end (length (due_starts d 0 (length d.aps) [])) w.count) }

front_some : (d : Domain) (told : List Entry) (end : ℕ) (c : Cause) → StartsMet d 0 (length d.aps) [] told 0 end (Some c) → Front d told end
front_some d told end c met =
    let w = starts_broken d 0 (length d.aps) [] told 0 end c met in record { now = w.now; rest = w.next ∷ w.more; due = sym w.due_is ∙ starts_are d; is = w.whole.is; safe = w.whole.safe; count = (plain end (length w.now) w.whole.count) }

front_of : (d : Domain) (told : List Entry) (end : ℕ) (o : Option Cause) → Ended d told end o → Front d told end
front_of d told end None ended = front_all d told end ended.0
front_of d told end (Some cause.Surplus) ended = front_all d told end ended.0
front_of d told end (Some cause.Other) ended = front_some d told end cause.Other ended
front_of d told end (Some cause.Missing) ended = front_some d told end cause.Missing ended
front_of d told end (Some cause.Held) ended = front_some d told end cause.Held ended
front_of d told end (Some cause.Installed) ended = front_some d told end cause.Installed ended
front_of d told end (Some cause.Used) ended = front_some d told end cause.Used ended
front_of d told end (Some cause.Joined) ended = front_some d told end cause.Joined ended
front_of d told end (Some cause.HandedUp) ended = front_some d told end cause.HandedUp ended

pub held_start : (d : Domain) (told : List Entry) (end place : ℕ) (o : Option Cause) → Ended d told end o → IsFirstWrong d [] told end (Some place) → IsFirst d [] told (first_due d) place 4
held_start d told end place o ended wrong =
    let f = front_of d told end o ended in
    subst (λ (l : List Entry). IsFirst d [] told l place 4) f.due (held_first d [] told f.now (drop end told) f.rest place f.is f.safe (subst (λ (n : ℕ). IsFirstWrong d [] told n (Some place)) f.count wrong))
