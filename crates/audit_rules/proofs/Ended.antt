-- Where the entries told of a round end to be those that are due, and safe, is the first place at which something is wrong.
use Rattle.std.proofs.Common.{◌≡◌, ◌≢◌, ◌⊎◌, ℕ, zero, suc, ◌+◌, ◌<◌, ◌≤◌, List, [], ◌∷◌, ◌++◌, length, Option, None, Some, refl, sym, ap, subst, ◌∙◌, arith, inl, inr}
use Rattle.std.specs.Prelude.{drop, slice_get, take}
use Rattle.domain_base.specs.declared.names.Node.{Node}
use Rattle.key_hierarchy.specs.declared.answers.PullAnswer.{PullAnswer}
use Rattle.run_journal.specs.declared.domain.Domain.{Domain}
use Rattle.run_journal.specs.declared.domain.Event.{Event}
use Rattle.run_journal.specs.declared.acts.Act.{Act}
use Rattle.run_journal.specs.declared.acts.Entry.{Entry}
use Rattle.run_journal.specs.Questions.{history}
use Rattle.domain_rules.specs.Due.{AllCanCome, GroupBy, Due, DueInRound, answer_in, entry_of, entries_of, onto}
use Rattle.domain_rules.specs.Explained.{push}
use Rattle.domain_rules.specs.Rounds.{Place}
use Rattle.domain_rules.specs.Here.{here}
use Rattle.domain_rules.proofs.SomeGroupBy.{some_group_by}
use Rattle.audit_rules.specs.declared.cause.Cause.{Cause}
use Rattle.audit_rules.specs.declared.cause.Cause.TheVariants as cause
use Rattle.audit_rules.specs.Causes.{ActMet, IsSafeAt, Lacks}
use Rattle.audit_rules.specs.Causes.{GroupMet}
use Rattle.audit_rules.specs.Rounds.{PlacesMet}

-- ---- lists

pub assoc : {A : Type 0} (xs ys zs : List A) → (xs ++ ys) ++ zs ≡ xs ++ (ys ++ zs)
assoc [] ys zs = refl
assoc (x ∷ xs) ys zs = ap (λ l. x ∷ l) (assoc xs ys zs)

drop_at : (told : List Entry) (k : ℕ) (e : Entry) → slice_get told k ≡ Some e → drop k told ≡ e ∷ drop (suc k) told
drop_at [] k e at = absurd (cc at)
drop_at (x ∷ told) zero e at = (let same : x ≡ e = cc at in ap (λ (y : Entry). y ∷ told) same)
drop_at (x ∷ told) (suc k) e at = drop_at told k e at

drop_front : (xs ys : List Entry) → drop (length xs) (xs ++ ys) ≡ ys
drop_front [] ys = refl
drop_front (x ∷ xs) ys = drop_front xs ys

pub onto_both : (xs ys j : List Entry) → onto (xs ++ ys) j ≡ onto ys (onto xs j)
onto_both [] ys j = refl
onto_both (e ∷ xs) ys j = onto_both xs ys (e ∷ j)

-- ---- groups as entries

pub push_is : (round : ℕ) (n : Node) (g : List Act) (j : List Entry) → push round n g j ≡ onto (entries_of round n g j) j
push_is round n [] j = refl
push_is round n (act ∷ g) j = push_is round n g (entry_of round n act j ∷ j)

count_entries : (round : ℕ) (n : Node) (g : List Act) (j : List Entry) → length (entries_of round n g j) ≡ length g
count_entries round n [] j = refl
count_entries round n (act ∷ g) j = ap suc (count_entries round n g (entry_of round n act j ∷ j))

pub entries_both : (round : ℕ) (n : Node) (f g : List Act) (j : List Entry) → entries_of round n (f ++ g) j ≡ entries_of round n f j ++ entries_of round n g (push round n f j)
entries_both round n [] g j = refl
entries_both round n (act ∷ f) g j = ap (λ (l : List Entry). entry_of round n act j ∷ l) (entries_both round n f g (entry_of round n act j ∷ j))

-- each is safe, one after the other
abbrev pub AllSafe : List Entry → List Entry → Type 0
AllSafe [] past = Unit {0}
AllSafe (e ∷ told) past = IsSafeAt e past × AllSafe told (e ∷ past)

safe_both : (xs ys j : List Entry) → AllSafe xs j → AllSafe ys (onto xs j) → AllSafe (xs ++ ys) j
safe_both [] ys j a b = b
safe_both (e ∷ xs) ys j a b = (a.0, safe_both xs ys (e ∷ j) a.1 b)

-- ---- what a group tells

pub record Whole (told now j : List Entry) (at end : ℕ) : Type 0 where
  pub is : drop at told ≡ now ++ drop end told
  pub safe : AllSafe now j
  pub count : end ≡ at + length now

pub group_whole : (round : ℕ) (n : Node) (g : List Act) (j told : List Entry) (at end : ℕ) → GroupMet round n g j told at end None → Whole told (entries_of round n g j) j at end
group_whole round n [] j told at end is = record { is = ap (λ (k : ℕ). drop k told) (sym is); safe = tt; count = omega (arith, is) }
group_whole round n (act ∷ g) j told at end (inl (met, rest)) =
    let w = group_whole round n g (entry_of round n act j ∷ j) told (suc at) end rest in record {
      is = drop_at told at (entry_of round n act j) met.0 ∙ ap (λ (l : List Entry). entry_of round n act j ∷ l) w.is;
      safe = (met.1, w.safe);
      count = (let count = w.count in omega (arith, count));
    }
group_whole round n (act ∷ g) j told at end (inr (same_, (c, (some, met)))) = absurd (cc some)

-- the act that is not met, and those before it
pub record Broken (round : ℕ) (n : Node) (g : List Act) (j told : List Entry) (at end : ℕ) (c : Cause) : Type 0 where
  pub before : List Act
  pub act : Act
  pub after : List Act
  pub cut : g ≡ before ++ act ∷ after
  pub whole : Whole told (entries_of round n before j) j at end
  pub met : ActMet round n act (push round n before j) told end (Some c)

pub group_broken : (round : ℕ) (n : Node) (g : List Act) (j told : List Entry) (at end : ℕ) (c : Cause) → GroupMet round n g j told at end (Some c) → Broken round n g j told at end c
group_broken round n [] j told at end c met = absurd met
group_broken round n (act ∷ g) j told at end c (inl (met, rest)) =
    let w = group_broken round n g (entry_of round n act j ∷ j) told (suc at) end c rest in record {
      before = act ∷ w.before;
      act = w.act;
      after = w.after;
      cut = ap (λ (l : List Act). act ∷ l) w.cut;
      whole = record {
        is = drop_at told at (entry_of round n act j) met.0 ∙ ap (λ (l : List Entry). entry_of round n act j ∷ l) w.whole.is;
        safe = (met.1, w.whole.safe);
        count = (let count = w.whole.count in omega (arith, count));
      };
      met = w.met;
    }
group_broken round n (act ∷ g) j told at end c (inr (same_, (b, (some, met)))) =
    let one : c ≡ b = cc some in record {
      before = [];
      act = act;
      after = g;
      cut = refl;
      whole = record { is = ap (λ (k : ℕ). drop k told) (sym same_); safe = tt; count = omega (arith, same_) };
      met = subst (λ (k : ℕ). ActMet round n act j told k (Some c)) (sym same_) (subst (λ (x : Cause). ActMet round n act j told at (Some x)) (sym one) met);
    }

-- ---- what the places tell

pub record AllDue (d : Domain) (round : ℕ) (places : List Place) (j told : List Entry) (at end : ℕ) : Type 0 where
  pub now : List Entry
  pub due : Due d round places j (drop at told) now
  pub whole : Whole told now j at end

pub both_whole : (told xs ys j : List Entry) (at mid end : ℕ) → Whole told xs j at mid → Whole told ys (onto xs j) mid end → Whole told (xs ++ ys) j at end
both_whole told xs ys j at mid end a b = record {
  is = a.is ∙ ap (λ (l : List Entry). xs ++ l) b.is ∙ sym (assoc xs ys (drop end told));
  safe = safe_both xs ys j a.safe b.safe;
  count = (let first = a.count in let second = b.count in let size = length_both xs ys in omega (arith, first, second, size));
}
  where
    length_both : (xs ys : List Entry) → length (xs ++ ys) ≡ length xs + length ys
    length_both [] ys = omega arith
    length_both (x ∷ xs) ys = (let more = length_both xs ys in omega (arith, more))

-- what is left after a group
rest_of : (round : ℕ) (n : Node) (g : List Act) (j told : List Entry) (at mid : ℕ) → Whole told (entries_of round n g j) j at mid → drop (length g) (drop at told) ≡ drop mid told
rest_of round n g j told at mid w =
    ap (drop (length g)) w.is ∙ ap (λ (k : ℕ). drop k (entries_of round n g j ++ drop mid told)) (sym (count_entries round n g j)) ∙ drop_front (entries_of round n g j) (drop mid told)

pub places_due : (d : Domain) (round : ℕ) (places : List Place) (j told : List Entry) (at end : ℕ) → PlacesMet d round places j told at end None → AllDue d round places j told at end
places_due d round [] j told at end is = record { now = []; due = refl; whole = record { is = ap (λ (k : ℕ). drop k told) (sym is); safe = tt; count = omega (arith, is) } }
places_due d round (p ∷ places) j told at end (g, (group, inl (mid, (met, rest)))) =
    let a = group_whole round p.node g j told at mid met in
    let w = places_due d round places (push round p.node g j) told mid end rest in
    let left = rest_of round p.node g j told at mid a in record {
      now = entries_of round p.node g j ++ w.now;
      due = (g, (group, (w.now, (refl, subst (λ (l : List Entry). Due d round places (push round p.node g j) l w.now) (sym left) w.due))));
      whole = both_whole told (entries_of round p.node g j) w.now j at mid end a (subst (λ (k : List Entry). Whole told w.now k mid end) (push_is round p.node g j) w.whole);
    }
places_due d round (p ∷ places) j told at end (g, (group, inr (c, (some, met)))) = absurd (cc some)

-- the next entry that is due is not told, or another one is, or it is not safe
abbrev pub NextNot : List Entry → ℕ → Entry → List Entry → Cause → Type 0
NextNot told end x past cause.Other = (e : Entry) × ((slice_get told end ≡ Some e) × (e ≢ x))
NextNot told end x past cause.Missing = length told ≤ end
NextNot told end x past c = (slice_get told end ≡ Some x) × Lacks x past c

pub next_not : (round : ℕ) (n : Node) (act : Act) (j told : List Entry) (end : ℕ) (c : Cause) → ActMet round n act j told end (Some c) → NextNot told end (entry_of round n act j) j c
next_not round n act j told end cause.Other met = met
next_not round n act j told end cause.Missing met = met
next_not round n act j told end cause.Surplus met = met
next_not round n act j told end cause.Held met = met
next_not round n act j told end cause.Installed met = met
next_not round n act j told end cause.Used met = met
next_not round n act j told end cause.Joined met = met
next_not round n act j told end cause.HandedUp met = met

pub record SomeDue (d : Domain) (round : ℕ) (places : List Place) (j told : List Entry) (at end : ℕ) (c : Cause) : Type 0 where
  pub now : List Entry
  pub next : Entry
  pub more : List Entry
  pub due : Due d round places j (drop at told) (now ++ next ∷ more)
  pub whole : Whole told now j at end
  pub not_met : NextNot told end next (onto now j) c

some_due : (d : Domain) (round : ℕ) (places : List Place) (old told : List Entry) → AllCanCome d places → (due : List Entry) × Due d round places old told due
some_due d round [] old told come = ([], refl)
some_due d round (p ∷ places) old told come =
    let w = some_group_by d 0 p.node (history p.node old) p.event (answer_in told) come.0 in
    let more = some_due d round places (push round p.node w.0 old) (drop (length w.0) told) come.1 in
    (entries_of round p.node w.0 old ++ more.0, (w.0, (w.1, (more.0, (refl, more.1)))))

pub places_broken : (d : Domain) (round : ℕ) (places : List Place) (j told : List Entry) (at end : ℕ) (c : Cause) → AllCanCome d places → PlacesMet d round places j told at end (Some c) → SomeDue d round places j told at end c
places_broken d round [] j told at end c come met = absurd met
places_broken d round (p ∷ places) j told at end c come (g, (group, inl (mid, (met, rest)))) =
    let a = group_whole round p.node g j told at mid met in
    let w = places_broken d round places (push round p.node g j) told mid end c come.1 rest in
    let left = rest_of round p.node g j told at mid a in
    let es : List Entry = entries_of round p.node g j in record {
      now = es ++ w.now;
      next = w.next;
      more = w.more;
      due = subst (λ (l : List Entry). Due d round (p ∷ places) j (drop at told) l) (sym (assoc es w.now (w.next ∷ w.more)))
          (g, (group, (w.now ++ w.next ∷ w.more, (refl, subst (λ (l : List Entry). Due d round places (push round p.node g j) l (w.now ++ w.next ∷ w.more)) (sym left) w.due))));
      whole = both_whole told es w.now j at mid end a (subst (λ (k : List Entry). Whole told w.now k mid end) (push_is round p.node g j) w.whole);
      not_met = subst (λ (k : List Entry). NextNot told end w.next k c) (ap (onto w.now) (push_is round p.node g j) ∙ sym (onto_both es w.now j)) w.not_met;
    }
places_broken d round (p ∷ places) j told at end c come (g, (group, inr (b, (some, met)))) =
    let one : c ≡ b = cc some in
    let w = group_broken round p.node g j told at end c (subst (λ (x : Cause). GroupMet round p.node g j told at end (Some x)) (sym one) met) in
    let then_ = some_due d round places (push round p.node g j) (drop (length g) (drop at told)) come.1 in
    let k : List Entry = push round p.node w.before j in
    let x : Entry = entry_of round p.node w.act k in
    let rest : List Entry = entries_of round p.node w.after (x ∷ k) in
    let cut : entries_of round p.node g j ≡ entries_of round p.node w.before j ++ x ∷ rest = ap (λ (l : List Act). entries_of round p.node l j) w.cut ∙ entries_both round p.node w.before (w.act ∷ w.after) j in record {
      now = entries_of round p.node w.before j;
      next = x;
      more = rest ++ then_.0;
      due = subst (λ (l : List Entry). Due d round (p ∷ places) j (drop at told) l) (ap (λ (l : List Entry). l ++ then_.0) cut ∙ assoc (entries_of round p.node w.before j) (x ∷ rest) then_.0)
          (g, (group, (then_.0, (refl, then_.1))));
      whole = w.whole;
      not_met = subst (λ (l : List Entry). NextNot told end x l c) (push_is round p.node w.before j) (next_not round p.node w.act k told end c w.met);
    }
