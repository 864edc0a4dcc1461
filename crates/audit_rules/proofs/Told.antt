-- The entries of a journal that is explained, round by round.
use Rattle.std.proofs.Common.{◌≡◌, ◌⊎◌, ℕ, suc, ◌+◌, ◌≤◌, Bool, true, false, cond, List, [], ◌∷◌, ◌++◌, length, reverse, refl, sym, ap, subst, ◌∙◌, arith, inl, inr}
use Rattle.std.specs.Prelude.{◌==◌}
use Rattle.std.proofs.lemmas.Bool.{cases_Bool, eqb-true, eq-eqb}
use Rattle.std.proofs.lemmas.List.{reverse-append, reverse-reverse, length-reverse}
use Rattle.run_journal.specs.declared.domain.Domain.{Domain}
use Rattle.run_journal.specs.declared.domain.Event.{Event}
use Rattle.run_journal.specs.declared.acts.Entry.{Entry}
use Rattle.run_journal.specs.Premises.{In}
use Rattle.domain_rules.specs.Due.{DueInRound, onto}
use Rattle.domain_rules.specs.Explained.{Explained, started}
use Rattle.domain_rules.proofs.Journals.{explained_by_round}
use Rattle.audit_rules.specs.Wrong.{first_due}
use Rattle.audit_rules.specs.Files.{told_of, left_after}
use Rattle.audit_rules.proofs.Dues.{onto_append, follows_due, due_in_round}
use Rattle.audit_rules.proofs.Files.{whole, onto_whole}
use Rattle.audit_rules.proofs.Going.{onto_reverse, append_none}
use Rattle.audit_rules.proofs.Low.{in_started}

-- the entries that are left are those that are due, round by round
abbrev pub TellsFrom : Domain → ℕ → List (List Event) → List Entry → List Entry → Type 0
TellsFrom d k [] old left = left ≡ []
TellsFrom d k (events ∷ rounds) old left =
    DueInRound d k events old (told_of k left) (told_of k left) × TellsFrom d (suc k) rounds (onto (told_of k left) old) (left_after k left)

-- ---- entries of one round, and of later ones

other_round : (e : Entry) (k : ℕ) → (e.round ≡ k → ⊥) → (e.round == k) ≡ false
other_round e k other = elim (cases_Bool (e.round == k)) [ inl is ↦ absurd (other (eqb-true e.round k is)) | inr none ↦ none ]

abbrev first_if : Bool → Entry → List Entry → List Entry
first_if b e told = cond b (e ∷ told) []

abbrev after_if : Bool → Entry → List Entry → List Entry → List Entry
after_if b e rest left = cond b rest (e ∷ left)

pub none_of : (k : ℕ) (told : List Entry) → ((m : Entry) → In m told → m.round ≡ k → ⊥) → (told_of k told ≡ []) × (left_after k told ≡ told)
none_of k [] other = (refl, refl)
none_of k (e ∷ told) other =
    let is = other_round e k (other e (inl refl)) in
    (ap (λ (b : Bool). first_if b e (told_of k told)) is, ap (λ (b : Bool). after_if b e (left_after k told) told) is)

pub all_of : (k : ℕ) (told : List Entry) → ((m : Entry) → In m told → m.round ≡ k) → (told_of k told ≡ told) × (left_after k told ≡ [])
all_of k [] same = (refl, refl)
all_of k (e ∷ told) same =
    let is : (e.round == k) ≡ true = eq-eqb e.round k (same e (inl refl)) in
    let w = all_of k told (λ m there. same m (inr there)) in (
      ap (λ (b : Bool). first_if b e (told_of k told)) is ∙ ap (λ (l : List Entry). e ∷ l) w.0,
      ap (λ (b : Bool). after_if b e (left_after k told) told) is ∙ w.1,
    )

more_by : (b : Bool) (e : Entry) (told more rest left : List Entry) → (told ≡ more) → cond b (e ∷ told) [] ≡ cond b (e ∷ more) []
more_by b e told more rest left is = ap (λ (l : List Entry). cond b (e ∷ l) []) is

after_by : (b : Bool) (e : Entry) (rest left told next : List Entry) → next ≡ rest ++ told → cond b next (e ∷ (left ++ told)) ≡ cond b rest (e ∷ left) ++ told
after_by true e rest left told next is = is
after_by false e rest left told next is = refl

pub later_ones : (k : ℕ) (left told : List Entry) → ((m : Entry) → In m told → m.round ≡ k → ⊥) → (told_of k (left ++ told) ≡ told_of k left) × (left_after k (left ++ told) ≡ left_after k left ++ told)
later_ones k [] told other = none_of k told other
later_ones k (e ∷ left) told other =
    let w = later_ones k left told other in (
      more_by (e.round == k) e (told_of k (left ++ told)) (told_of k left) [] [] w.0,
      after_by (e.round == k) e (left_after k left) left told (left_after k (left ++ told)) w.1,
    )

-- ---- one more round

pub tells_more : (d : Domain) (k n : ℕ) (rounds : List (List Event)) (events : List Event) (old left told : List Entry) → n ≡ k + length rounds → TellsFrom d k rounds old left → DueInRound d n events (onto left old) told told
    → TellsFrom d k (rounds ++ events ∷ []) old (left ++ told)
tells_more d k n [] events old left told size none due =
    let same : n ≡ k = omega (arith, size) in
    let at : DueInRound d k events old told told = subst (λ (m : ℕ). DueInRound d m events old told told) same (subst (λ (l : List Entry). DueInRound d n events (onto l old) told told) none due) in
    let w = all_of k told (λ m there. due_in_round d k events old told told m at there) in
    subst (λ (l : List Entry). TellsFrom d k (events ∷ []) old (l ++ told)) (sym none)
    (subst (λ (l : List Entry). DueInRound d k events old l l) (sym w.0) at, w.1)
tells_more d k n (first ∷ rounds) events old left told size (here_, rest) due =
    let other : (m : Entry) → In m told → m.round ≡ k → ⊥ = λ m there is. (let high = due_in_round d n events (onto left old) told told m due there in omega (arith, high, is, size)) in
    let w = later_ones k left told other in
    let goes : DueInRound d n events (onto (left_after k left) (onto (told_of k left) old)) told told = subst (λ (j : List Entry). DueInRound d n events j told told) (sym (onto_whole k left old)) due in
    let more = tells_more d (suc k) n rounds events (onto (told_of k left) old) (left_after k left) told (omega (arith, size)) rest goes in (
      subst (λ (l : List Entry). DueInRound d k first old l l) (sym w.0) here_,
      subst (λ (l : List Entry). TellsFrom d (suc k) (rounds ++ events ∷ []) (onto l old) (left_after k (left ++ told))) (sym w.0)
          (subst (λ (l : List Entry). TellsFrom d (suc k) (rounds ++ events ∷ []) (onto (told_of k left) old) l) (sym w.1) more),
    )

-- ---- all of them

pub record Tells (d : Domain) (rounds : List (List Event)) (entries : List Entry) : Type 0 where
  pub first : told_of 0 entries ≡ first_due d
  pub later : TellsFrom d 1 rounds (onto (told_of 0 entries) []) (left_after 0 entries)

in_append : (m : Entry) (xs ys : List Entry) → In m (xs ++ ys) → In m xs ⊎ In m ys
in_append m [] ys there = inr there
in_append m (x ∷ xs) ys (inl here_) = inl (inl here_)
in_append m (x ∷ xs) ys (inr there) = elim (in_append m xs ys there) [ inl a ↦ inl (inr a) | inr b ↦ inr b ]

in_reverse : (m : Entry) (xs : List Entry) → In m (reverse xs) → In m xs
in_reverse m [] there = there
in_reverse m (x ∷ xs) there = elim (in_append m (reverse xs) (x ∷ []) (subst (λ (l : List Entry). In m l) (reverse-append (x ∷ []) xs) there)) [
  | inl a ↦ inr (in_reverse m xs a)
  | inr (inl b) ↦ inl b
  | inr (inr b) ↦ absurd b
]

onto_turned : (entries : List Entry) → onto entries [] ≡ reverse entries
onto_turned entries = onto_reverse entries [] ∙ append_none (reverse entries)

unfold_start : (d : Domain) (j : List Entry) → Explained d [] j → j ≡ started d (length d.aps)
unfolding Explained
unfold_start d j is = is

pub first_rounds : (d : Domain) (m : Entry) → In m (first_due d) → m.round ≡ 0
first_rounds d m there = in_started d (length d.aps) m (in_reverse m (started d (length d.aps)) there)

pub tells : (d : Domain) (rounds : List (List Event)) (j : List Entry) → Explained d rounds j → (entries : List Entry) × ((j ≡ onto entries []) × Tells d (reverse rounds) entries)
tells d [] j is =
    let w = all_of 0 (first_due d) (first_rounds d) in (
      first_due d,
      (unfold_start d j is ∙ sym (reverse-reverse (started d (length d.aps))) ∙ sym (onto_turned (first_due d)), record { first = w.0; later = w.1 }),
    )
tells d (events ∷ rounds) j is =
    let (old, (before, follows)) = explained_by_round d events rounds j is in
    let (entries, (old_is, t)) = tells d rounds old before in
    let (told, (j_is, due)) = follows_due d (suc (length rounds)) events old j follows in
    let other : (m : Entry) → In m told → m.round ≡ 0 → ⊥ = λ m there none. (let high = due_in_round d (suc (length rounds)) events old told told m due there in omega (arith, high, none)) in
    let w = later_ones 0 entries told other in
    let goes : DueInRound d (suc (length rounds)) events (onto (left_after 0 entries) (onto (told_of 0 entries) [])) told told =
    subst (λ (l : List Entry). DueInRound d (suc (length rounds)) events l told told) (old_is ∙ sym (onto_whole 0 entries [])) due in
    let size : suc (length rounds) ≡ 1 + length (reverse rounds) = (let same : length (reverse rounds) ≡ length rounds = length-reverse rounds in omega (arith, same)) in
    let more = tells_more d 1 (suc (length rounds)) (reverse rounds) events (onto (told_of 0 entries) []) (left_after 0 entries) told size t.later goes in (
      entries ++ told,
      (
        j_is ∙ ap (onto told) old_is ∙ sym (onto_append entries told []),
        record {
          first = w.0 ∙ t.first;
          later = subst (λ (r : List (List Event)). TellsFrom d 1 r (onto (told_of 0 (entries ++ told)) []) (left_after 0 (entries ++ told))) (sym (reverse-append (events ∷ []) rounds))
              (subst (λ (l : List Entry). TellsFrom d 1 (reverse rounds ++ events ∷ []) (onto l []) (left_after 0 (entries ++ told))) (sym w.0)
              (subst (λ (l : List Entry). TellsFrom d 1 (reverse rounds ++ events ∷ []) (onto (told_of 0 entries) []) l) (sym w.1) more));
        },
      ),
    )

-- the entries of a journal are one list
pub one_list : (xs ys : List Entry) → onto xs [] ≡ onto ys [] → xs ≡ ys
one_list xs ys is = sym (reverse-reverse xs) ∙ ap reverse (sym (onto_turned xs) ∙ is ∙ onto_turned ys) ∙ reverse-reverse ys

-- none that is left is of an earlier round
pub late_left : (d : Domain) (k : ℕ) (rounds : List (List Event)) (old left : List Entry) (m : Entry) → TellsFrom d k rounds old left → In m left → k ≤ m.round
late_left d k [] old left m none there = absurd (subst (λ (l : List Entry). In m l) none there)
late_left d k (events ∷ rounds) old left m (here_, rest) there =
    elim (in_append m (told_of k left) (left_after k left) (subst (λ (l : List Entry). In m l) (sym (whole k left)) there)) [
      | inl a ↦ (let same : m.round ≡ k = due_in_round d k events old (told_of k left) (told_of k left) m here_ a in omega (arith, same))
      | inr b ↦ (let high : suc k ≤ m.round = late_left d (suc k) rounds (onto (told_of k left) old) (left_after k left) m rest b in omega (arith, high))
    ]
