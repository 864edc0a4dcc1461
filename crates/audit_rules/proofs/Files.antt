-- The first place in a file.
use Rattle.std.proofs.Common.{◌≡◌, ℕ, suc, ◌+◌, Bool, true, false, cond, List, [], ◌∷◌, ◌++◌, length, reverse, refl, sym, ap, subst, ◌∙◌, inl, inr}
use Rattle.std.specs.Prelude.{◌==◌}
use Rattle.std.proofs.lemmas.List.{reverse-append}
use Rattle.run_journal.specs.declared.domain.Domain.{Domain}
use Rattle.run_journal.specs.declared.domain.Event.{Event}
use Rattle.run_journal.specs.declared.acts.Entry.{Entry}
use Rattle.domain_rules.specs.Due.{onto}
use Rattle.audit_rules.specs.Wrong.{IsSound, first_due}
use Rattle.audit_rules.specs.Files.{told_of, left_after, FailsHere, MeetsHere, FailsFrom, MeetsFrom, FailsFile, At_start, Later, MeetsFile}
use Rattle.audit_rules.proofs.First.{one_first, none_first, one_in_round, none_in_round}
use Rattle.audit_rules.proofs.Going.{start_sound, round_sound}

-- ---- the entries of a round and those after them

by_round : (b : Bool) (e : Entry) (told rest left : List Entry) → told ++ rest ≡ left → cond b (e ∷ told) [] ++ cond b rest (e ∷ left) ≡ e ∷ left
by_round true e told rest left is = ap (λ (l : List Entry). e ∷ l) is
by_round false e told rest left is = refl

pub whole : (round : ℕ) (left : List Entry) → told_of round left ++ left_after round left ≡ left
whole round [] = refl
whole round (e ∷ left) = by_round (e.round == round) e (told_of round left) (left_after round left) left (whole round left)

onto_both : (xs ys j : List Entry) → onto (xs ++ ys) j ≡ onto ys (onto xs j)
onto_both [] ys j = refl
onto_both (e ∷ xs) ys j = onto_both xs ys (e ∷ j)

pub onto_whole : (round : ℕ) (left old : List Entry) → onto (left_after round left) (onto (told_of round left) old) ≡ onto left old
onto_whole round left old = sym (onto_both (told_of round left) (left_after round left) old) ∙ ap (λ (l : List Entry). onto l old) (whole round left)

-- ---- one place

one_here : (d : Domain) (done : List (List Event)) (events : List Event) (old left : List Entry) (place cause other least : ℕ) → IsSound d done old
    → FailsHere d (suc (length done)) events old left place cause → FailsHere d (suc (length done)) events old left other least → (place ≡ other) × (cause ≡ least)
one_here d done events old left place cause other least s (inl a) (inl b) = (a.1.0 ∙ sym b.1.0, a.1.1 ∙ sym b.1.1)
one_here d done events old left place cause other least s (inl a) (inr b) = absurd (a.0 b.0)
one_here d done events old left place cause other least s (inr a) (inl b) = absurd (b.0 a.0)
one_here d done events old left place cause other least s (inr a) (inr b) = one_in_round d done events old (told_of (suc (length done)) left) place cause other least s.explained a.1 b.1

none_here : (d : Domain) (done : List (List Event)) (events : List Event) (old left : List Entry) (place cause : ℕ) → IsSound d done old
    → MeetsHere d (suc (length done)) events old left → FailsHere d (suc (length done)) events old left place cause → ⊥
none_here d done events old left place cause s m (inl a) = a.0 m.0
none_here d done events old left place cause s m (inr a) = none_in_round d done events old (told_of (suc (length done)) left) place cause s.explained m.1 a.1

one_from : (d : Domain) (done rounds : List (List Event)) (old left : List Entry) (place cause other least : ℕ) → IsSound d done old
    → FailsFrom d (suc (length done)) rounds old left place cause → FailsFrom d (suc (length done)) rounds old left other least → (place ≡ other) × (cause ≡ least)
one_from d done [] old [] place cause other least s a b = absurd a
one_from d done [] old (e ∷ left) place cause other least s a b = (a.0 ∙ sym b.0, a.1 ∙ sym b.1)
one_from d done (events ∷ rounds) old left place cause other least s (inl a) (inl b) = one_here d done events old left place cause other least s a b
one_from d done (events ∷ rounds) old left place cause other least s (inl a) (inr b) = absurd (none_here d done events old left place cause s b.0 a)
one_from d done (events ∷ rounds) old left place cause other least s (inr a) (inl b) = absurd (none_here d done events old left other least s a.0 b)
one_from d done (events ∷ rounds) old left place cause other least s (inr (m, (later, (is, a)))) (inr (m_too, (later_too, (is_too, b)))) =
    let told = told_of (suc (length done)) left in
    let w = one_from d (events ∷ done) rounds (onto told old) (left_after (suc (length done)) left) later cause later_too least (round_sound d done events old told s m.1) a b in
    (is ∙ ap (λ (n : ℕ). length told + n) w.0 ∙ sym is_too, w.1)

none_from : (d : Domain) (done rounds : List (List Event)) (old left : List Entry) (place cause : ℕ) → IsSound d done old
    → MeetsFrom d (suc (length done)) rounds old left → FailsFrom d (suc (length done)) rounds old left place cause → ⊥
none_from d done [] old left place cause s none a = by left none a
  where
    by : (left : List Entry) → left ≡ [] → FailsFrom d (suc (length done)) [] old left place cause → ⊥
    by [] none a = a
    by (e ∷ left) none a = cc none
none_from d done (events ∷ rounds) old left place cause s (m, rest) (inl a) = none_here d done events old left place cause s m a
none_from d done (events ∷ rounds) old left place cause s (m, rest) (inr (m_too, (later, (is, a)))) =
    let told = told_of (suc (length done)) left in
    none_from d (events ∷ done) rounds (onto told old) (left_after (suc (length done)) left) later cause (round_sound d done events old told s m.1) rest a

pub one_in_file : (d : Domain) (rounds : List (List Event)) (entries : List Entry) (place cause other least : ℕ) → FailsFile d rounds entries place cause → FailsFile d rounds entries other least → (place ≡ other) × (cause ≡ least)
one_in_file d rounds entries place cause other least (At_start a) (At_start b) = one_first d [] (told_of 0 entries) (first_due d) place cause other least a b
one_in_file d rounds entries place cause other least (At_start a) (Later later right is b) = absurd (none_first d [] (told_of 0 entries) (first_due d) place cause right a)
one_in_file d rounds entries place cause other least (Later later right is a) (At_start b) = absurd (none_first d [] (told_of 0 entries) (first_due d) other least right b)
one_in_file d rounds entries place cause other least (Later later right is a) (Later later_too right_too is_too b) =
    let w = one_from d [] rounds (onto (told_of 0 entries) []) (left_after 0 entries) later cause later_too least (start_sound d (told_of 0 entries) right) a b in
    (is ∙ ap (λ (n : ℕ). length (told_of 0 entries) + n) w.0 ∙ sym is_too, w.1)

pub none_in_file : (d : Domain) (rounds : List (List Event)) (entries : List Entry) (place cause : ℕ) → MeetsFile d rounds entries → FailsFile d rounds entries place cause → ⊥
none_in_file d rounds entries place cause m (At_start a) = none_first d [] (told_of 0 entries) (first_due d) place cause m.start a
none_in_file d rounds entries place cause m (Later later right is a) =
    none_from d [] rounds (onto (told_of 0 entries) []) (left_after 0 entries) later cause (start_sound d (told_of 0 entries) m.start) m.later a

-- ---- a file in which nothing is wrong

append_none : {A : Type 0} (xs : List A) → xs ++ [] ≡ xs
append_none [] = refl
append_none (x ∷ xs) = ap (λ l. x ∷ l) (append_none xs)

assoc : {A : Type 0} (xs ys zs : List A) → (xs ++ ys) ++ zs ≡ xs ++ (ys ++ zs)
assoc [] ys zs = refl
assoc (x ∷ xs) ys zs = ap (λ l. x ∷ l) (assoc xs ys zs)

next_round : (events : List Event) (rounds done : List (List Event)) → reverse rounds ++ (events ∷ done) ≡ reverse (events ∷ rounds) ++ done
next_round events rounds done = sym (ap (λ (l : List (List Event)). l ++ done) (reverse-append (events ∷ []) rounds) ∙ assoc (reverse rounds) (events ∷ []) done)

met_from : (d : Domain) (done rounds : List (List Event)) (old left : List Entry) → IsSound d done old → MeetsFrom d (suc (length done)) rounds old left → IsSound d (reverse rounds ++ done) (onto left old)
met_from d done [] old left s none = subst (λ (l : List Entry). IsSound d done (onto l old)) (sym none) s
met_from d done (events ∷ rounds) old left s (m, rest) =
    let told = told_of (suc (length done)) left in
    let w = met_from d (events ∷ done) rounds (onto told old) (left_after (suc (length done)) left) (round_sound d done events old told s m.1) rest in
    subst (λ (l : List (List Event)). IsSound d l (onto left old)) (next_round events rounds done)
    (subst (λ (j : List Entry). IsSound d (reverse rounds ++ (events ∷ done)) j) (onto_whole (suc (length done)) left old) w)

pub met_file : (d : Domain) (rounds : List (List Event)) (entries : List Entry) → MeetsFile d rounds entries → IsSound d (reverse rounds) (onto entries [])
met_file d rounds entries m =
    let w = met_from d [] rounds (onto (told_of 0 entries) []) (left_after 0 entries) (start_sound d (told_of 0 entries) m.start) m.later in
    subst (λ (l : List (List Event)). IsSound d l (onto entries [])) (append_none (reverse rounds))
    (subst (λ (j : List Entry). IsSound d (reverse rounds ++ []) j) (onto_whole 0 entries []) w)
