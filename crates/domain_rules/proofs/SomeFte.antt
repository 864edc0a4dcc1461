-- A body is one FTE, or has a fault.
use Rattle.std.proofs.Common.{◌≡◌, ◌≢◌, ◌⊎◌, ℕ, zero, suc, ◌+◌, ◌<◌, ◌≤◌, Bool, List, [], ◌∷◌, ◌++◌, length, take, drop, Option, Some, None, refl, sym, ap, subst, ◌∙◌, arith, inl, inr}
use Rattle.std.specs.Prelude.{filter, slice_index}
use Rattle.std.specs.Int.{w16}
use Rattle.std.specs.List.{AllByRecursion}
use Rattle.std.proofs.lemmas.Bool.{cases_eq, cases_lt, eq-eqb, ne_eqb}
use Rattle.std.proofs.lemmas.List.{append-nil, append_assoc, take-append-drop, length-append, length-take-le}
use Rattle.domain_base.specs.Places.{part, little_endian_at}
use Rattle.rsn_elements.specs.declared.faults.FaultKind.{FaultKind}
use Rattle.rsn_elements.specs.declared.faults.FaultKind.TheVariants.{Length, SubelementLength}
use Rattle.rsn_elements.specs.Framing.{Element, element_octets, joined, IsTruncated, Says}
use Rattle.rsn_elements.specs.Transition.{WrappedGtkFields, WrappedIgtkFields, FteFields, has_id, SpellsR1khId, SpellsWrappedGtk, SpellsR0khId, SpellsWrappedIgtk, SubelementsSay, SpellsFte, IsRight, HasWrongSubelement, HasRepeatedSubelement}
use Rattle.rsn_elements.specs.TransitionSteps.{AreRight, IsFteFault, HasRepeatedAt}
use Rattle.rsn_elements.proofs.Cuts.{cut_push, All-push, same_first}
use Rattle.rsn_elements.proofs.Saying.{Says-other, Says-first}
use Rattle.rsn_elements.proofs.Subelements.{once_each}
use Rattle.domain_rules.proofs.Searching.{OrNot, both, implied, at_most}

-- ---- what stands at the front

-- no octets, an element, or one that is cut off
pub data Front (octets : List ℕ) : Type 0 where
  Nothing : octets ≡ [] → Front octets
  Whole : (e : Element) (behind : List ℕ) → octets ≡ element_octets e ++ behind → Front octets
  Cut_off : IsTruncated octets → Front octets

pub front : (octets : List ℕ) → Front octets
front [] = Nothing refl
front (id ∷ []) = Cut_off tt
front (id ∷ size ∷ tail) = by (cases_lt (length tail) size)
  where
    by : (length tail < size) ⊎ (size ≤ length tail) → Front (id ∷ size ∷ tail)
    by (inl few) = Cut_off few
    by (inr enough) =
        Whole (record { id = id; body = take size tail }) (drop size tail)
        (ap (λ (x : List ℕ). id ∷ size ∷ x) (sym (take-append-drop size tail)) ∙ ap (λ (n : ℕ). id ∷ n ∷ take size tail ++ drop size tail) (sym (length-take-le size tail enough)))

cut_off : (octets : List ℕ) (e : Element) (behind : List ℕ) → IsTruncated octets → octets ≡ element_octets e ++ behind → ⊥
cut_off [] e behind short is = short
cut_off (id ∷ []) e behind short is = cc is
cut_off (id ∷ size ∷ tail) e behind short is =
    let size_is : size ≡ length e.body = cc is in
    let tail_is : tail ≡ e.body ++ behind = cc is in
    omega (arith, short, size_is, ap length tail_is, length-append e.body behind)

-- ---- subelements of right lengths

right_or_not : (s : Element) → OrNot (IsRight s)
right_or_not s =
    by (implied (cases_eq s.id 1) (cases_eq (length s.body) 6)) (implied (cases_eq s.id 2) (at_most 11 (length s.body)))
    (implied (cases_eq s.id 3) (both (at_most 1 (length s.body)) (at_most (length s.body) 48))) (implied (cases_eq s.id 4) (at_most 9 (length s.body)))
  where
    by : OrNot (s.id ≡ 1 → length s.body ≡ 6) → OrNot (s.id ≡ 2 → 11 ≤ length s.body) → OrNot (s.id ≡ 3 → (1 ≤ length s.body) × (length s.body ≤ 48)) → OrNot (s.id ≡ 4 → 9 ≤ length s.body) → OrNot (IsRight s)
    by (inl a) (inl b) (inl c) (inl d) = inl (record { first = a; second = b; third = c; fourth = d })
    by (inr other) b c d = inr (λ r. other r.first)
    by (inl a) (inr other) c d = inr (λ r. other r.second)
    by (inl a) (inl b) (inr other) d = inr (λ r. other r.third)
    by (inl a) (inl b) (inl c) (inr other) = inr (λ r. other r.fourth)

abbrev RightTold : List ℕ → Type 0
RightTold octets = AreRight octets ⊎ ((place : ℕ) × HasWrongSubelement octets place)

module _ (octets : List ℕ) where
  right_step : (before : List Element) (rest : List ℕ) → octets ≡ joined before ++ rest → AllByRecursion IsRight before → ((e : Element) (behind : List ℕ) → rest ≡ element_octets e ++ behind → IsRight e → RightTold octets) → Front rest → RightTold octets
  right_step before rest cut right next (Nothing none) = inl (record { subelements = before; whole = cut ∙ ap (λ (x : List ℕ). joined before ++ x) none ∙ append-nil (joined before); right = right })
  right_step before rest cut right next (Cut_off short) =
      inr (length (joined before), record { before = before; rest = rest; cut = cut; right = right; at = refl; some = λ none. subst IsTruncated none short; wrong = λ s behind is right_too. cut_off rest s behind short is })
  right_step before rest cut right next (Whole e behind is) = by (right_or_not e)
    where
      by : OrNot (IsRight e) → RightTold octets
      by (inl r) = next e behind is r
      by (inr other) = inr (
        length (joined before),
        record {
          before = before;
          rest = rest;
          cut = cut;
          right = right;
          at = refl;
          some = λ none. cc (none, is);
          wrong = λ s more is_too right_too. other (subst IsRight (same_first s e more behind (sym is_too ∙ is)).0 right_too);
        },
      )

  rights : (fuel : ℕ) (before : List Element) (rest : List ℕ) → octets ≡ joined before ++ rest → AllByRecursion IsRight before → length rest ≤ fuel → RightTold octets
  rights zero before rest cut right low = right_step before rest cut right (λ e behind is r. absurd (omega (arith, low, ap length is))) (front rest)
  rights (suc fuel) before rest cut right low =
      right_step before rest cut right
      (λ e behind is r. rights fuel (before ++ e ∷ []) behind (cut_push octets before rest e behind cut is) (All-push IsRight before e right r) (omega (arith, low, ap length is, length-append e.body behind)))
      (front rest)

-- ---- what they say

pub first_or_second : {F : Type 0} (kind : Element → Bool) (Spells : List ℕ → F → Type 0) (es : List Element) (o : Option F) → Says kind Spells es o → OrNot (filter kind es ≡ [])
first_or_second kind Spells es None s = inl s
first_or_second kind Spells es (Some f) s = inr (λ none. cc (s.1, none))

-- what they say, of each id
record SayTold (es : List Element) : Type 0 where
  a : Option (List ℕ)
  b : Option WrappedGtkFields
  c : Option (List ℕ)
  d : Option WrappedIgtkFields
  say : SubelementsSay es a b c d

told_so : (es : List Element) (a : Option (List ℕ)) (b : Option WrappedGtkFields) (c : Option (List ℕ)) (d : Option WrappedIgtkFields) → SubelementsSay es a b c d → SayTold es
told_so es a b c d say = record { a = a; b = b; c = c; d = d; say = say }

-- a second one of its id
abbrev IsSecondOf : List Element → Element → Type 0
IsSecondOf before s = (1 ≤ s.id) × ((s.id ≤ 4) × (filter (has_id s.id) before ≢ []))

module _ (before : List Element) (s : Element) (t : SayTold before) (right : IsRight s) where
  kept : {F : Type 0} (id : ℕ) (Spells : List ℕ → F → Type 0) (o : Option F) → (s.id ≡ id → ⊥) → Says (has_id id) Spells before o → Says (has_id id) Spells (before ++ s ∷ []) o
  kept id Spells o other says = Says-other (has_id id) Spells before s o (ne_eqb s.id id other) says

  second_of : (id : ℕ) → s.id ≡ id → 1 ≤ id → id ≤ 4 → (filter (has_id id) before ≡ [] → ⊥) → IsSecondOf before s
  second_of id is low high some = (omega (arith, is, low), (omega (arith, is, high), λ none. some (ap (λ (n : ℕ). filter (has_id n) before) (sym is) ∙ none)))

  first_one : s.id ≡ 1 → SayTold (before ++ s ∷ []) ⊎ IsSecondOf before s
  first_one is = by (first_or_second (has_id 1) SpellsR1khId before t.a t.say.first)
    where
      by : OrNot (filter (has_id 1) before ≡ []) → SayTold (before ++ s ∷ []) ⊎ IsSecondOf before s
      by (inl none) = inl (told_so (before ++ s ∷ []) (Some s.body) t.b t.c t.d (record {
        first = Says-first (has_id 1) SpellsR1khId before s s.body (eq-eqb s.id 1 is) none (right.first is, refl);
        second = kept 2 SpellsWrappedGtk t.b (λ e. omega (arith, e, is)) t.say.second;
        third = kept 3 SpellsR0khId t.c (λ e. omega (arith, e, is)) t.say.third;
        fourth = kept 4 SpellsWrappedIgtk t.d (λ e. omega (arith, e, is)) t.say.fourth;
      }))
      by (inr some) = inr (second_of 1 is (omega arith) (omega arith) some)

  second_one : s.id ≡ 2 → SayTold (before ++ s ∷ []) ⊎ IsSecondOf before s
  second_one is = by (first_or_second (has_id 2) SpellsWrappedGtk before t.b t.say.second)
    where
      says : WrappedGtkFields
      says = record { information = little_endian_at w16 0 s.body; key_length = slice_index s.body 2; rsc = part 3 8 s.body; wrapped = drop 11 s.body }

      by : OrNot (filter (has_id 2) before ≡ []) → SayTold (before ++ s ∷ []) ⊎ IsSecondOf before s
      by (inl none) = inl (told_so (before ++ s ∷ []) t.a (Some says) t.c t.d (record {
        first = kept 1 SpellsR1khId t.a (λ e. omega (arith, e, is)) t.say.first;
        second = Says-first (has_id 2) SpellsWrappedGtk before s says (eq-eqb s.id 2 is) none (right.second is, refl);
        third = kept 3 SpellsR0khId t.c (λ e. omega (arith, e, is)) t.say.third;
        fourth = kept 4 SpellsWrappedIgtk t.d (λ e. omega (arith, e, is)) t.say.fourth;
      }))
      by (inr some) = inr (second_of 2 is (omega arith) (omega arith) some)

  third_one : s.id ≡ 3 → SayTold (before ++ s ∷ []) ⊎ IsSecondOf before s
  third_one is = by (first_or_second (has_id 3) SpellsR0khId before t.c t.say.third)
    where
      by : OrNot (filter (has_id 3) before ≡ []) → SayTold (before ++ s ∷ []) ⊎ IsSecondOf before s
      by (inl none) = inl (told_so (before ++ s ∷ []) t.a t.b (Some s.body) t.d (record {
        first = kept 1 SpellsR1khId t.a (λ e. omega (arith, e, is)) t.say.first;
        second = kept 2 SpellsWrappedGtk t.b (λ e. omega (arith, e, is)) t.say.second;
        third = Says-first (has_id 3) SpellsR0khId before s s.body (eq-eqb s.id 3 is) none ((right.third is).0, (right.third is).1, refl);
        fourth = kept 4 SpellsWrappedIgtk t.d (λ e. omega (arith, e, is)) t.say.fourth;
      }))
      by (inr some) = inr (second_of 3 is (omega arith) (omega arith) some)

  fourth_one : s.id ≡ 4 → SayTold (before ++ s ∷ []) ⊎ IsSecondOf before s
  fourth_one is = by (first_or_second (has_id 4) SpellsWrappedIgtk before t.d t.say.fourth)
    where
      says : WrappedIgtkFields
      says = record { id = little_endian_at w16 0 s.body; ipn = part 2 6 s.body; key_length = slice_index s.body 8; wrapped = drop 9 s.body }

      by : OrNot (filter (has_id 4) before ≡ []) → SayTold (before ++ s ∷ []) ⊎ IsSecondOf before s
      by (inl none) = inl (told_so (before ++ s ∷ []) t.a t.b t.c (Some says) (record {
        first = kept 1 SpellsR1khId t.a (λ e. omega (arith, e, is)) t.say.first;
        second = kept 2 SpellsWrappedGtk t.b (λ e. omega (arith, e, is)) t.say.second;
        third = kept 3 SpellsR0khId t.c (λ e. omega (arith, e, is)) t.say.third;
        fourth = Says-first (has_id 4) SpellsWrappedIgtk before s says (eq-eqb s.id 4 is) none (right.fourth is, refl);
      }))
      by (inr some) = inr (second_of 4 is (omega arith) (omega arith) some)

  one_more : SayTold (before ++ s ∷ []) ⊎ IsSecondOf before s
  one_more = by (cases_eq s.id 1) (cases_eq s.id 2) (cases_eq s.id 3) (cases_eq s.id 4)
    where
      by : OrNot (s.id ≡ 1) → OrNot (s.id ≡ 2) → OrNot (s.id ≡ 3) → OrNot (s.id ≡ 4) → SayTold (before ++ s ∷ []) ⊎ IsSecondOf before s
      by (inl is) y z w = first_one is
      by (inr x) (inl is) z w = second_one is
      by (inr x) (inr y) (inl is) w = third_one is
      by (inr x) (inr y) (inr z) (inl is) = fourth_one is
      by (inr x) (inr y) (inr z) (inr w) = inl (told_so (before ++ s ∷ []) t.a t.b t.c t.d (record {
        first = kept 1 SpellsR1khId t.a x t.say.first;
        second = kept 2 SpellsWrappedGtk t.b y t.say.second;
        third = kept 3 SpellsR0khId t.c z t.say.third;
        fourth = kept 4 SpellsWrappedIgtk t.d w t.say.fourth;
      }))

said : (octets : List ℕ) (before more : List Element) → octets ≡ joined before ++ joined more → SayTold before → AllByRecursion IsRight more → SayTold (before ++ more) ⊎ ((place : ℕ) × HasRepeatedSubelement octets place)
said octets before [] cut told right = inl (subst SayTold (sym (append-nil before)) told)
said octets before (s ∷ more) cut t right =
    by (λ told. said octets (before ++ s ∷ []) more (cut_push octets before (joined (s ∷ more)) s (joined more) cut refl) told right.1) (one_more before s t right.0)
  where
    by : (SayTold (before ++ s ∷ []) → SayTold ((before ++ s ∷ []) ++ more) ⊎ ((place : ℕ) × HasRepeatedSubelement octets place)) → SayTold (before ++ s ∷ []) ⊎ IsSecondOf before s
        → SayTold (before ++ s ∷ more) ⊎ ((place : ℕ) × HasRepeatedSubelement octets place)
    by next (inr (low, (high, some))) = inr (length (joined before), record { before = before; again = s; behind = joined more; cut = cut; at = refl; low = low; high = high; second = some; once = once_each before t.a t.b t.c t.d t.say })
    by next (inl told) = subst (λ (es : List Element). SayTold es ⊎ ((place : ℕ) × HasRepeatedSubelement octets place)) (append_assoc before (s ∷ []) more) (next told)

-- ---- the body

pub data FteTold (body : List ℕ) : Type 0 where
  Spelled : (x : FteFields) → SpellsFte body x → FteTold body
  Refused : (offset : ℕ) (kind : FaultKind) → IsFteFault body offset kind → FteTold body
  Again : 82 ≤ length body → AreRight (drop 82 body) → (offset : ℕ) → HasRepeatedAt body offset → FteTold body

pub fte_told : (body : List ℕ) → FteTold body
fte_told body = by (cases_lt (length body) 82)
  where
    says : 82 ≤ length body → (r : AreRight (drop 82 body)) → SayTold r.subelements ⊎ ((place : ℕ) × HasRepeatedSubelement (drop 82 body) place) → FteTold body
    says long r (inl t) =
        Spelled (record { mic_control = part 0 2 body; mic = part 2 16 body; anonce = part 18 32 body; snonce = part 50 32 body; r1kh_id = t.a; gtk = t.b; r0kh_id = t.c; igtk = t.d })
        (record { subelements = r.subelements; long = long; mic_control = refl; mic = refl; anonce = refl; snonce = refl; rest = r.whole; say = t.say })
    says long r (inr (place, again)) = Again long r (84 + place) (place, refl, again)

    right : 82 ≤ length body → RightTold (drop 82 body) → FteTold body
    right long (inl r) = says long r (said (drop 82 body) [] r.subelements r.whole (told_so [] None None None None (record { first = refl; second = refl; third = refl; fourth = refl })) r.right)
    right long (inr (place, wrong)) = Refused (84 + place) SubelementLength (long, place, refl, wrong)

    by : (length body < 82) ⊎ (82 ≤ length body) → FteTold body
    by (inl few) = Refused 0 Length (refl, few)
    by (inr long) = right long (rights (drop 82 body) (length (drop 82 body)) [] (drop 82 body) refl tt (omega arith))
