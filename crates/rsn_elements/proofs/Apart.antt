-- Octets are elements, or have one fault, and never both.
use Rattle.std.proofs.Common.{◌≡◌, ◌≢◌, ℕ, zero, suc, ◌+◌, ◌≤◌, Bool, true, List, [], ◌∷◌, ◌++◌, length, take, drop, Option, Some, None, refl, sym, ap, subst, ◌∙◌, arith, inl, inr}
use Rattle.std.specs.Prelude.{filter}
use Rattle.std.specs.List.{AllByRecursion}
use Rattle.std.proofs.lemmas.Bool.{eq-eqb, cases_order}
use Rattle.std.proofs.lemmas.List.{append-nil, append_assoc, length-append}
use Rattle.std.proofs.lemmas.List.Elements.{filter-append}
use Rattle.rsn_elements.specs.declared.framing.Within.{Within}
use Rattle.rsn_elements.specs.declared.faults.FaultKind.{FaultKind}
use Rattle.rsn_elements.specs.declared.faults.FaultKind.TheVariants.{Truncated, Length, Version, Repeated, SubelementLength}
use Rattle.rsn_elements.specs.Framing.{Element, element_octets, joined, EndsReading, IsTruncated, Says}
use Rattle.rsn_elements.specs.Rsne.{SpellsRsne}
use Rattle.rsn_elements.specs.Transition.{WrappedGtkFields, WrappedIgtkFields, SpellsMde, FteFields, SpellsTimeout, SpellsR1khId, SpellsWrappedGtk, SpellsR0khId, SpellsWrappedIgtk, SubelementsSay, SpellsFte, has_id, IsRight, HasWrongSubelement, HasRepeatedSubelement}
use Rattle.rsn_elements.specs.TransitionSteps.{AreRight}
use Rattle.rsn_elements.specs.KeyData.{SpellsGtkKde, SpellsIgtkKde}
use Rattle.rsn_elements.specs.Elements.{ElementFields, ElementKind, AnRsne, AnMde, AnFte, ATimeout, AGtkKde, AnIgtkKde, is, Tells, SpellsElements}
use Rattle.rsn_elements.specs.Faults.{HasWrongLength, HasFault, rank, HasFirstFault, BeginsWithFault, HasElementFault}
use Rattle.rsn_elements.proofs.Cuts.{same_first, compare, Later, All-middle}
use Rattle.rsn_elements.proofs.Refusing.{right_not_wrong}
use Rattle.rsn_elements.proofs.Unique.{same_tells}
use Rattle.rsn_elements.proofs.Walk.{ends_front}

-- ---- an element among others that is the only one of its kind

one_of : (xs ys : List Element) (e x : Element) → xs ++ e ∷ ys ≡ x ∷ [] → (xs ≡ []) × (e ≡ x)
one_of [] ys e x h = (refl, cc)
one_of (z ∷ []) ys e x h = absurd cc
one_of (z ∷ w ∷ xs) ys e x h = absurd cc

filter-middle : (kind : Element → Bool) (es : List Element) (e : Element) (more : List Element) → kind e ≡ true → filter kind (es ++ e ∷ more) ≡ filter kind es ++ e ∷ filter kind more
filter-middle kind es e more h = filter-append kind es (e ∷ more) ∙ rw h refl

no_middle : (xs ys : List Element) (e : Element) → xs ++ e ∷ ys ≡ [] → ⊥
no_middle [] ys e h = absurd cc
no_middle (x ∷ xs) ys e h = absurd cc

-- what it says, and that none of its kind stands before it
pub sole : {F : Type 0} (kind : Element → Bool) (Spells : List ℕ → F → Type 0) (es : List Element) (e : Element) (more : List Element) (o : Option F) → kind e ≡ true → Says kind Spells (es ++ e ∷ more) o → ((f : F) × Spells e.body f) × (filter kind es ≡ [])
sole kind Spells es e more None h s = absurd (no_middle (filter kind es) (filter kind more) e (sym (filter-middle kind es e more h) ∙ s))
sole {F} kind Spells es e more (Some f) h s =
    let one = one_of (filter kind es) (filter kind more) e s.0 (sym (filter-middle kind es e more h) ∙ s.1) in
    ((f, subst (λ (x : Element). Spells x.body f) (sym one.1) s.2), one.0)

-- ---- subelements

All-from-splits : {X : Type 0} (P : X → Type 0) (all xs ys : List X) → all ≡ xs ++ ys → ((before : List X) (x : X) (after : List X) → all ≡ before ++ x ∷ after → P x) → AllByRecursion P ys
All-from-splits P all xs [] h each = tt
All-from-splits P all xs (y ∷ ys) h each = (each xs y ys h, All-from-splits P all (xs ++ y ∷ []) ys (h ∙ sym (append_assoc xs (y ∷ []) ys)) each)

say_right : (es : List Element) (a : Option (List ℕ)) (b : Option WrappedGtkFields) (c : Option (List ℕ)) (d : Option WrappedIgtkFields) → SubelementsSay es a b c d → AllByRecursion IsRight es
say_right es a b c d say = All-from-splits IsRight es [] es refl (λ before s after whole. record {
  first = λ id. (sole (has_id 1) SpellsR1khId before s after a (eq-eqb _ _ id) (subst (λ (x : List Element). Says (has_id 1) SpellsR1khId x a) whole say.first)).0.1.0;
  second = λ id. (sole (has_id 2) SpellsWrappedGtk before s after b (eq-eqb _ _ id) (subst (λ (x : List Element). Says (has_id 2) SpellsWrappedGtk x b) whole say.second)).0.1.0;
  third = λ id. let spelled = (sole (has_id 3) SpellsR0khId before s after c (eq-eqb _ _ id) (subst (λ (x : List Element). Says (has_id 3) SpellsR0khId x c) whole say.third)).0.1 in (spelled.0, spelled.1);
  fourth = λ id. (sole (has_id 4) SpellsWrappedIgtk before s after d (eq-eqb _ _ id) (subst (λ (x : List Element). Says (has_id 4) SpellsWrappedIgtk x d) whole say.fourth)).0.1.0;
})

pub fte_right : (body : List ℕ) (f : FteFields) → SpellsFte body f → AreRight (drop 82 body)
fte_right body f s = record { subelements = s.subelements; whole = s.rest; right = say_right s.subelements _ _ _ _ s.say }

-- one of an id from 1 to 4 is the first of its id
first_of_id : (es : List Element) (s : Element) (more : List Element) (a : Option (List ℕ)) (b : Option WrappedGtkFields) (c : Option (List ℕ)) (d : Option WrappedIgtkFields) → SubelementsSay (es ++ s ∷ more) a b c d → (id : ℕ) → s.id ≡ id → 1 ≤ id → id ≤ 4 → filter (has_id id) es ≡ []
first_of_id es s more a b c d say zero at low high = absurd (omega arith)
first_of_id es s more a b c d say (suc zero) at low high = (sole (has_id 1) SpellsR1khId es s more a (eq-eqb _ _ at) say.first).1
first_of_id es s more a b c d say (suc (suc zero)) at low high = (sole (has_id 2) SpellsWrappedGtk es s more b (eq-eqb _ _ at) say.second).1
first_of_id es s more a b c d say (suc (suc (suc zero))) at low high = (sole (has_id 3) SpellsR0khId es s more c (eq-eqb _ _ at) say.third).1
first_of_id es s more a b c d say (suc (suc (suc (suc zero)))) at low high = (sole (has_id 4) SpellsWrappedIgtk es s more d (eq-eqb _ _ at) say.fourth).1
first_of_id es s more a b c d say (suc (suc (suc (suc (suc n))))) at low high = absurd (omega arith)

-- in octets cut behind whole elements, what comes next
nothing_more : (more : List Element) (x : ℕ) (xs ys : List ℕ) → [] ≡ joined more ++ x ∷ xs → ⊥
nothing_more [] x xs ys h = absurd cc
nothing_more (s ∷ more) x xs ys h = absurd cc

pub not_repeated : (body : List ℕ) (f : FteFields) (place : ℕ) → SpellsFte body f → HasRepeatedSubelement (drop 82 body) place → ⊥
not_repeated body f place s h =
    elim (compare h.before s.subelements (element_octets h.again ++ h.behind) [] (sym h.cut ∙ s.rest ∙ sym (append-nil (joined s.subelements)))) [
      | inl l ↦ behind l.0 l.1 l.2
      | inr l ↦ nothing_more l.0 h.again.id (length h.again.body ∷ (h.again.body ++ h.behind)) [] l.2
    ]
  where
    behind : (more : List Element) → s.subelements ≡ h.before ++ more → element_octets h.again ++ h.behind ≡ joined more ++ [] → ⊥
    behind [] whole e = absurd cc
    behind (x ∷ more) whole e =
        let same : x ≡ h.again = sym (same_first h.again x h.behind (joined more ++ []) (e ∙ append_assoc (element_octets x) (joined more) [])).0 in
        h.second (first_of_id h.before x more f.r1kh_id f.gtk f.r0kh_id f.igtk (subst (λ (es : List Element). SubelementsSay es f.r1kh_id f.gtk f.r0kh_id f.igtk) whole s.say) h.again.id (ap (λ (y : Element). y.id) same) h.low h.high)

-- ---- an element that is read has no fault

tells_no_length : (within : Within) (es : List Element) (e : Element) (more : List Element) (v : ElementFields) → Tells within (es ++ e ∷ more) v → (kind : ElementKind) → is within kind e ≡ true → HasWrongLength kind e.body → ⊥
tells_no_length within es e more v t AnRsne of_kind wrong =
    let s = (sole (is within AnRsne) SpellsRsne es e more v.rsne of_kind t.rsne).0 in
    wrong s.0 s.1
tells_no_length within es e more v t AnMde of_kind wrong = wrong (sole (is within AnMde) SpellsMde es e more v.mde of_kind t.mde).0.1.0
tells_no_length within es e more v t AnFte of_kind wrong =
    let long : 82 ≤ length e.body = (sole (is within AnFte) SpellsFte es e more v.fte of_kind t.fte).0.1.long in
    omega arith
tells_no_length within es e more v t (ATimeout kind) of_kind wrong = wrong (sole (is within (ATimeout kind)) SpellsTimeout es e more (t.timeouts kind).0 of_kind (t.timeouts kind).1).0.1.0
tells_no_length within es e more v t AGtkKde of_kind wrong =
    let long : 6 ≤ length e.body = (sole (is within AGtkKde) SpellsGtkKde es e more v.gtk of_kind t.gtk).0.1.0 in
    omega arith
tells_no_length within es e more v t AnIgtkKde of_kind wrong =
    let long : 12 ≤ length e.body = (sole (is within AnIgtkKde) SpellsIgtkKde es e more v.igtk of_kind t.igtk).0.1.0 in
    omega arith

tells_first : (within : Within) (es : List Element) (e : Element) (more : List Element) (v : ElementFields) → Tells within (es ++ e ∷ more) v → (kind : ElementKind) → is within kind e ≡ true → filter (is within kind) es ≡ []
tells_first within es e more v t AnRsne of_kind = (sole (is within AnRsne) SpellsRsne es e more v.rsne of_kind t.rsne).1
tells_first within es e more v t AnMde of_kind = (sole (is within AnMde) SpellsMde es e more v.mde of_kind t.mde).1
tells_first within es e more v t AnFte of_kind = (sole (is within AnFte) SpellsFte es e more v.fte of_kind t.fte).1
tells_first within es e more v t (ATimeout kind) of_kind = (sole (is within (ATimeout kind)) SpellsTimeout es e more (t.timeouts kind).0 of_kind (t.timeouts kind).1).1
tells_first within es e more v t AGtkKde of_kind = (sole (is within AGtkKde) SpellsGtkKde es e more v.gtk of_kind t.gtk).1
tells_first within es e more v t AnIgtkKde of_kind = (sole (is within AnIgtkKde) SpellsIgtkKde es e more v.igtk of_kind t.igtk).1

pub tells_no_fault : (within : Within) (es : List Element) (e : Element) (more : List Element) (v : ElementFields) → Tells within (es ++ e ∷ more) v → (offset : ℕ) (kind : FaultKind) → HasFault within es e offset kind → ⊥
tells_no_fault within es e more v t offset Truncated h = h
tells_no_fault within es e more v t offset Version h =
    let s = (sole (is within AnRsne) SpellsRsne es e more v.rsne h.1 t.rsne).0 in
    h.2.1 (ap (λ (w : List ℕ). take 2 w) s.1.version)
tells_no_fault within es e more v t offset Length h = tells_no_length within es e more v t h.1 h.2 h.3
tells_no_fault within es e more v t offset SubelementLength h =
    let s = (sole (is within AnFte) SpellsFte es e more v.fte h.2 t.fte).0 in
    right_not_wrong (drop 82 e.body) h.0 (fte_right e.body s.0 s.1) h.4
tells_no_fault within es e more v t offset Repeated (inl h) = h.1.2 (tells_first within es e more v t h.1.0 h.1.1)
tells_no_fault within es e more v t offset Repeated (inr h) =
    let s = (sole (is within AnFte) SpellsFte es e more v.fte h.2 t.fte).0 in
    not_repeated e.body s.0 h.0 s.1 h.4

-- ---- where octets begin with a fault no element is read

truncated_no_element : (e : Element) (xs : List ℕ) → IsTruncated (element_octets e ++ xs) → ⊥
truncated_no_element e xs h = omega (arith, h, length-append e.body xs)

-- a fault that begins the octets is that of the element there
pub begun : (within : Within) (before : List Element) (rest : List ℕ) (e : Element) (xs : List ℕ) (offset : ℕ) (kind : FaultKind) → rest ≡ element_octets e ++ xs → BeginsWithFault within before rest offset kind → HasFirstFault within before e offset kind
begun within before rest e xs offset Truncated first h = absurd (truncated_no_element e xs (subst (λ (w : List ℕ). IsTruncated w) first h.1))
begun within before rest e xs offset Version first h = subst (λ (x : Element). HasFirstFault within before x offset Version) (same_first h.0 e h.1 xs (sym h.2 ∙ first)).0 h.3
begun within before rest e xs offset Length first h = subst (λ (x : Element). HasFirstFault within before x offset Length) (same_first h.0 e h.1 xs (sym h.2 ∙ first)).0 h.3
begun within before rest e xs offset SubelementLength first h = subst (λ (x : Element). HasFirstFault within before x offset SubelementLength) (same_first h.0 e h.1 xs (sym h.2 ∙ first)).0 h.3
begun within before rest e xs offset Repeated first h = subst (λ (x : Element). HasFirstFault within before x offset Repeated) (same_first h.0 e h.1 xs (sym h.2 ∙ first)).0 h.3

fault_no_element : (within : Within) (before : List Element) (rest : List ℕ) (offset : ℕ) (kind : FaultKind) (e : Element) (more : List Element) (xs : List ℕ) (v : ElementFields)
    → BeginsWithFault within before rest offset kind → rest ≡ joined (e ∷ more) ++ xs → Tells within (before ++ e ∷ more) v → ⊥
fault_no_element within before rest offset kind e more xs v h first t =
    let at : rest ≡ element_octets e ++ (joined more ++ xs) = first ∙ append_assoc (element_octets e) (joined more) xs in
    tells_no_fault within before e more v t offset kind (begun within before rest e (joined more ++ xs) offset kind at h).here

-- where the reading ends no element is read
end_no_element : (within : Within) (es : List Element) (rest : List ℕ) (e : Element) (more : List Element) (xs : List ℕ) (v : ElementFields)
    → EndsReading within rest → rest ≡ joined (e ∷ more) ++ xs → Tells within (es ++ e ∷ more) v → ⊥
end_no_element within es rest e more xs v ends first t =
    let at : rest ≡ element_octets e ++ (joined more ++ xs) = first ∙ append_assoc (element_octets e) (joined more) xs in
    All-middle (λ x. EndsReading within (element_octets x) → ⊥) es e more t.going (ends_front within e (joined more ++ xs) (subst (λ (w : List ℕ). EndsReading within w) at ends))

-- ---- two faults of one element are one

wrong_place : (octets : List ℕ) (p q : ℕ) → HasWrongSubelement octets p → HasWrongSubelement octets q → p ≡ q
wrong_place octets p q h k =
    elim (compare h.before k.before h.rest k.rest (sym h.cut ∙ k.cut)) [
      | inl l ↦ one p q h k l.0 l.1 l.2
      | inr l ↦ sym (one q p k h l.0 l.1 l.2)
    ]
  where
    one : (a b : ℕ) (x : HasWrongSubelement octets a) (y : HasWrongSubelement octets b) (more : List Element) → y.before ≡ x.before ++ more → x.rest ≡ joined more ++ y.rest → a ≡ b
    one a b x y [] whole e = x.at ∙ ap (λ (es : List Element). length (joined es)) (sym (whole ∙ append-nil x.before)) ∙ sym y.at
    one a b x y (s ∷ more) whole e =
        absurd (x.wrong s (joined more ++ y.rest) (e ∙ append_assoc (element_octets s) (joined more) y.rest) (All-middle IsRight x.before s more (subst (λ (es : List Element). AllByRecursion IsRight es) whole y.right)))

some_longer : (xs : List Element) → xs ≢ [] → 1 ≤ length xs
some_longer [] h = absurd (h refl)
some_longer (x ∷ xs) h = omega arith

repeated_place : (octets : List ℕ) (p q : ℕ) → HasRepeatedSubelement octets p → HasRepeatedSubelement octets q → p ≡ q
repeated_place octets p q h k =
    elim (compare h.before k.before (element_octets h.again ++ h.behind) (element_octets k.again ++ k.behind) (sym h.cut ∙ k.cut)) [
      | inl l ↦ one p q h k l.0 l.1 l.2
      | inr l ↦ sym (one q p k h l.0 l.1 l.2)
    ]
  where
    one : (a b : ℕ) (x : HasRepeatedSubelement octets a) (y : HasRepeatedSubelement octets b) (more : List Element) → y.before ≡ x.before ++ more → element_octets x.again ++ x.behind ≡ joined more ++ (element_octets y.again ++ y.behind) → a ≡ b
    one a b x y [] whole e = x.at ∙ ap (λ (es : List Element). length (joined es)) (sym (whole ∙ append-nil x.before)) ∙ sym y.at
    one a b x y (s ∷ more) whole e =
        let same : x.again ≡ s = (same_first x.again s x.behind (joined more ++ (element_octets y.again ++ y.behind)) (e ∙ append_assoc (element_octets s) (joined more) (element_octets y.again ++ y.behind))).0 in
        let id : s.id ≡ x.again.id = ap (λ (z : Element). z.id) (sym same) in
        let split : filter (has_id x.again.id) y.before ≡ filter (has_id x.again.id) x.before ++ s ∷ filter (has_id x.again.id) more = ap (filter (has_id x.again.id)) whole ∙ filter-middle (has_id x.again.id) x.before s more (eq-eqb _ _ id) in
        absurd (omega (arith, y.once x.again.id x.low x.high, some_longer _ x.second, ap length split, length-append (filter (has_id x.again.id) x.before) (s ∷ filter (has_id x.again.id) more)))

fault_offset : (within : Within) (es : List Element) (e : Element) (kind : FaultKind) (p q : ℕ) → HasFault within es e p kind → HasFault within es e q kind → p ≡ q
fault_offset within es e Truncated p q h k = absurd h
fault_offset within es e Version p q h k = h.0 ∙ sym k.0
fault_offset within es e Length p q h k = h.0 ∙ sym k.0
fault_offset within es e SubelementLength p q h k = h.1 ∙ ap (λ (n : ℕ). 84 + n) (wrong_place (drop 82 e.body) h.0 k.0 h.4 k.4) ∙ sym k.1
fault_offset within es e Repeated p q (inl h) (inl k) = h.0 ∙ sym k.0
fault_offset within es e Repeated p q (inl h) (inr k) = absurd (k.5 h.1)
fault_offset within es e Repeated p q (inr h) (inl k) = absurd (h.5 k.1)
fault_offset within es e Repeated p q (inr h) (inr k) = h.1 ∙ ap (λ (n : ℕ). 84 + n) (repeated_place (drop 82 e.body) h.0 k.0 h.4 k.4) ∙ sym k.1

abbrev unranked : ℕ → FaultKind
unranked zero = Truncated
unranked (suc zero) = Version
unranked (suc (suc zero)) = Length
unranked (suc (suc (suc zero))) = SubelementLength
unranked (suc (suc (suc (suc n)))) = Repeated

unranked_is : (x : FaultKind) → x ≡ unranked (rank x)
unranked_is Truncated = refl
unranked_is Version = refl
unranked_is Length = refl
unranked_is SubelementLength = refl
unranked_is Repeated = refl

same_rank : (j k : FaultKind) → rank j ≡ rank k → j ≡ k
same_rank j k h = unranked_is j ∙ ap unranked h ∙ sym (unranked_is k)

first_fault_is_one : (within : Within) (es : List Element) (e : Element) (p q : ℕ) (j k : FaultKind) → HasFirstFault within es e p j → HasFirstFault within es e q k → (p ≡ q) × (j ≡ k)
first_fault_is_one within es e p q j k f g =
    elim (cases_order (rank j) (rank k)) [
      | inl same ↦ (fault_offset within es e k p q (subst (λ (x : FaultKind). HasFault within es e p x) (same_rank j k same) f.here) g.here, same_rank j k same)
      | inr (inl low) ↦ absurd (g.first j p low f.here)
      | inr (inr high) ↦ absurd (f.first k q high g.here)
    ]

-- ---- the laws

-- two readings of one text
values_cut : (within : Within) (es fs : List Element) (xs ys : List ℕ) (f g : ElementFields) → Later es xs fs ys → EndsReading within xs → Tells within es f → Tells within fs g → f ≡ g
values_cut within es fs xs ys f g (more, whole, rest) ends s t = go more whole rest
  where
    go : (m : List Element) → fs ≡ es ++ m → xs ≡ joined m ++ ys → f ≡ g
    go [] w r = same_tells within es f g s (subst (λ (x : List Element). Tells within x g) (w ∙ append-nil es) t)
    go (e ∷ m) w r = absurd (end_no_element within es xs e m ys g ends r (subst (λ (x : List Element). Tells within x g) w t))

pub one_value : (within : Within) (octets : List ℕ) (f g : ElementFields) → SpellsElements within octets f → SpellsElements within octets g → f ≡ g
one_value within octets f g s t =
    elim (compare s.elements t.elements s.rest t.rest (sym s.cut ∙ t.cut)) [
      | inl l ↦ values_cut within s.elements t.elements s.rest t.rest f g l s.ends s.tells t.tells
      | inr l ↦ sym (values_cut within t.elements s.elements t.rest s.rest g f l t.ends t.tells s.tells)
    ]

pub value_or_fault : (within : Within) (octets : List ℕ) (f : ElementFields) (place : ℕ) (kind : FaultKind) → SpellsElements within octets f → HasElementFault within octets place kind → ⊥
value_or_fault within octets f place kind s h =
    elim (compare s.elements h.before s.rest h.rest (sym s.cut ∙ h.cut)) [
      | inl l ↦ ended l.0 l.1 l.2
      | inr l ↦ faulty l.0 l.1 l.2
    ]
  where
    ended : (more : List Element) → h.before ≡ s.elements ++ more → s.rest ≡ joined more ++ h.rest → ⊥
    ended [] whole e = h.going (subst (λ (w : List ℕ). EndsReading within w) e s.ends)
    ended (x ∷ more) whole e = end_no_element within s.elements s.rest x more h.rest h.said s.ends e (subst (λ (es : List Element). Tells within es h.said) whole h.tells)

    faulty : (more : List Element) → s.elements ≡ h.before ++ more → h.rest ≡ joined more ++ s.rest → ⊥
    faulty [] whole e = h.going (subst (λ (w : List ℕ). EndsReading within w) (sym e) s.ends)
    faulty (x ∷ more) whole e = fault_no_element within h.before h.rest h.offset kind x more s.rest f h.begins e (subst (λ (es : List Element). Tells within es f) whole s.tells)

-- two faults that begin the same octets
begun_twice : (within : Within) (before : List Element) (rest : List ℕ) (p q : ℕ) (j k : FaultKind) → BeginsWithFault within before rest p j → BeginsWithFault within before rest q k → (p ≡ q) × (j ≡ k)
begun_twice within before rest p q Truncated Truncated f g = (f.0 ∙ sym g.0, refl)
begun_twice within before rest p q Truncated Version f g = absurd (truncated_no_element g.0 g.1 (subst (λ (w : List ℕ). IsTruncated w) g.2 f.1))
begun_twice within before rest p q Truncated Length f g = absurd (truncated_no_element g.0 g.1 (subst (λ (w : List ℕ). IsTruncated w) g.2 f.1))
begun_twice within before rest p q Truncated SubelementLength f g = absurd (truncated_no_element g.0 g.1 (subst (λ (w : List ℕ). IsTruncated w) g.2 f.1))
begun_twice within before rest p q Truncated Repeated f g = absurd (truncated_no_element g.0 g.1 (subst (λ (w : List ℕ). IsTruncated w) g.2 f.1))
begun_twice within before rest p q Version k f g = first_fault_is_one within before f.0 p q Version k f.3 (begun within before rest f.0 f.1 q k f.2 g)
begun_twice within before rest p q Length k f g = first_fault_is_one within before f.0 p q Length k f.3 (begun within before rest f.0 f.1 q k f.2 g)
begun_twice within before rest p q SubelementLength k f g = first_fault_is_one within before f.0 p q SubelementLength k f.3 (begun within before rest f.0 f.1 q k f.2 g)
begun_twice within before rest p q Repeated k f g = first_fault_is_one within before f.0 p q Repeated k f.3 (begun within before rest f.0 f.1 q k f.2 g)

pub one_fault : (within : Within) (octets : List ℕ) (p q : ℕ) (j k : FaultKind) → HasElementFault within octets p j → HasElementFault within octets q k → (p ≡ q) × (j ≡ k)
one_fault within octets p q j k f g =
    elim (compare f.before g.before f.rest g.rest (sym f.cut ∙ g.cut)) [
      | inl l ↦ one p q j k f g l.0 l.1 l.2
      | inr l ↦ let same = one q p k j g f l.0 l.1 l.2 in (sym same.0, sym same.1)
    ]
  where
    one : (a b : ℕ) (m n : FaultKind) (x : HasElementFault within octets a m) (y : HasElementFault within octets b n) (more : List Element) → y.before ≡ x.before ++ more → x.rest ≡ joined more ++ y.rest → (a ≡ b) × (m ≡ n)
    one a b m n x y [] whole e =
        let before : y.before ≡ x.before = whole ∙ append-nil x.before in
        let same = begun_twice within x.before x.rest x.offset y.offset m n x.begins (subst (λ (z : List Element × List ℕ). BeginsWithFault within z.0 z.1 y.offset n) (ap (λ (es : List Element). (es, y.rest)) before ∙ ap (λ (w : List ℕ). (x.before, w)) (sym e)) y.begins) in
        (x.at ∙ ap (λ (w : ℕ). length (joined x.before) + w) same.0 ∙ ap (λ (es : List Element). length (joined es) + y.offset) (sym before) ∙ sym y.at, same.1)
    one a b m n x y (e ∷ more) whole rest = absurd (fault_no_element within x.before x.rest x.offset m e more y.rest y.said x.begins rest (subst (λ (es : List Element). Tells within es y.said) whole y.tells))
