-- One list cut in two ways.
use Rattle.std.proofs.Common.{◌≡◌, ℕ, ◌-◌, List, [], ◌∷◌, ◌++◌, length, take, drop, refl, sym, ap, ◌∙◌, arith, inl, inr}
use Rattle.std.specs.Prelude.{◌⊎◌}
use Rattle.std.specs.List.{AllByRecursion}
use Rattle.std.proofs.lemmas.List.{take_at, drop_at, append-nil, append_assoc, length-append}
use Rattle.std.proofs.lemmas.List.Concat.{flat_map-append}
use Rattle.rsn_elements.specs.Framing.{Element, element_octets, joined}

-- fronts of one length are the same, and so is what stands behind
pub same_cut : (x y xs ys : List ℕ) → length x ≡ length y → x ++ xs ≡ y ++ ys → (x ≡ y) × (xs ≡ ys)
same_cut x y xs ys long e =
    let front : x ≡ y = sym (take_at x xs (length x) refl) ∙ ap (λ (w : List ℕ). take (length x) w) e ∙ take_at y ys (length x) (sym long) in
    (front, sym (drop_at x xs (length x) refl) ∙ ap (λ (w : List ℕ). drop (length x) w) e ∙ drop_at y ys (length x) (sym long))

-- one more element in front of the cut
pub cut_push : (octets : List ℕ) (es : List Element) (rest : List ℕ) (e : Element) (behind : List ℕ) → octets ≡ joined es ++ rest → rest ≡ element_octets e ++ behind → octets ≡ joined (es ++ e ∷ []) ++ behind
cut_push octets es rest e behind cut first =
    let more : joined (es ++ e ∷ []) ≡ joined es ++ element_octets e = flat_map-append element_octets es (e ∷ []) ∙ ap (λ (w : List ℕ). joined es ++ w) (append-nil (element_octets e)) in
    cut ∙ ap (λ (w : List ℕ). joined es ++ w) first ∙ sym (append_assoc (joined es) (element_octets e) behind) ∙ ap (λ (w : List ℕ). w ++ behind) (sym more)

-- where the cut is
pub cut_place : (octets : List ℕ) (es : List Element) (rest : List ℕ) → octets ≡ joined es ++ rest → length octets - length rest ≡ length (joined es)
cut_place octets es rest cut = omega (arith, ap length cut, length-append (joined es) rest)

pub All-push : {X : Type 0} (P : X → Type 0) (xs : List X) (x : X) → AllByRecursion P xs → P x → AllByRecursion P (xs ++ x ∷ [])
All-push P [] x all p = (p, tt)
All-push P (y ∷ ys) x all p = (all.0, All-push P ys x all.1 p)

same_element : (e f : Element) → e.id ≡ f.id → e.body ≡ f.body → e ≡ f
same_element e f id body = ap (λ (n : ℕ). record { id = n; body = e.body }) id ∙ ap (λ (b : List ℕ). record { id = f.id; body = b }) body

-- one element at the front at most
pub same_first : (e f : Element) (xs ys : List ℕ) → element_octets e ++ xs ≡ element_octets f ++ ys → (e ≡ f) × (xs ≡ ys)
same_first e f xs ys h =
    let id : e.id ≡ f.id = cc h in
    let size : length e.body ≡ length f.body = cc h in
    let rest : e.body ++ xs ≡ f.body ++ ys = cc h in
    let both = same_cut e.body f.body xs ys size rest in
    (same_element e f id both.0, both.1)

-- of two cuts behind whole elements one is the later
abbrev pub Later : List Element → List ℕ → List Element → List ℕ → Type 0
Later es xs fs ys = (more : List Element) × (fs ≡ es ++ more) × (xs ≡ joined more ++ ys)

pub compare : (es fs : List Element) (xs ys : List ℕ) → joined es ++ xs ≡ joined fs ++ ys → Later es xs fs ys ⊎ Later fs ys es xs
compare [] fs xs ys h = inl (fs, refl, h)
compare (e ∷ es) [] xs ys h = inr (e ∷ es, refl, sym h)
compare (e ∷ es) (f ∷ fs) xs ys h =
    let one = same_first e f (joined es ++ xs) (joined fs ++ ys) (sym (append_assoc (element_octets e) (joined es) xs) ∙ h ∙ append_assoc (element_octets f) (joined fs) ys) in
    elim (compare es fs xs ys one.1) [
      | inl l ↦ inl (l.0, ap (λ (x : Element). x ∷ fs) (sym one.0) ∙ ap (λ (x : List Element). e ∷ x) l.1, l.2)
      | inr l ↦ inr (l.0, ap (λ (x : Element). x ∷ es) one.0 ∙ ap (λ (x : List Element). f ∷ x) l.1, l.2)
    ]

-- what holds of all elements holds of one between
pub All-middle : {X : Type 0} (P : X → Type 0) (xs : List X) (x : X) (ys : List X) → AllByRecursion P (xs ++ x ∷ ys) → P x
All-middle P [] x ys all = all.0
All-middle P (z ∷ zs) x ys all = All-middle P zs x ys all.1
