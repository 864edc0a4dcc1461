-- What elements say, as one more comes.
use Rattle.std.proofs.Common.{◌≡◌, ℕ, Bool, true, false, List, [], ◌∷◌, ◌++◌, Option, Some, None, refl, ap, ◌∙◌}
use Rattle.std.specs.Prelude.{filter, is_some, option_map}
use Rattle.std.proofs.lemmas.List.{append-nil}
use Rattle.std.proofs.lemmas.List.Elements.{filter-append}
use Rattle.rsn_elements.specs.Framing.{Element, Says}

pub filter-other : (kind : Element → Bool) (es : List Element) (e : Element) → kind e ≡ false → filter kind (es ++ e ∷ []) ≡ filter kind es
filter-other kind es e h = filter-append kind es (e ∷ []) ∙ rw h (append-nil (filter kind es))

pub filter-one : (kind : Element → Bool) (es : List Element) (e : Element) → kind e ≡ true → filter kind (es ++ e ∷ []) ≡ filter kind es ++ e ∷ []
filter-one kind es e h = filter-append kind es (e ∷ []) ∙ rw h refl

-- an element of another kind changes nothing
pub Says-other : {F : Type 0} (kind : Element → Bool) (Spells : List ℕ → F → Type 0) (es : List Element) (e : Element) (o : Option F) → kind e ≡ false → Says kind Spells es o → Says kind Spells (es ++ e ∷ []) o
Says-other kind Spells es e None h s = filter-other kind es e h ∙ s
Says-other kind Spells es e (Some f) h s = (s.0, filter-other kind es e h ∙ s.1, s.2)

-- the first of its kind is what the kind says
pub Says-one : {F : Type 0} (kind : Element → Bool) (Spells : List ℕ → F → Type 0) (es : List Element) (e : Element) (o : Option F) (f : F) → kind e ≡ true → o ≡ None → Says kind Spells es o → Spells e.body f → Says kind Spells (es ++ e ∷ []) (Some f)
Says-one kind Spells es e None f h none s spelled = (e, filter-one kind es e h ∙ ap (λ (x : List Element). x ++ e ∷ []) s, spelled)
Says-one kind Spells es e (Some g) f h none s spelled = absurd cc

pub none_from : {T : Type 0} (o : Option T) → is_some o ≡ false → o ≡ None
none_from None h = refl
none_from (Some x) h = absurd cc

pub none_mapped : {T U : Type 0} (f : T → U) (o : Option T) → is_some o ≡ false → option_map f o ≡ None
none_mapped f None h = refl
none_mapped f (Some x) h = absurd cc

-- the same, behind elements of which none is of the kind
pub Says-first : {F : Type 0} (kind : Element → Bool) (Spells : List ℕ → F → Type 0) (es : List Element) (e : Element) (f : F) → kind e ≡ true → filter kind es ≡ [] → Spells e.body f → Says kind Spells (es ++ e ∷ []) (Some f)
Says-first kind Spells es e f h none spelled = (e, filter-one kind es e h ∙ ap (λ (x : List Element). x ++ e ∷ []) none, spelled)

-- none of a kind among two lists
pub filter-neither : (kind : Element → Bool) (xs ys : List Element) → filter kind xs ≡ [] → filter kind ys ≡ [] → filter kind (xs ++ ys) ≡ []
filter-neither kind xs ys h k = filter-append kind xs ys ∙ ap (λ (x : List Element). x ++ filter kind ys) h ∙ k

-- a kind of which all stand in the first of two lists, or in the second
pub says-before : {F : Type 0} (kind : Element → Bool) (Spells : List ℕ → F → Type 0) (xs ys : List Element) (o : Option F) → filter kind ys ≡ [] → Says kind Spells xs o → Says kind Spells (xs ++ ys) o
says-before kind Spells xs ys None h s = filter-neither kind xs ys s h
says-before kind Spells xs ys (Some f) h s = (s.0, filter-append kind xs ys ∙ ap (λ (x : List Element). x ++ filter kind ys) s.1 ∙ ap (λ (x : List Element). s.0 ∷ x) h, s.2)

pub says-behind : {F : Type 0} (kind : Element → Bool) (Spells : List ℕ → F → Type 0) (xs ys : List Element) (o : Option F) → filter kind xs ≡ [] → Says kind Spells ys o → Says kind Spells (xs ++ ys) o
says-behind kind Spells xs ys None h s = filter-neither kind xs ys h s
says-behind kind Spells xs ys (Some f) h s = (s.0, filter-append kind xs ys ∙ ap (λ (x : List Element). x ++ filter kind ys) h ∙ s.1, s.2)
