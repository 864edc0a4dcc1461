-- Texts taken apart at their separators.
use Rattle.std.proofs.Common.{◌≡◌, ℕ, zero, suc, ◌+◌, ◌<◌, Bool, not, cond, List, [], ◌∷◌, ◌++◌, length, take, drop, get_or, Option, Some, None, refl, sym, ap, subst, ◌∙◌, arith, add-one, eq-eqb, ne_eqb, lt-ltb, le-ltb, length-append}
use Rattle.std.specs.Prelude.{◌==◌, position}
use Rattle.std.specs.List.{position_or_len}
use Rattle.std.proofs.lemmas.List.{append-nil}
use Rattle.entry_lines.specs.Splitting.{IsWord, Joins, joined}

-- the first separator stands after the first word
place_after : (sep : ℕ) (word rest : List ℕ) → IsWord sep word → position_or_len (λ c. c == sep) (word ++ sep ∷ rest) ≡ length word
place_after sep [] rest none = ap (λ (b : Bool). cond (not b) (1 + position_or_len (λ c. c == sep) rest) 0) (eq-eqb sep sep refl)
place_after sep (c ∷ word) rest none =
    let e = place_after sep word rest none.1 in
    ap (λ (b : Bool). cond (not b) (1 + position_or_len (λ d. d == sep) (word ++ sep ∷ rest)) 0) (ne_eqb c sep none.0) ∙ omega (arith, e)

-- there is none in a word
no_place : (sep : ℕ) (word : List ℕ) → IsWord sep word → position_or_len (λ c. c == sep) word ≡ length word
no_place sep [] none = refl
no_place sep (c ∷ word) none =
    let e = no_place sep word none.1 in
    ap (λ (b : Bool). cond (not b) (1 + position_or_len (λ d. d == sep) word) 0) (ne_eqb c sep none.0) ∙ omega (arith, e)

found_at : (p : ℕ → Bool) (xs : List ℕ) (n : ℕ) → position_or_len p xs ≡ n → n < length xs → position p xs ≡ Some n
found_at p xs n is lt = rw (is, lt-ltb n (length xs) lt) refl

found_nowhere : (p : ℕ → Bool) (xs : List ℕ) → position_or_len p xs ≡ length xs → position p xs ≡ None
found_nowhere p xs is = rw (is, le-ltb (length xs) (length xs) (omega arith)) refl

take_front : (word rest : List ℕ) → take (length word) (word ++ rest) ≡ word
take_front [] rest = refl
take_front (c ∷ word) rest = ap (λ (l : List ℕ). c ∷ l) (take_front word rest)

drop_front : (sep : ℕ) (word rest : List ℕ) → drop (suc (length word)) (word ++ sep ∷ rest) ≡ rest
drop_front sep [] rest = refl
drop_front sep (c ∷ word) rest = drop_front sep word rest

alone : (sep : ℕ) (text word : List ℕ) → Joins sep text (word ∷ []) → text ≡ word
alone sep text word j = j.text_ ∙ append-nil word

alone_found : (sep : ℕ) (text word : List ℕ) → Joins sep text (word ∷ []) → position (λ c. c == sep) text ≡ None
alone_found sep text word j = rw (alone sep text word j) (found_nowhere (λ c. c == sep) word (no_place sep word j.apart.0))

first_found : (sep : ℕ) (text word next : List ℕ) (words : List (List ℕ)) → Joins sep text (word ∷ next ∷ words) → position (λ c. c == sep) text ≡ Some (length word)
first_found sep text word next words j =
    let rest = joined sep (next ∷ words) in
    rw j.text_ (found_at (λ c. c == sep) (word ++ sep ∷ rest) (length word) (place_after sep word rest j.apart.0) (omega (arith, length-append word (sep ∷ rest))))

some_same : (n m : ℕ) (o : Option ℕ) → o ≡ Some n → o ≡ Some m → n ≡ m
some_same n m o p q = cc

some_not : (n : ℕ) (o : Option ℕ) → o ≡ Some n → o ≡ None → ⊥
some_not n o p q = cc

-- at the first separator
pub split_found : (sep place : ℕ) (text word rest : List ℕ) (words : List (List ℕ)) → position (λ c. c == sep) text ≡ Some place → word ≡ take place text → rest ≡ drop (place + 1) text → Joins sep text words
    → (word ≡ get_or words 0 []) × Joins sep rest (drop 1 words)
split_found sep place text word rest [] at w r j = absurd (some_not place _ at (rw j.text_ refl))
split_found sep place text word rest (first ∷ []) at w r j = absurd (some_not place _ at (alone_found sep text first j))
split_found sep place text word rest (first ∷ next ∷ words) at w r j =
    let after = joined sep (next ∷ words) in
    let same : place ≡ length first = some_same place (length first) _ at (first_found sep text first next words j) in
    let front : take place text ≡ first = rw (same, j.text_) (take_front first (sep ∷ after)) in
    let back : drop (place + 1) text ≡ after = rw (add-one, same, j.text_) (drop_front sep first after) in
    (w ∙ front, record { text_ = r ∙ back; apart = j.apart.1 })

-- where there is none
pub split_none : (sep : ℕ) (text : List ℕ) (words : List (List ℕ)) → position (λ c. c == sep) text ≡ None → Joins sep text words → (text ≡ get_or words 0 []) × Joins sep [] (drop 1 words)
split_none sep text [] at j = (j.text_, record { text_ = refl; apart = tt })
split_none sep text (first ∷ []) at j = (alone sep text first j, record { text_ = refl; apart = tt })
split_none sep text (first ∷ next ∷ words) at j = absurd (some_not (length first) _ (first_found sep text first next words j) at)

-- one word more is after
pub split_more : (sep : ℕ) (text : List ℕ) (words : List (List ℕ)) (n : ℕ) → Joins sep text (drop 1 (drop n words)) → Joins sep text (drop (n + 1) words)
split_more sep text words n j = subst (Joins sep text) (drop_more n words) j
  where
    drop_more : (k : ℕ) (ws : List (List ℕ)) → drop 1 (drop k ws) ≡ drop (k + 1) ws
    drop_more zero ws = refl
    drop_more (suc k) [] = rw add-one refl
    drop_more (suc k) (w ∷ ws) = drop_more k ws ∙ rw (add-one, add-one) refl

-- the word in front of what is after
pub first_after : (words : List (List ℕ)) (n : ℕ) → get_or (drop n words) 0 [] ≡ get_or words n []
first_after words zero = refl
first_after [] (suc n) = refl
first_after (w ∷ words) (suc n) = first_after words n

-- words with nothing after them
pub whole : {sep : ℕ} {text : List ℕ} (words : List (List ℕ)) → Joins sep text words → Joins sep text (words ++ [])
whole {sep} {text} words j = subst (Joins sep text) (sym (append-nil words)) j
