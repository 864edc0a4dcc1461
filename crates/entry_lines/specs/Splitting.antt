-- Words and what stands between them, as a reader takes them apart.
-- For the code alone: no public contract speaks of it.
use Rattle.std.specs.Prelude.{ℕ, ◌≡◌, ◌≢◌, ◌++◌, List, [], ◌∷◌}
use Rattle.std.specs.List.{AllByRecursion, flat_map}

-- words with the separator between any two
abbrev pub joined : ℕ → List (List ℕ) → List ℕ
joined sep [] = []
joined sep (word ∷ words) = word ++ flat_map (λ w. sep ∷ w) words

-- the separator is nowhere in the word
abbrev pub IsWord : ℕ → List ℕ → Type 0
IsWord sep word = AllByRecursion (λ c. c ≢ sep) word

-- the text is these words, and the separator stands in none of them
pub record Joins (sep : ℕ) (text : List ℕ) (words : List (List ℕ)) : Type 0 where
  pub text_ : text ≡ joined sep words
  pub apart : AllByRecursion (IsWord sep) words
