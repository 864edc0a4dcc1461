-- How far octets begin what they are not (profile).
use Rattle.std.specs.Prelude.{ℕ, ◌≤◌, ◌<◌, List, ◌++◌, length, take}
use Rattle.domain_base.specs.Octets.{AreOctets}

-- with some octets after them they are one
abbrev pub Begins : (List ℕ → Type 0) → List ℕ → Type 0
Begins IsOne octets = (rest : List ℕ) × AreOctets rest × IsOne (octets ++ rest)

-- they are none, and so many of them, and no more, begin one
pub record NotOne (IsOne : List ℕ → Type 0) (octets : List ℕ) (place : ℕ) : Type 0 where
  pub none : ¬ IsOne octets
  pub within : place ≤ length octets
  pub begins : Begins IsOne (take place octets)
  pub longest : (n : ℕ) → place < n → n ≤ length octets → ¬ Begins IsOne (take n octets)
