-- The numbers that a storm draws, by a linear congruential generator of 64 bits (profile).
use Rattle.std.specs.Prelude.{ℕ, zero, suc, ◌+◌, ◌*◌, ◌/◌, ◌%◌, ◌^◌, List, [], ◌∷◌, ◌++◌}

-- the state after one more number is drawn
unfoldable pub after : ℕ → ℕ
after state = (state * 6364136223846793005 + 1442695040888963407) % 2 ^ 64

-- the number that is drawn in that state, out of those below k
unfoldable pub drawn : ℕ → ℕ → ℕ
drawn k state = after state / 2 ^ 33 % k

-- what is made of numbers drawn one after the other: from the state before, the value and the state after
abbrev pub Draws : Type 0 → Type 0
Draws A = ℕ → A × ℕ

infixl 10 ◌>>=◌
abbrev pub ◌>>=◌ : {A B : Type 0} → Draws A → (A → Draws B) → Draws B
(first >>= then_) state = then_ (first state).0 (first state).1

-- a value for which nothing is drawn
abbrev pub given : {A : Type 0} → A → Draws A
given value state = (value, state)

-- the next number drawn, which is below k
abbrev pub next : ℕ → Draws ℕ
next k state = (drawn k state, after state)

-- so many octets drawn
unfoldable pub octets : ℕ → Draws (List ℕ)
octets zero = given []
octets (suc n) = do
  front ← octets n
  octet ← next 256
  given (front ++ octet ∷ [])
