use Rattle.std.proofs.Common.{◌≡◌, ℕ, zero, suc, ◌-◌, ◌%◌, ◌<◌, ◌≤◌, length, refl, ap, ◌∙◌, arith, inl, inr}
use Rattle.std.proofs.lemmas.Bool.{cases_lt, lt-ltb, le-ltb}
use Rattle.std.proofs.lemmas.List.{length-replicate}
use Rattle.rsn_elements.specs.declared.framing.Within.TheVariants.{KeyData}
use Rattle.rsn_elements.specs.Framing.{EndsReading}
use Rattle.domain_base.specs.Padding.{padding, padding_octets}
use Rattle.rsn_elements.specs.Sent.{pad_octets}
use Rattle.rsn_elements.proofs.laws.padding_ends.Goals as goal

ends : (n : ℕ) → EndsReading KeyData (padding_octets n)
ends zero = tt
ends (suc zero) = refl
ends (suc (suc n)) = (refl, refl)

count : (n : ℕ) → length (padding_octets n) ≡ n
count zero = refl
count (suc n) = ap suc (length-replicate n 0)

-- below 16 what is missing, from 16 on what a multiple of 8 is ahead
below : (size : ℕ) → size < 16 → length (pad_octets size) ≡ 16 - size
below size h = count (padding size) ∙ rw (lt-ltb size 16 h) refl

above : (size : ℕ) → 16 ≤ size → length (pad_octets size) ≡ (8 - size % 8) % 8
above size h = count (padding size) ∙ rw (le-ltb size 16 h) refl

pub returns : goal.returns
returns c = record {
  ends = λ size. ends (padding size);
  enough = λ size. elim (cases_lt size 16) [ inl low ↦ omega (arith, below size low) | inr high ↦ omega arith ];
  blocks = λ size. elim (cases_lt size 16) [ inl low ↦ omega (arith, below size low) | inr high ↦ omega (arith, above size high) ];
  least = λ size more long whole. elim (cases_lt size 16) [ inl low ↦ omega (arith, below size low) | inr high ↦ omega (arith, above size high) ];
}
