-- The iterates of a block and their sum.
use Rattle.std.proofs.Common.{◌≡◌, ℕ, ◌+◌, List, [], ◌∷◌, length, replicate, refl, sym, ap, ◌∙◌, add-one}
use Rattle.std.specs.Int.Bits.{xor_zero_l}
use Rattle.sha1.specs.Sha1.{sha1}
use Rattle.mac_prf.specs.Hmac.{hmac}
use Rattle.aes_block.specs.Octets.{exclusive_or}
use Rattle.mac_prf.specs.Pbkdf2.{iterate, sum_of_iterates}
use Rattle.mac_prf.proofs.Sizes.{length-hmac_sha1}

-- zeros change nothing
exclusive_or-zeros : (xs : List ℕ) → exclusive_or (replicate (length xs) 0) xs ≡ xs
unfolding exclusive_or
exclusive_or-zeros [] = refl
exclusive_or-zeros (x ∷ xs) = rw (xor_zero_l x) (ap (λ (w : List ℕ). x ∷ w) (exclusive_or-zeros xs))

-- an iterate, and the sum up to it
pub record IsReached (key text now sum : List ℕ) (n : ℕ) : Type 0 where
  pub last : now ≡ iterate key text n
  pub total : sum ≡ sum_of_iterates key text n

pub first_reached : (key text now : List ℕ) → now ≡ hmac sha1 key text → IsReached key text now now 1
unfolding iterate sum_of_iterates
first_reached key text now e = record {
  last = e;
  total = e ∙ sym (ap (λ (n : ℕ). exclusive_or (replicate n 0) (hmac sha1 key text)) (sym (length-hmac_sha1 key text)) ∙ exclusive_or-zeros (hmac sha1 key text));
}

pub next_reached : (key text now sum next more : List ℕ) (n : ℕ) → IsReached key text now sum n → next ≡ hmac sha1 key now → more ≡ exclusive_or sum next → IsReached key text next more (n + 1)
unfolding iterate sum_of_iterates
next_reached key text now sum next more n r e s = rw add-one (
    let next_is : next ≡ hmac sha1 key (iterate key text n) = e ∙ ap (λ (w : List ℕ). hmac sha1 key w) r.last in
    record { last = next_is; total = s ∙ ap (λ (w : List ℕ). exclusive_or w next) r.total ∙ ap (λ (w : List ℕ). exclusive_or (sum_of_iterates key text n) w) next_is }
    )
