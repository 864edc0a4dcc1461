-- The octets of a frame that is injected, and of a payload.
use Rattle.std.proofs.Common.{◌≡◌, ℕ, suc, ◌+◌, ◌*◌, ◌/◌, ◌<◌, ◌≤◌, Bool, true, false, if◌then◌else◌, nat_le, is_some, unwrap_or, IsTrue, List, [], ◌∷◌, length, refl, Option, None, Some, Ok, Err, arith, ap}
use Rattle.std.proofs.lemmas.Bool.{false≢true, le-leb, lt-leb}
use Rattle.hex.specs.Hex.{hex_digit_value}
use Rattle.script_words.specs.Tokens.{◌>>=◌, hex_value, some_octets}
use Rattle.script_lines.specs.Script.{Fault, octets_within}
use Rattle.script_words.specs.Names.{octets_of}

size_step : (h l : Option ℕ) (o : Option (List ℕ)) (octets : List ℕ) (n : ℕ) → ((os : List ℕ) → o ≡ Some os → n ≡ 2 * length os) → (h >>= (λ x. l >>= (λ y. o >>= (λ os. Some ((x * 16 + y) ∷ os))))) ≡ Some octets
    → suc (suc n) ≡ 2 * length octets
size_step None l o octets n f e = absurd cc
size_step (Some x) None o octets n f e = absurd cc
size_step (Some x) (Some y) None octets n f e = absurd cc
size_step (Some x) (Some y) (Some os) octets n f e =
    let same : (x * 16 + y) ∷ os ≡ octets = cc in
    omega (arith, f os refl, ap length same)

-- octets are half as many as digits
hex_value-size : (text octets : List ℕ) → hex_value text ≡ Some octets → length text ≡ 2 * length octets
unfolding hex_value
hex_value-size [] octets e =
    let same : [] ≡ octets = cc in
    omega (arith, ap length same)
hex_value-size (digit ∷ []) octets e = absurd cc
hex_value-size (high ∷ low ∷ rest) octets e = size_step (hex_digit_value high) (hex_digit_value low) (hex_value rest) octets (length rest) (hex_value-size rest) e

-- where there are octets, they are these
record IsWhole (text : List ℕ) : Type 0 where
  some : some_octets text ≡ Some (octets_of text)
  digits : IsTrue (is_some (hex_value text))
  size : length text ≡ 2 * length (octets_of text)

chosen : (text : List ℕ) (some : Bool) (o : Option (List ℕ)) → hex_value text ≡ o → is_some (if some then o else None) ≡ true → ((if some then o else None) ≡ Some (unwrap_or o [])) × (IsTrue (is_some o) × (length text ≡ 2 * length (unwrap_or o [])))
chosen text false o is e = absurd (false≢true e)
chosen text true None is e = absurd (false≢true e)
chosen text true (Some octets) is e = (refl, (refl, hex_value-size text octets is))

whole : (text : List ℕ) → is_some (some_octets text) ≡ true → IsWhole text
unfolding some_octets
whole text e = let parts = chosen text (nat_le 1 (length text)) (hex_value text) refl e in record { some = parts.0; digits = parts.1.0; size = parts.1.1 }

-- what is tested in turn
pub few-octets : (text : List ℕ) (most : ℕ) → is_some (some_octets text) ≡ true → length text / 2 ≤ most → length (octets_of text) ≤ most
few-octets text most e small =
    let w = whole text e in
    omega (arith, w.size, small)

pub fits-within : (text : List ℕ) (most : ℕ) (fault : Fault) → is_some (some_octets text) ≡ true → length text / 2 ≤ most → octets_within most fault text ≡ Ok (octets_of text)
unfolding octets_within
fits-within text most fault e small =
    let w = whole text e in
    let few : length (octets_of text) ≤ most = omega (arith, w.size, small) in
    rw (w.some, le-leb (length (octets_of text)) most few) refl

pub past-within : (text : List ℕ) (most : ℕ) (fault : Fault) → is_some (some_octets text) ≡ true → most < length text / 2 → octets_within most fault text ≡ Err fault
unfolding octets_within
past-within text most fault e large =
    let w = whole text e in
    let many : most < length (octets_of text) = omega (arith, w.size, large) in
    rw (w.some, lt-leb (length (octets_of text)) most many) refl

pub digits-within : (text : List ℕ) → is_some (some_octets text) ≡ true → IsTrue (is_some (hex_value text))
digits-within text e = (whole text e).digits

pub ruleset framing = (few-octets, fits-within, past-within, digits-within)
