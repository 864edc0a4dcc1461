-- What pairs of hexadecimal digits write, in this crate's words and in those of `hex`.
use Rattle.std.proofs.Common.{◌≡◌, ◌≢◌, ◌==◌, ◌&&◌, ◌||◌, ℕ, ◌+◌, ◌-◌, ◌*◌, ◌%◌, ◌/◌, nat_le, is_some, unwrap_or, Bool, true, false, if◌then◌else◌, List, [], ◌∷◌, length, refl, Option, None, Some, Result, Ok, Err, arith, ap, sym}
use Rattle.std.proofs.lemmas.Bool.{false≢true, eqb-true, eqb-false, eq-eqb, ne_eqb, le-leb}
use Rattle.std.proofs.lemmas.Bool.Decides.{same_from_decides, Decides-eqb}
use Rattle.std.specs.Char.{is_ascii_hexdigit}
use Rattle.std.specs.List.{list_all}
use Rattle.std.specs.Result.{result_ok}
use Rattle.hex.specs.Hex.{hex_digit_value, digit_or_error, decode_of, decode_pairs, decode_sized}
use Rattle.hex.specs.declared.error.FromHexError.{FromHexError}
use Rattle.script_words.specs.Tokens.{◌>>=◌, hex_value, hex_octets, some_octets}
use Rattle.script_words.specs.Names.{octets_of}
use Rattle.hex.specs.Hex as hex

-- one pair and the rest
step : (h l : Option ℕ) (c d i : ℕ) (rest : Result (List ℕ) FromHexError) (octets : Option (List ℕ)) → result_ok rest ≡ octets
    → result_ok (hex.◌>>=◌ (hex.◌>>=◌ (digit_or_error c i h) (λ x. hex.◌>>=◌ (digit_or_error d (i + 1) l) (λ y. Ok (x * 16 + y)))) (λ byte. hex.◌>>=◌ rest (λ bytes. Ok (byte ∷ bytes))))
    ≡ (h >>= (λ x. l >>= (λ y. octets >>= (λ os. Some ((x * 16 + y) ∷ os)))))
step None l c d i rest octets e = refl
step (Some x) None c d i rest octets e = refl
step (Some x) (Some y) c d i (Ok bytes) octets e = ap (λ o. o >>= (λ os. Some ((x * 16 + y) ∷ os))) e
step (Some x) (Some y) c d i (Err fault) octets e = ap (λ o. o >>= (λ os. Some ((x * 16 + y) ∷ os))) e

pub pairs-hex_value : (i : ℕ) (text : List ℕ) → result_ok (decode_pairs i text) ≡ hex_value text
unfolding decode_pairs hex_value
pairs-hex_value i [] = refl
pairs-hex_value i (digit ∷ []) = refl
pairs-hex_value i (high ∷ low ∷ rest) = step (hex_digit_value high) (hex_digit_value low) high low i (decode_pairs (i + 2) rest) (hex_value rest) (pairs-hex_value (i + 2) rest)

-- one answer by three tests
choose : (odd half whole : Bool) (e f : FromHexError) (r : Result (List ℕ) FromHexError) (o : Option (List ℕ)) → result_ok r ≡ o → (odd ≡ true → whole ≡ false) → (odd ≡ false → half ≡ whole)
    → result_ok (if odd then Err e else (if half then r else Err f)) ≡ (if whole then o else None)
choose true half true e f r o same p q = absurd (false≢true (sym (p refl)))
choose true half false e f r o same p q = refl
choose false true true e f r o same p q = same
choose false true false e f r o same p q = absurd (false≢true (sym (q refl)))
choose false false true e f r o same p q = absurd (false≢true (q refl))
choose false false false e f r o same p q = refl

even : (k n : ℕ) → (k % 2 == 1) ≡ false → (k / 2 == n) ≡ (k == 2 * n)
even k n e =
    let apart = eqb-false (k % 2) 1 e in
    same_from_decides {P = k / 2 ≡ n} (k / 2 == n) (k == 2 * n) (Decides-eqb (k / 2) n)
    (λ t. omega (arith, eqb-true k (2 * n) t), λ t. eq-eqb k (2 * n) (omega (arith, apart, t)))

pub sized-hex_octets : (size : ℕ) (text : List ℕ) → result_ok (decode_sized text size) ≡ hex_octets size text
unfolding hex_octets
sized-hex_octets size text =
    choose (length text % 2 == 1) (length text / 2 == size) (length text == 2 * size) _ _ (decode_pairs 0 text) (hex_value text) (pairs-hex_value 0 text)
    (λ odd. ne_eqb (length text) (2 * size) (λ t. omega (arith, eqb-true (length text % 2) 1 odd, t)))
    (even (length text) size)

-- ---- whether there are octets at all

one_of : (a b c : Bool) (x y z : ℕ) → is_some (if a then Some x else if b then Some y else if c then Some z else None) ≡ ((c || a) || b)
one_of true b true x y z = refl
one_of true b false x y z = refl
one_of false true true x y z = refl
one_of false true false x y z = refl
one_of false false true x y z = refl
one_of false false false x y z = refl

is_digit : (c : ℕ) → is_some (hex_digit_value c) ≡ is_ascii_hexdigit c
is_digit c = one_of (nat_le 65 c && nat_le c 70) (nat_le 97 c && nat_le c 102) (nat_le 48 c && nat_le c 57) (c - 55) (c - 87) (c - 48)

all_of : (h l : Option ℕ) (o : Option (List ℕ)) (a b c : Bool) → is_some h ≡ a → is_some l ≡ b → is_some o ≡ c → is_some (h >>= (λ x. l >>= (λ y. o >>= (λ os. Some ((x * 16 + y) ∷ os))))) ≡ (a && (b && c))
all_of None l o a b c p q r = rw (← p) refl
all_of (Some x) None o a b c p q r = rw (← p, ← q) refl
all_of (Some x) (Some y) None a b c p q r = rw (← p, ← q, ← r) refl
all_of (Some x) (Some y) (Some os) a b c p q r = rw (← p, ← q, ← r) refl

pub hex_value-digits : (text : List ℕ) → length text % 2 ≡ 0 → is_some (hex_value text) ≡ list_all is_ascii_hexdigit text
unfolding hex_value
hex_value-digits [] e = refl
hex_value-digits (digit ∷ []) e = absurd (omega (arith, e))
hex_value-digits (high ∷ low ∷ rest) e =
    all_of (hex_digit_value high) (hex_digit_value low) (hex_value rest) (is_ascii_hexdigit high) (is_ascii_hexdigit low) (list_all is_ascii_hexdigit rest) (is_digit high) (is_digit low)
    (hex_value-digits rest (omega (arith, e)))

none_last : (h l : Option ℕ) → (h >>= (λ x. l >>= (λ y. None >>= (λ os. Some ((x * 16 + y) ∷ os))))) ≡ None
none_last None l = refl
none_last (Some x) None = refl
none_last (Some x) (Some y) = refl

pub hex_value-odd : (text : List ℕ) → length text % 2 ≢ 0 → hex_value text ≡ None
unfolding hex_value
hex_value-odd [] e = absurd (e refl)
hex_value-odd (digit ∷ []) e = refl
hex_value-odd (high ∷ low ∷ rest) e = rw (hex_value-odd rest (λ t. e (omega (arith, t)))) (none_last (hex_digit_value high) (hex_digit_value low))

none_twice : (b : Bool) (o : Option (List ℕ)) → o ≡ None → is_some (if b then o else None) ≡ false
none_twice true o e = rw e refl
none_twice false o e = refl

-- what is tested in turn
pub no_octets : (text : List ℕ) → length text ≡ 0 → is_some (some_octets text) ≡ false
unfolding some_octets
no_octets text e = rw e refl

pub odd_octets : (text : List ℕ) → length text % 2 ≢ 0 → is_some (some_octets text) ≡ false
unfolding some_octets
odd_octets text e = none_twice (nat_le 1 (length text)) (hex_value text) (hex_value-odd text e)

pub even_octets : (text : List ℕ) → length text ≢ 0 → length text % 2 ≡ 0 → is_some (some_octets text) ≡ list_all is_ascii_hexdigit text
unfolding some_octets
even_octets text some e = rw (le-leb 1 (length text) (omega arith)) (hex_value-digits text e)

-- what is decoded at once
picked : (odd : Bool) (e : FromHexError) (r : Result (List ℕ) FromHexError) (o : Option (List ℕ)) (octets : List ℕ) → result_ok r ≡ o → (if odd then Err e else r) ≡ Ok octets → unwrap_or o [] ≡ octets
picked true e r o octets same is = absurd cc
picked false e r o octets same is = rw (← same, is) refl

pub decoded : (digits octets : List ℕ) → decode_of digits ≡ Ok octets → octets ≡ octets_of digits
decoded digits octets e = sym (picked (length digits % 2 == 1) _ (decode_pairs 0 digits) (hex_value digits) octets (pairs-hex_value 0 digits) e)
