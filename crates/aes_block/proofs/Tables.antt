-- The tables of the source are the substitution and its inverse, and what each octet adds to a column:
-- computed over all 256 octets.
use Rattle.std.proofs.Common.{◌≡◌, ℕ, ◌<◌, true, ltb, List, [], ◌∷◌, length, map, get_or, refl, sym, ap, ap₂, ◌∙◌, arith}
use Rattle.std.proofs.lemmas.Bool.{agree_below_at, ltb-true}
use Rattle.std.proofs.lemmas.List.{length-map}
use Rattle.std.proofs.lemmas.List.Elements.{All-map, All-head, All-tail}
use Rattle.std.proofs.lemmas.List.FromFn.{get_or-map-range_with_len}
use Rattle.std.specs.List.{range_with_len}
use Rattle.domain_base.specs.Octets.{AreOctets}
use Rattle.aes_block.specs.Field.{product_of_bits, product, inverse, affine, sub_octet}
use Rattle.aes_block.specs.State.{sub_octets}
use Rattle.aes_block.specs.Words.{word}
use Rattle.aes_block.specs.declared.constants.TheConstants.{SUBSTITUTION, INVERSE_SUBSTITUTION, MIXED_FIRST, MIXED_SECOND, MIXED_THIRD, MIXED_FOURTH, UNMIXED_FIRST, UNMIXED_SECOND, UNMIXED_THIRD, UNMIXED_FOURTH}
use Rattle.aes_block.proofs.FieldLemmas.{same_at}

table_is : SUBSTITUTION ≡ map sub_octet (range_with_len 0 256)
unfolding product_of_bits product inverse affine sub_octet
table_is = refl

pub substitution_at : (x : ℕ) → x < 256 → get_or SUBSTITUTION x 0 ≡ sub_octet x
substitution_at x h =
    ap (λ (t : List ℕ). get_or t x 0) table_is ∙ get_or-map-range_with_len sub_octet 0 256 x x 0 h (omega arith)

pub sub_octet_below : (x : ℕ) → x < 256 → sub_octet x < 256
sub_octet_below x h =
    let b = ltb-true _ _ (agree_below_at (λ (y : ℕ). ltb (get_or SUBSTITUTION y 0) 256) (λ _. true) 256 x refl h) in
    omega (arith, substitution_at x h)

pub inverse_below : (x : ℕ) → x < 256 → get_or INVERSE_SUBSTITUTION x 0 < 256
inverse_below x h = ltb-true _ _ (agree_below_at (λ (y : ℕ). ltb (get_or INVERSE_SUBSTITUTION y 0) 256) (λ _. true) 256 x refl h)

pub sub_octet-inverse : (x : ℕ) → x < 256 → sub_octet (get_or INVERSE_SUBSTITUTION x 0) ≡ x
sub_octet-inverse x h =
    sym (substitution_at (get_or INVERSE_SUBSTITUTION x 0) (inverse_below x h))
    ∙ same_at (λ (y : ℕ). get_or SUBSTITUTION (get_or INVERSE_SUBSTITUTION y 0) 0) (λ (y : ℕ). y) x refl h

pub inverse-sub_octet : (x : ℕ) → x < 256 → get_or INVERSE_SUBSTITUTION (sub_octet x) 0 ≡ x
inverse-sub_octet x h =
    ap (λ (w : ℕ). get_or INVERSE_SUBSTITUTION w 0) (sym (substitution_at x h))
    ∙ same_at (λ (y : ℕ). get_or INVERSE_SUBSTITUTION (get_or SUBSTITUTION y 0) 0) (λ (y : ℕ). y) x refl h

-- ---- words

pub mixed_first_at : (x : ℕ) → x < 256 → get_or MIXED_FIRST x 0 ≡ word (product 2 (sub_octet x)) (sub_octet x) (sub_octet x) (product 3 (sub_octet x))
unfolding word product product_of_bits
mixed_first_at x h =
    same_at (λ (y : ℕ). get_or MIXED_FIRST y 0) (λ (y : ℕ). let s : ℕ = get_or SUBSTITUTION y 0 in word (product 2 s) s s (product 3 s)) x refl h
    ∙ ap (λ (s : ℕ). word (product 2 s) s s (product 3 s)) (substitution_at x h)

pub mixed_second_at : (x : ℕ) → x < 256 → get_or MIXED_SECOND x 0 ≡ word (product 3 (sub_octet x)) (product 2 (sub_octet x)) (sub_octet x) (sub_octet x)
unfolding word product product_of_bits
mixed_second_at x h =
    same_at (λ (y : ℕ). get_or MIXED_SECOND y 0) (λ (y : ℕ). let s : ℕ = get_or SUBSTITUTION y 0 in word (product 3 s) (product 2 s) s s) x refl h
    ∙ ap (λ (s : ℕ). word (product 3 s) (product 2 s) s s) (substitution_at x h)

pub mixed_third_at : (x : ℕ) → x < 256 → get_or MIXED_THIRD x 0 ≡ word (sub_octet x) (product 3 (sub_octet x)) (product 2 (sub_octet x)) (sub_octet x)
unfolding word product product_of_bits
mixed_third_at x h =
    same_at (λ (y : ℕ). get_or MIXED_THIRD y 0) (λ (y : ℕ). let s : ℕ = get_or SUBSTITUTION y 0 in word s (product 3 s) (product 2 s) s) x refl h
    ∙ ap (λ (s : ℕ). word s (product 3 s) (product 2 s) s) (substitution_at x h)

pub mixed_fourth_at : (x : ℕ) → x < 256 → get_or MIXED_FOURTH x 0 ≡ word (sub_octet x) (sub_octet x) (product 3 (sub_octet x)) (product 2 (sub_octet x))
unfolding word product product_of_bits
mixed_fourth_at x h =
    same_at (λ (y : ℕ). get_or MIXED_FOURTH y 0) (λ (y : ℕ). let s : ℕ = get_or SUBSTITUTION y 0 in word s s (product 3 s) (product 2 s)) x refl h
    ∙ ap (λ (s : ℕ). word s s (product 3 s) (product 2 s)) (substitution_at x h)

pub unmixed_first_at : (x : ℕ) → x < 256 → get_or UNMIXED_FIRST (sub_octet x) 0 ≡ word (product 14 x) (product 9 x) (product 13 x) (product 11 x)
unfolding word product product_of_bits
unmixed_first_at x h =
    ap (λ (s : ℕ). get_or UNMIXED_FIRST s 0) (sym (substitution_at x h))
    ∙ same_at (λ (y : ℕ). get_or UNMIXED_FIRST (get_or SUBSTITUTION y 0) 0) (λ (y : ℕ). word (product 14 y) (product 9 y) (product 13 y) (product 11 y)) x refl h

pub unmixed_second_at : (x : ℕ) → x < 256 → get_or UNMIXED_SECOND (sub_octet x) 0 ≡ word (product 11 x) (product 14 x) (product 9 x) (product 13 x)
unfolding word product product_of_bits
unmixed_second_at x h =
    ap (λ (s : ℕ). get_or UNMIXED_SECOND s 0) (sym (substitution_at x h))
    ∙ same_at (λ (y : ℕ). get_or UNMIXED_SECOND (get_or SUBSTITUTION y 0) 0) (λ (y : ℕ). word (product 11 y) (product 14 y) (product 9 y) (product 13 y)) x refl h

pub unmixed_third_at : (x : ℕ) → x < 256 → get_or UNMIXED_THIRD (sub_octet x) 0 ≡ word (product 13 x) (product 11 x) (product 14 x) (product 9 x)
unfolding word product product_of_bits
unmixed_third_at x h =
    ap (λ (s : ℕ). get_or UNMIXED_THIRD s 0) (sym (substitution_at x h))
    ∙ same_at (λ (y : ℕ). get_or UNMIXED_THIRD (get_or SUBSTITUTION y 0) 0) (λ (y : ℕ). word (product 13 y) (product 11 y) (product 14 y) (product 9 y)) x refl h

pub unmixed_fourth_at : (x : ℕ) → x < 256 → get_or UNMIXED_FOURTH (sub_octet x) 0 ≡ word (product 9 x) (product 13 x) (product 11 x) (product 14 x)
unfolding word product product_of_bits
unmixed_fourth_at x h =
    ap (λ (s : ℕ). get_or UNMIXED_FOURTH s 0) (sym (substitution_at x h))
    ∙ same_at (λ (y : ℕ). get_or UNMIXED_FOURTH (get_or SUBSTITUTION y 0) 0) (λ (y : ℕ). word (product 9 y) (product 13 y) (product 11 y) (product 14 y)) x refl h

-- ---- lists

pub AreOctets-sub_octets : (s : List ℕ) → AreOctets s → AreOctets (sub_octets s)
unfolding sub_octets
AreOctets-sub_octets s are = All-map (λ (x : ℕ). x < 256) sub_octet s (λ k d h. sub_octet_below (get_or s k d) (are k d h))

-- the octets that the substitution takes to these
unfoldable pub unsub_octets : List ℕ → List ℕ
unsub_octets s = map (λ x. get_or INVERSE_SUBSTITUTION x 0) s

pub sub_octets-unsub_octets : (s : List ℕ) → AreOctets s → sub_octets (unsub_octets s) ≡ s
unfolding sub_octets unsub_octets
sub_octets-unsub_octets [] are = refl
sub_octets-unsub_octets (x ∷ xs) are =
    ap₂ (λ (w : ℕ) (ws : List ℕ). w ∷ ws) (sub_octet-inverse x (All-head (λ (x : ℕ). x < 256) x xs are))
    (sub_octets-unsub_octets xs (All-tail (λ (x : ℕ). x < 256) x xs are))

unsub_octets-sub_octets : (s : List ℕ) → AreOctets s → unsub_octets (sub_octets s) ≡ s
unfolding sub_octets unsub_octets
unsub_octets-sub_octets [] are = refl
unsub_octets-sub_octets (x ∷ xs) are =
    ap₂ (λ (w : ℕ) (ws : List ℕ). w ∷ ws) (inverse-sub_octet x (All-head (λ (x : ℕ). x < 256) x xs are))
    (unsub_octets-sub_octets xs (All-tail (λ (x : ℕ). x < 256) x xs are))

pub sub_octets-injective : (s t : List ℕ) → AreOctets s → AreOctets t → sub_octets s ≡ sub_octets t → s ≡ t
sub_octets-injective s t are are' e =
    sym (unsub_octets-sub_octets s are) ∙ ap unsub_octets e ∙ unsub_octets-sub_octets t are'

pub length-unsub_octets : (s : List ℕ) → length (unsub_octets s) ≡ length s
unfolding unsub_octets
length-unsub_octets s = length-map s (λ (x : ℕ). get_or INVERSE_SUBSTITUTION x 0)

pub AreOctets-unsub_octets : (s : List ℕ) → AreOctets s → AreOctets (unsub_octets s)
unfolding unsub_octets
AreOctets-unsub_octets s are =
    All-map (λ (x : ℕ). x < 256) (λ (x : ℕ). get_or INVERSE_SUBSTITUTION x 0) s (λ k d h. inverse_below (get_or s k d) (are k d h))
