-- Columns as words: their octets, their exclusive-or, and the steps of a round on them.
use Rattle.std.proofs.Common.{◌≡◌, ℕ, ◌<◌, ◌+◌, ◌*◌, ◌/◌, ◌%◌, ◌^◌, List, [], ◌∷◌, ◌++◌, take, drop, replicate, get_or, refl, sym, ap, ap₂, ◌∙◌, arith}
use Rattle.std.proofs.lemmas.Nat.{xor_block, or_shifted, and_mask, be_bytes_4}
use Rattle.std.proofs.lemmas.List.Elements.{All-cons, All-nil}
use Rattle.std.specs.Int.{from_be_bytes, to_be_bytes, w32, w64}
use Rattle.std.specs.Int.Bits.{bit_and, bit_or, bit_xor, xor_assoc}
use Rattle.domain_base.specs.Octets.{AreOctets}
use Rattle.domain_base.proofs.OctetLemmas.{get_or_below}
use Rattle.aes_block.specs.Octets.{IsBlock}
use Rattle.aes_block.specs.Field.{product, sub_octet}
use Rattle.aes_block.specs.Words.{word, columns, octets_of, substituted_word, mixed_word, unmixed_word}
use Rattle.aes_block.specs.declared.constants.TheConstants.{SUBSTITUTION, INVERSE_SUBSTITUTION, MIXED_FIRST, MIXED_SECOND, MIXED_THIRD, MIXED_FOURTH, UNMIXED_FIRST, UNMIXED_SECOND, UNMIXED_THIRD, UNMIXED_FOURTH}
use Rattle.aes_block.proofs.OctetLemmas.{bit_xor_below}
use Rattle.aes_block.proofs.FieldLemmas.{sum4, sum4_turned, product_below}
use Rattle.aes_block.proofs.CodeLemmas.{written_out}
use Rattle.aes_block.proofs.Tables.{substitution_at, sub_octet_below, inverse-sub_octet, mixed_first_at, mixed_second_at, mixed_third_at, mixed_fourth_at, unmixed_first_at, unmixed_second_at, unmixed_third_at, unmixed_fourth_at}

-- ---- a word and its octets

pub word_first : (a b c d : ℕ) → b < 256 → c < 256 → d < 256 → word a b c d / 2 ^ 24 ≡ a
unfolding word
word_first a b c d hb hc hd = omega arith

pub word_second : (a b c d : ℕ) → b < 256 → c < 256 → d < 256 → word a b c d / 2 ^ 16 % 256 ≡ b
unfolding word
word_second a b c d hb hc hd = omega arith

pub word_third : (a b c d : ℕ) → c < 256 → d < 256 → word a b c d / 2 ^ 8 % 256 ≡ c
unfolding word
word_third a b c d hc hd = omega arith

pub word_fourth : (a b c d : ℕ) → d < 256 → word a b c d % 256 ≡ d
unfolding word
word_fourth a b c d hd = omega arith

pub word_of_octets : (a b c d : ℕ) → from_be_bytes w32 (a ∷ b ∷ c ∷ d ∷ []) ≡ word a b c d
unfolding word
word_of_octets a b c d = omega arith

pub xor_word : (a b c d e f g h : ℕ) → b < 256 → c < 256 → d < 256 → f < 256 → g < 256 → h < 256
    → bit_xor (word a b c d) (word e f g h) ≡ word (bit_xor a e) (bit_xor b f) (bit_xor c g) (bit_xor d h)
unfolding word
xor_word a b c d e f g h hb hc hd hf hg hh =
    xor_block 8 ((a * 2 ^ 8 + b) * 2 ^ 8 + c) ((e * 2 ^ 8 + f) * 2 ^ 8 + g) d h hd hh
    ∙ ap (λ (w : ℕ). w * 2 ^ 8 + bit_xor d h) (xor_block 8 (a * 2 ^ 8 + b) (e * 2 ^ 8 + f) c g hc hg
    ∙ ap (λ (w : ℕ). w * 2 ^ 8 + bit_xor c g) (xor_block 8 a e b f hb hf))

-- four words, each the exclusive-or of four, row by row
sum_of_words : (a b c d e f g h i j k l m n o p : ℕ) → b < 256 → c < 256 → d < 256 → f < 256 → g < 256 → h < 256
    → j < 256 → k < 256 → l < 256 → n < 256 → o < 256 → p < 256
    → bit_xor (bit_xor (bit_xor (word a b c d) (word e f g h)) (word i j k l)) (word m n o p)
    ≡ word (sum4 a e i m) (sum4 b f j n) (sum4 c g k o) (sum4 d h l p)
sum_of_words a b c d e f g h i j k l m n o p hb hc hd hf hg hh hj hk hl hn ho hp =
    ap (λ (w : ℕ). bit_xor (bit_xor w (word i j k l)) (word m n o p)) (xor_word a b c d e f g h hb hc hd hf hg hh)
    ∙ xor_assoc (word (bit_xor a e) (bit_xor b f) (bit_xor c g) (bit_xor d h)) (word i j k l) (word m n o p)
    ∙ ap (bit_xor (word (bit_xor a e) (bit_xor b f) (bit_xor c g) (bit_xor d h))) (xor_word i j k l m n o p hj hk hl hn ho hp)
    ∙ xor_word _ _ _ _ _ _ _ _ (bit_xor_below b f hb hf) (bit_xor_below c g hc hg) (bit_xor_below d h hd hh)
    (bit_xor_below j n hj hn) (bit_xor_below k o hk ho) (bit_xor_below l p hl hp)

word_same : {a b c d e f g h : ℕ} → a ≡ e → b ≡ f → c ≡ g → d ≡ h → word a b c d ≡ word e f g h
word_same {a} {b} {c} {d} {e} {f} ea eb ec ed = ap₂ (λ (v w : ℕ). word v w c d) ea eb ∙ ap₂ (word e f) ec ed

sum4_turned_twice : (a b c d : ℕ) → sum4 a b c d ≡ sum4 c d a b
sum4_turned_twice a b c d = sum4_turned a b c d ∙ sum4_turned d a b c

-- ---- the tables of words

pub mixed_column_is : (a b c d : ℕ) {i j k l : ℕ} → a < 256 → b < 256 → c < 256 → d < 256
    → i ≡ get_or MIXED_FIRST a 0 → j ≡ get_or MIXED_SECOND b 0 → k ≡ get_or MIXED_THIRD c 0 → l ≡ get_or MIXED_FOURTH d 0
    → bit_xor (bit_xor (bit_xor i j) k) l ≡ mixed_word (sub_octet a) (sub_octet b) (sub_octet c) (sub_octet d)
unfolding mixed_word
mixed_column_is a b c d ha hb hc hd ei ej ek el =
    let p : ℕ = sub_octet a in
    let q : ℕ = sub_octet b in
    let r : ℕ = sub_octet c in
    let s : ℕ = sub_octet d in
    let hp = sub_octet_below a ha in
    let hq = sub_octet_below b hb in
    let hr = sub_octet_below c hc in
    let hs = sub_octet_below d hd in
    ap₂ bit_xor (ap₂ bit_xor (ap₂ bit_xor (ei ∙ mixed_first_at a ha) (ej ∙ mixed_second_at b hb)) (ek ∙ mixed_third_at c hc)) (el ∙ mixed_fourth_at d hd)
    ∙ sum_of_words (product 2 p) p p (product 3 p) (product 3 q) (product 2 q) q q r (product 3 r) (product 2 r) r s s (product 3 s) (product 2 s)
    hp hp (product_below 3 p hp) (product_below 2 q hq) hq hq (product_below 3 r hr) (product_below 2 r hr) hr hs (product_below 3 s hs) (product_below 2 s hs)
    ∙ word_same refl (sym (sum4_turned (product 2 q) (product 3 r) s p)) (sum4_turned_twice p q (product 2 r) (product 3 s))
    (sum4_turned (product 3 p) q r (product 2 s))

pub unmixed_column_is : (a b c d : ℕ) {i j k l : ℕ} → a < 256 → b < 256 → c < 256 → d < 256
    → i ≡ get_or UNMIXED_FIRST (sub_octet a) 0 → j ≡ get_or UNMIXED_SECOND (sub_octet b) 0
    → k ≡ get_or UNMIXED_THIRD (sub_octet c) 0 → l ≡ get_or UNMIXED_FOURTH (sub_octet d) 0
    → bit_xor (bit_xor (bit_xor i j) k) l ≡ unmixed_word a b c d
unfolding unmixed_word
unmixed_column_is a b c d ha hb hc hd ei ej ek el =
    ap₂ bit_xor (ap₂ bit_xor (ap₂ bit_xor (ei ∙ unmixed_first_at a ha) (ej ∙ unmixed_second_at b hb)) (ek ∙ unmixed_third_at c hc)) (el ∙ unmixed_fourth_at d hd)
    ∙ sum_of_words (product 14 a) (product 9 a) (product 13 a) (product 11 a) (product 11 b) (product 14 b) (product 9 b) (product 13 b)
    (product 13 c) (product 11 c) (product 14 c) (product 9 c) (product 9 d) (product 13 d) (product 11 d) (product 14 d)
    (product_below 9 a ha) (product_below 13 a ha) (product_below 11 a ha) (product_below 14 b hb) (product_below 9 b hb) (product_below 13 b hb)
    (product_below 11 c hc) (product_below 14 c hc) (product_below 9 c hc) (product_below 13 d hd) (product_below 11 d hd) (product_below 14 d hd)
    ∙ word_same refl (sym (sum4_turned (product 14 b) (product 11 c) (product 13 d) (product 9 a))) (sum4_turned_twice (product 13 a) (product 9 b) (product 14 c) (product 11 d))
    (sum4_turned (product 11 a) (product 13 b) (product 9 c) (product 14 d))

-- ---- the tables of octets

pub substituted_column_is : (a b c d : ℕ) {i j k l w : ℕ} → a < 256 → b < 256 → c < 256 → d < 256
    → i ≡ get_or SUBSTITUTION a 0 → j ≡ get_or SUBSTITUTION b 0 → k ≡ get_or SUBSTITUTION c 0 → l ≡ get_or SUBSTITUTION d 0
    → w ≡ from_be_bytes w32 (i ∷ j ∷ k ∷ l ∷ []) → w ≡ substituted_word a b c d
unfolding substituted_word
substituted_column_is a b c d {i} {j} {k} {l} ha hb hc hd ei ej ek el ew =
    ew ∙ word_of_octets i j k l ∙ word_same (ei ∙ substitution_at a ha) (ej ∙ substitution_at b hb) (ek ∙ substitution_at c hc) (el ∙ substitution_at d hd)

pub unsubstituted_column_is : (a b c d : ℕ) {i j k l w : ℕ} → a < 256 → b < 256 → c < 256 → d < 256
    → i ≡ get_or INVERSE_SUBSTITUTION (sub_octet a) 0 → j ≡ get_or INVERSE_SUBSTITUTION (sub_octet b) 0
    → k ≡ get_or INVERSE_SUBSTITUTION (sub_octet c) 0 → l ≡ get_or INVERSE_SUBSTITUTION (sub_octet d) 0
    → w ≡ from_be_bytes w32 (i ∷ j ∷ k ∷ l ∷ []) → w ≡ word a b c d
unsubstituted_column_is a b c d {i} {j} {k} {l} ha hb hc hd ei ej ek el ew =
    ew ∙ word_of_octets i j k l ∙ word_same (ei ∙ inverse-sub_octet a ha) (ej ∙ inverse-sub_octet b hb) (ek ∙ inverse-sub_octet c hc) (el ∙ inverse-sub_octet d hd)

-- the lowest octet
pub and_octet : (n : ℕ) → bit_and n 255 ≡ n % 256
and_octet n = and_mask n 8

-- ---- lists of four words

pub four_words : {a b c d e f g h : ℕ} → a ≡ e → b ≡ f → c ≡ g → d ≡ h → a ∷ b ∷ c ∷ d ∷ [] ≡ e ∷ f ∷ g ∷ h ∷ []
four_words ea eb ec ed =
    let more = λ (x : ℕ) (xs : List ℕ). x ∷ xs in
    ap₂ more ea (ap₂ more eb (ap₂ more ec (ap₂ more ed refl)))

-- the words of a block
pub columns_are : (s : List ℕ)
    → word (get_or s 0 0) (get_or s 1 0) (get_or s 2 0) (get_or s 3 0) ∷ word (get_or s 4 0) (get_or s 5 0) (get_or s 6 0) (get_or s 7 0)
    ∷ word (get_or s 8 0) (get_or s 9 0) (get_or s 10 0) (get_or s 11 0) ∷ word (get_or s 12 0) (get_or s 13 0) (get_or s 14 0) (get_or s 15 0) ∷ []
    ≡ columns s
unfolding columns
columns_are s = refl

to_be_bytes-word : (a b c d : ℕ) → a < 256 → b < 256 → c < 256 → d < 256 → to_be_bytes w32 (word a b c d) ≡ a ∷ b ∷ c ∷ d ∷ []
to_be_bytes-word a b c d ha hb hc hd =
    let P : ℕ → Type 0 = λ x. x < 256 in
    let are : AreOctets (a ∷ b ∷ c ∷ d ∷ []) = All-cons P a (b ∷ c ∷ d ∷ []) ha (All-cons P b (c ∷ d ∷ []) hb (All-cons P c (d ∷ []) hc (All-cons P d [] hd (All-nil P)))) in
    be_bytes_4 (a ∷ b ∷ c ∷ d ∷ []) (word a b c d) refl (λ i. get_or_below (a ∷ b ∷ c ∷ d ∷ []) i are) (sym (word_of_octets a b c d))

pub octets_of-columns : (s : List ℕ) → IsBlock s → octets_of (columns s) ≡ s
unfolding columns octets_of
octets_of-columns s b =
    let at = λ (k : ℕ). get_or_below s k b.are_octets in
    let joined = λ (xs ys : List ℕ). xs ++ ys in
    ap₂ joined (to_be_bytes-word _ _ _ _ (at 0) (at 1) (at 2) (at 3)) (ap₂ joined (to_be_bytes-word _ _ _ _ (at 4) (at 5) (at 6) (at 7))
    (ap₂ joined (to_be_bytes-word _ _ _ _ (at 8) (at 9) (at 10) (at 11)) (to_be_bytes-word _ _ _ _ (at 12) (at 13) (at 14) (at 15))))
    ∙ sym (written_out s b.sixteen)

-- two words as one of 64 bits
halves : (a b : ℕ) → b < 2 ^ 32 → to_be_bytes w64 (a * 2 ^ 32 + b) ≡ to_be_bytes w32 a ++ to_be_bytes w32 b
halves a b hb =
    let n : ℕ = a * 2 ^ 32 + b in
    let joined = λ (xs ys : List ℕ). xs ++ ys in
    let e7 : n / 2 ^ 56 % 256 ≡ a / 2 ^ 24 % 256 = omega arith in
    let e6 : n / 2 ^ 48 % 256 ≡ a / 2 ^ 16 % 256 = omega arith in
    let e5 : n / 2 ^ 40 % 256 ≡ a / 2 ^ 8 % 256 = omega arith in
    let e4 : n / 2 ^ 32 % 256 ≡ a % 256 = omega arith in
    let e3 : n / 2 ^ 24 % 256 ≡ b / 2 ^ 24 % 256 = omega arith in
    let e2 : n / 2 ^ 16 % 256 ≡ b / 2 ^ 16 % 256 = omega arith in
    let e1 : n / 2 ^ 8 % 256 ≡ b / 2 ^ 8 % 256 = omega arith in
    let e0 : n % 256 ≡ b % 256 = omega arith in
    ap₂ joined (four_words e7 e6 e5 e4) (four_words e3 e2 e1 e0)

pub half_is : (a b : ℕ) → a < 2 ^ 32 → b < 2 ^ 32
    → to_be_bytes w64 (bit_or (a * 2 ^ 32 % 2 ^ 64) b) ≡ to_be_bytes w32 a ++ to_be_bytes w32 b
half_is a b ha hb =
    let fits : a * 2 ^ 32 % 2 ^ 64 ≡ a * 2 ^ 32 = omega arith in
    ap (to_be_bytes w64) (ap (λ (w : ℕ). bit_or w b) fits ∙ or_shifted a 32 b hb) ∙ halves a b hb

-- the octets of a state, put together half by half
pub halves_joined : (state : List ℕ) {upper lower : List ℕ}
    → upper ≡ to_be_bytes w32 (get_or state 0 0) ++ to_be_bytes w32 (get_or state 1 0)
    → lower ≡ to_be_bytes w32 (get_or state 2 0) ++ to_be_bytes w32 (get_or state 3 0)
    → take 8 (upper ++ replicate 8 0) ++ (lower ++ drop 8 (drop 8 (upper ++ replicate 8 0))) ≡ octets_of state
unfolding octets_of
halves_joined state eu el =
    ap₂ (λ (u v : List ℕ). take 8 (u ++ replicate 8 0) ++ (v ++ drop 8 (drop 8 (u ++ replicate 8 0)))) eu el

-- ---- the octets of a state in its words

pub at_first : (s : List ℕ) {state : List ℕ} → AreOctets s → state ≡ columns s
    → (get_or state 0 0 / 2 ^ 24 ≡ get_or s 0 0) × (get_or state 1 0 / 2 ^ 24 ≡ get_or s 4 0)
    × (get_or state 2 0 / 2 ^ 24 ≡ get_or s 8 0) × (get_or state 3 0 / 2 ^ 24 ≡ get_or s 12 0)
unfolding columns
at_first s are e =
    let at = λ (k : ℕ). get_or_below s k are in
    let from = λ (i : ℕ). ap (λ (w : List ℕ). get_or w i 0 / 2 ^ 24) e in (
      from 0 ∙ word_first _ _ _ _ (at 1) (at 2) (at 3),
      from 1 ∙ word_first _ _ _ _ (at 5) (at 6) (at 7),
      from 2 ∙ word_first _ _ _ _ (at 9) (at 10) (at 11),
      from 3 ∙ word_first _ _ _ _ (at 13) (at 14) (at 15),
    )

pub at_second : (s : List ℕ) {state : List ℕ} → AreOctets s → state ≡ columns s
    → (get_or state 0 0 / 2 ^ 16 % 256 ≡ get_or s 1 0) × (get_or state 1 0 / 2 ^ 16 % 256 ≡ get_or s 5 0)
    × (get_or state 2 0 / 2 ^ 16 % 256 ≡ get_or s 9 0) × (get_or state 3 0 / 2 ^ 16 % 256 ≡ get_or s 13 0)
unfolding columns
at_second s are e =
    let at = λ (k : ℕ). get_or_below s k are in
    let from = λ (i : ℕ). ap (λ (w : List ℕ). get_or w i 0 / 2 ^ 16 % 256) e in (
      from 0 ∙ word_second _ _ _ _ (at 1) (at 2) (at 3),
      from 1 ∙ word_second _ _ _ _ (at 5) (at 6) (at 7),
      from 2 ∙ word_second _ _ _ _ (at 9) (at 10) (at 11),
      from 3 ∙ word_second _ _ _ _ (at 13) (at 14) (at 15),
    )

pub at_third : (s : List ℕ) {state : List ℕ} → AreOctets s → state ≡ columns s
    → (get_or state 0 0 / 2 ^ 8 % 256 ≡ get_or s 2 0) × (get_or state 1 0 / 2 ^ 8 % 256 ≡ get_or s 6 0)
    × (get_or state 2 0 / 2 ^ 8 % 256 ≡ get_or s 10 0) × (get_or state 3 0 / 2 ^ 8 % 256 ≡ get_or s 14 0)
unfolding columns
at_third s are e =
    let at = λ (k : ℕ). get_or_below s k are in
    let from = λ (i : ℕ). ap (λ (w : List ℕ). get_or w i 0 / 2 ^ 8 % 256) e in (
      from 0 ∙ word_third _ _ _ _ (at 2) (at 3),
      from 1 ∙ word_third _ _ _ _ (at 6) (at 7),
      from 2 ∙ word_third _ _ _ _ (at 10) (at 11),
      from 3 ∙ word_third _ _ _ _ (at 14) (at 15),
    )

pub at_fourth : (s : List ℕ) {state : List ℕ} → AreOctets s → state ≡ columns s
    → (get_or state 0 0 % 256 ≡ get_or s 3 0) × (get_or state 1 0 % 256 ≡ get_or s 7 0)
    × (get_or state 2 0 % 256 ≡ get_or s 11 0) × (get_or state 3 0 % 256 ≡ get_or s 15 0)
unfolding columns
at_fourth s are e =
    let at = λ (k : ℕ). get_or_below s k are in
    let from = λ (i : ℕ). ap (λ (w : List ℕ). get_or w i 0 % 256) e in (
      from 0 ∙ word_fourth _ _ _ _ (at 3),
      from 1 ∙ word_fourth _ _ _ _ (at 7),
      from 2 ∙ word_fourth _ _ _ _ (at 11),
      from 3 ∙ word_fourth _ _ _ _ (at 15),
    )
