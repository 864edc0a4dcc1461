-- The steps of the rounds, on columns as words.
use Rattle.std.proofs.Common.{◌≡◌, ℕ, ◌<◌, ◌/◌, ◌%◌, ◌^◌, List, [], ◌∷◌, length, get_or, sym, ap, ap₂, ◌∙◌, arith}
use Rattle.std.specs.Int.Bits.{bit_xor, xor_assoc}
use Rattle.domain_base.proofs.OctetLemmas.{get_or_below}
use Rattle.aes_block.specs.Octets.{IsBlock, exclusive_or}
use Rattle.aes_block.specs.Field.{sub_octet}
use Rattle.aes_block.specs.State.{state_of, sub_octets, shift_rows, mix_columns}
use Rattle.aes_block.specs.Cipher.{next_round_key}
use Rattle.aes_block.specs.Words.{word, columns, substituted_word, mixed_word, unmixed_word, unmix_columns}
use Rattle.aes_block.proofs.OctetLemmas.{bit_xor_below}
use Rattle.aes_block.proofs.CodeLemmas.{written_out}
use Rattle.aes_block.proofs.StateLemmas.{length-shift_rows, length-mix_columns, length-unmix_columns, AreOctets-shift_rows, AreOctets-mix_columns, AreOctets-unmix_columns}
use Rattle.aes_block.proofs.Tables.{sub_octet_below, AreOctets-sub_octets}
use Rattle.aes_block.proofs.WordLemmas.{xor_word, word_first, word_second, word_third, word_fourth, four_words, at_first, at_second, at_third, at_fourth}

-- ---- blocks

pub IsBlock-turned : (s : List ℕ) → IsBlock s → IsBlock (shift_rows (sub_octets s))
IsBlock-turned s b = record {
  sixteen = length-shift_rows (sub_octets s);
  are_octets = AreOctets-shift_rows (sub_octets s) (AreOctets-sub_octets s b.are_octets);
}

pub IsBlock-mixed : (s : List ℕ) → IsBlock s → IsBlock (mix_columns s)
IsBlock-mixed s b = record { sixteen = length-mix_columns s; are_octets = AreOctets-mix_columns s b.are_octets }

pub IsBlock-unmixed : (s : List ℕ) → IsBlock s → IsBlock (unmix_columns s)
IsBlock-unmixed s b = record { sixteen = length-unmix_columns s; are_octets = AreOctets-unmix_columns s b.are_octets }

-- ---- a key added

abbrev sums : List ℕ → List ℕ → List ℕ
sums u v =
    bit_xor (get_or u 0 0) (get_or v 0 0) ∷ bit_xor (get_or u 1 0) (get_or v 1 0)
    ∷ bit_xor (get_or u 2 0) (get_or v 2 0) ∷ bit_xor (get_or u 3 0) (get_or v 3 0) ∷ []

columns-exclusive_or : (s k : List ℕ) → IsBlock s → IsBlock k → sums (columns s) (columns k) ≡ columns (exclusive_or s k)
unfolding columns exclusive_or
columns-exclusive_or s k bs bk =
    let at = λ (i : ℕ). get_or_below s i bs.are_octets in
    let at' = λ (i : ℕ). get_or_below k i bk.are_octets in
    four_words (xor_word _ _ _ _ _ _ _ _ (at 1) (at 2) (at 3) (at' 1) (at' 2) (at' 3)) (xor_word _ _ _ _ _ _ _ _ (at 5) (at 6) (at 7) (at' 5) (at' 6) (at' 7))
    (xor_word _ _ _ _ _ _ _ _ (at 9) (at 10) (at 11) (at' 9) (at' 10) (at' 11)) (xor_word _ _ _ _ _ _ _ _ (at 13) (at 14) (at 15) (at' 13) (at' 14) (at' 15))
    ∙ sym (ap₂ (λ (v w : List ℕ). columns (exclusive_or v w)) (written_out s bs.sixteen) (written_out k bk.sixteen))

pub added_is : (s k state key : List ℕ) → IsBlock s → IsBlock k → state ≡ columns s → key ≡ columns k
    → sums state key ≡ columns (exclusive_or s k)
added_is s k state key bs bk es ek = ap₂ sums es ek ∙ columns-exclusive_or s k bs bk

-- ---- the columns of a state after the steps of a round

pub columns-turned : (s : List ℕ) → length s ≡ 16
    → substituted_word (get_or s 0 0) (get_or s 5 0) (get_or s 10 0) (get_or s 15 0) ∷ substituted_word (get_or s 4 0) (get_or s 9 0) (get_or s 14 0) (get_or s 3 0)
    ∷ substituted_word (get_or s 8 0) (get_or s 13 0) (get_or s 2 0) (get_or s 7 0) ∷ substituted_word (get_or s 12 0) (get_or s 1 0) (get_or s 6 0) (get_or s 11 0) ∷ []
    ≡ columns (shift_rows (sub_octets s))
unfolding columns state_of shift_rows sub_octets substituted_word
columns-turned s len = sym (ap (λ (w : List ℕ). columns (shift_rows (sub_octets w))) (written_out s len))

-- a column of the octets that are substituted to these
abbrev mixed_from_octets : ℕ → ℕ → ℕ → ℕ → ℕ
mixed_from_octets a b c d = mixed_word (sub_octet a) (sub_octet b) (sub_octet c) (sub_octet d)

pub columns-mixed : (s : List ℕ) → length s ≡ 16
    → mixed_from_octets (get_or s 0 0) (get_or s 5 0) (get_or s 10 0) (get_or s 15 0) ∷ mixed_from_octets (get_or s 4 0) (get_or s 9 0) (get_or s 14 0) (get_or s 3 0)
    ∷ mixed_from_octets (get_or s 8 0) (get_or s 13 0) (get_or s 2 0) (get_or s 7 0) ∷ mixed_from_octets (get_or s 12 0) (get_or s 1 0) (get_or s 6 0) (get_or s 11 0) ∷ []
    ≡ columns (mix_columns (shift_rows (sub_octets s)))
unfolding columns state_of shift_rows sub_octets mix_columns mixed_word
columns-mixed s len = sym (ap (λ (w : List ℕ). columns (mix_columns (shift_rows (sub_octets w)))) (written_out s len))

pub columns-unmixed : (s : List ℕ) → length s ≡ 16
    → unmixed_word (get_or s 0 0) (get_or s 1 0) (get_or s 2 0) (get_or s 3 0) ∷ unmixed_word (get_or s 4 0) (get_or s 5 0) (get_or s 6 0) (get_or s 7 0)
    ∷ unmixed_word (get_or s 8 0) (get_or s 9 0) (get_or s 10 0) (get_or s 11 0) ∷ unmixed_word (get_or s 12 0) (get_or s 13 0) (get_or s 14 0) (get_or s 15 0) ∷ []
    ≡ columns (unmix_columns s)
unfolding columns state_of unmix_columns unmixed_word
columns-unmixed s len = sym (ap (λ (w : List ℕ). columns (unmix_columns w)) (written_out s len))

-- ---- a round

ap4 : (f : ℕ → ℕ → ℕ → ℕ → ℕ) {a b c d e g h i : ℕ} → a ≡ e → b ≡ g → c ≡ h → d ≡ i → f a b c d ≡ f e g h i
ap4 f {a} {b} {c} {d} {e} {g} ea eb ec ed = ap₂ (λ (v w : ℕ). f v w c d) ea eb ∙ ap₂ (f e g) ec ed

-- what a function gives of the columns that SHIFTROWS makes
turned_columns : (f : ℕ → ℕ → ℕ → ℕ → ℕ) (s state : List ℕ) {i j k l : ℕ} → IsBlock s → state ≡ columns s
    → i ≡ f (get_or state 0 0 / 2 ^ 24) (get_or state 1 0 / 2 ^ 16 % 256) (get_or state 2 0 / 2 ^ 8 % 256) (get_or state 3 0 % 256)
    → j ≡ f (get_or state 1 0 / 2 ^ 24) (get_or state 2 0 / 2 ^ 16 % 256) (get_or state 3 0 / 2 ^ 8 % 256) (get_or state 0 0 % 256)
    → k ≡ f (get_or state 2 0 / 2 ^ 24) (get_or state 3 0 / 2 ^ 16 % 256) (get_or state 0 0 / 2 ^ 8 % 256) (get_or state 1 0 % 256)
    → l ≡ f (get_or state 3 0 / 2 ^ 24) (get_or state 0 0 / 2 ^ 16 % 256) (get_or state 1 0 / 2 ^ 8 % 256) (get_or state 2 0 % 256)
    → i ∷ j ∷ k ∷ l ∷ []
    ≡ f (get_or s 0 0) (get_or s 5 0) (get_or s 10 0) (get_or s 15 0) ∷ f (get_or s 4 0) (get_or s 9 0) (get_or s 14 0) (get_or s 3 0)
    ∷ f (get_or s 8 0) (get_or s 13 0) (get_or s 2 0) (get_or s 7 0) ∷ f (get_or s 12 0) (get_or s 1 0) (get_or s 6 0) (get_or s 11 0) ∷ []
turned_columns f s state b e ei ej ek el =
    let first = at_first s b.are_octets e in
    let second = at_second s b.are_octets e in
    let third = at_third s b.are_octets e in
    let fourth = at_fourth s b.are_octets e in
    four_words (ei ∙ ap4 f first.0 second.1 third.2 fourth.3) (ej ∙ ap4 f first.1 second.2 third.3 fourth.0)
    (ek ∙ ap4 f first.2 second.3 third.0 fourth.1) (el ∙ ap4 f first.3 second.0 third.1 fourth.2)

pub full_round_is : (s k state key : List ℕ) {i j m n : ℕ} → IsBlock s → IsBlock k → state ≡ columns s → key ≡ columns k
    → i ≡ mixed_from_octets (get_or state 0 0 / 2 ^ 24) (get_or state 1 0 / 2 ^ 16 % 256) (get_or state 2 0 / 2 ^ 8 % 256) (get_or state 3 0 % 256)
    → j ≡ mixed_from_octets (get_or state 1 0 / 2 ^ 24) (get_or state 2 0 / 2 ^ 16 % 256) (get_or state 3 0 / 2 ^ 8 % 256) (get_or state 0 0 % 256)
    → m ≡ mixed_from_octets (get_or state 2 0 / 2 ^ 24) (get_or state 3 0 / 2 ^ 16 % 256) (get_or state 0 0 / 2 ^ 8 % 256) (get_or state 1 0 % 256)
    → n ≡ mixed_from_octets (get_or state 3 0 / 2 ^ 24) (get_or state 0 0 / 2 ^ 16 % 256) (get_or state 1 0 / 2 ^ 8 % 256) (get_or state 2 0 % 256)
    → sums (i ∷ j ∷ m ∷ n ∷ []) key ≡ columns (exclusive_or (mix_columns (shift_rows (sub_octets s))) k)
full_round_is s k state key bs bk es ek ei ej em en =
    let f : ℕ → ℕ → ℕ → ℕ → ℕ = λ a b c d. mixed_from_octets a b c d in
    added_is (mix_columns (shift_rows (sub_octets s))) k _ key (IsBlock-mixed _ (IsBlock-turned s bs)) bk
    (turned_columns f s state bs es ei ej em en ∙ columns-mixed s bs.sixteen) ek

pub last_round_is : (s k state key : List ℕ) {i j m n : ℕ} → IsBlock s → IsBlock k → state ≡ columns s → key ≡ columns k
    → i ≡ substituted_word (get_or state 0 0 / 2 ^ 24) (get_or state 1 0 / 2 ^ 16 % 256) (get_or state 2 0 / 2 ^ 8 % 256) (get_or state 3 0 % 256)
    → j ≡ substituted_word (get_or state 1 0 / 2 ^ 24) (get_or state 2 0 / 2 ^ 16 % 256) (get_or state 3 0 / 2 ^ 8 % 256) (get_or state 0 0 % 256)
    → m ≡ substituted_word (get_or state 2 0 / 2 ^ 24) (get_or state 3 0 / 2 ^ 16 % 256) (get_or state 0 0 / 2 ^ 8 % 256) (get_or state 1 0 % 256)
    → n ≡ substituted_word (get_or state 3 0 / 2 ^ 24) (get_or state 0 0 / 2 ^ 16 % 256) (get_or state 1 0 / 2 ^ 8 % 256) (get_or state 2 0 % 256)
    → sums (i ∷ j ∷ m ∷ n ∷ []) key ≡ columns (exclusive_or (shift_rows (sub_octets s)) k)
last_round_is s k state key bs bk es ek ei ej em en =
    added_is (shift_rows (sub_octets s)) k _ key (IsBlock-turned s bs) bk
    (turned_columns substituted_word s state bs es ei ej em en ∙ columns-turned s bs.sixteen) ek

-- ---- a round back

-- the octets that are substituted to those of a state, by their places in its words
pub record IsTurned (s state : List ℕ) : Type 0 where
  pub first : (sub_octet (get_or s 0 0) ≡ get_or state 0 0 / 2 ^ 24) × (sub_octet (get_or s 4 0) ≡ get_or state 1 0 / 2 ^ 24)
      × (sub_octet (get_or s 8 0) ≡ get_or state 2 0 / 2 ^ 24) × (sub_octet (get_or s 12 0) ≡ get_or state 3 0 / 2 ^ 24)
  pub second : (sub_octet (get_or s 1 0) ≡ get_or state 3 0 / 2 ^ 16 % 256) × (sub_octet (get_or s 5 0) ≡ get_or state 0 0 / 2 ^ 16 % 256)
      × (sub_octet (get_or s 9 0) ≡ get_or state 1 0 / 2 ^ 16 % 256) × (sub_octet (get_or s 13 0) ≡ get_or state 2 0 / 2 ^ 16 % 256)
  pub third : (sub_octet (get_or s 2 0) ≡ get_or state 2 0 / 2 ^ 8 % 256) × (sub_octet (get_or s 6 0) ≡ get_or state 3 0 / 2 ^ 8 % 256)
      × (sub_octet (get_or s 10 0) ≡ get_or state 0 0 / 2 ^ 8 % 256) × (sub_octet (get_or s 14 0) ≡ get_or state 1 0 / 2 ^ 8 % 256)
  pub fourth : (sub_octet (get_or s 3 0) ≡ get_or state 1 0 % 256) × (sub_octet (get_or s 7 0) ≡ get_or state 2 0 % 256)
      × (sub_octet (get_or s 11 0) ≡ get_or state 3 0 % 256) × (sub_octet (get_or s 15 0) ≡ get_or state 0 0 % 256)

-- a state after SUBBYTES and SHIFTROWS, written out
turned_out : (s : List ℕ) → length s ≡ 16 → shift_rows (sub_octets s)
    ≡ sub_octet (get_or s 0 0) ∷ sub_octet (get_or s 5 0) ∷ sub_octet (get_or s 10 0) ∷ sub_octet (get_or s 15 0)
    ∷ sub_octet (get_or s 4 0) ∷ sub_octet (get_or s 9 0) ∷ sub_octet (get_or s 14 0) ∷ sub_octet (get_or s 3 0)
    ∷ sub_octet (get_or s 8 0) ∷ sub_octet (get_or s 13 0) ∷ sub_octet (get_or s 2 0) ∷ sub_octet (get_or s 7 0)
    ∷ sub_octet (get_or s 12 0) ∷ sub_octet (get_or s 1 0) ∷ sub_octet (get_or s 6 0) ∷ sub_octet (get_or s 11 0) ∷ []
unfolding state_of shift_rows sub_octets
turned_out s len = ap (λ (w : List ℕ). shift_rows (sub_octets w)) (written_out s len)

pub is_turned : (s state : List ℕ) → IsBlock s → state ≡ columns (shift_rows (sub_octets s)) → IsTurned s state
is_turned s state b e =
    let t : List ℕ = shift_rows (sub_octets s) in
    let is_t = IsBlock-turned s b in
    let out = turned_out s b.sixteen in
    let back = λ (k : ℕ). ap (λ (w : List ℕ). get_or w k 0) (sym out) in
    let one = at_first t is_t.are_octets e in
    let two = at_second t is_t.are_octets e in
    let three = at_third t is_t.are_octets e in
    let four = at_fourth t is_t.are_octets e in
    record {
      first = (back 0 ∙ sym one.0, back 4 ∙ sym one.1, back 8 ∙ sym one.2, back 12 ∙ sym one.3);
      second = (back 13 ∙ sym two.3, back 1 ∙ sym two.0, back 5 ∙ sym two.1, back 9 ∙ sym two.2);
      third = (back 10 ∙ sym three.2, back 14 ∙ sym three.3, back 2 ∙ sym three.0, back 6 ∙ sym three.1);
      fourth = (back 7 ∙ sym four.1, back 11 ∙ sym four.2, back 15 ∙ sym four.3, back 3 ∙ sym four.0);
    }

-- ---- the keys

-- the octets of a word, which the substitution takes to those of its substituted word
pub unmix_word_is : (a b c d : ℕ) {s : ℕ} → a < 256 → b < 256 → c < 256 → d < 256 → s ≡ substituted_word a b c d
    → (sub_octet a ≡ s / 2 ^ 24) × (sub_octet b ≡ s / 2 ^ 16 % 256) × (sub_octet c ≡ s / 2 ^ 8 % 256) × (sub_octet d ≡ s % 256)
unfolding substituted_word
unmix_word_is a b c d ha hb hc hd e =
    let sb = sub_octet_below b hb in
    let sc = sub_octet_below c hc in
    let sd = sub_octet_below d hd in (
      sym (ap (λ (w : ℕ). w / 2 ^ 24) e ∙ word_first _ _ _ _ sb sc sd),
      sym (ap (λ (w : ℕ). w / 2 ^ 16 % 256) e ∙ word_second _ _ _ _ sb sc sd),
      sym (ap (λ (w : ℕ). w / 2 ^ 8 % 256) e ∙ word_third _ _ _ _ sc sd),
      sym (ap (λ (w : ℕ). w % 256) e ∙ word_fourth _ _ _ _ sd),
    )

pub unmix_key_is : (k key : List ℕ) {i j m n : ℕ} → IsBlock k → key ≡ columns k
    → i ≡ unmixed_word (get_or key 0 0 / 2 ^ 24) (get_or key 0 0 / 2 ^ 16 % 256) (get_or key 0 0 / 2 ^ 8 % 256) (get_or key 0 0 % 256)
    → j ≡ unmixed_word (get_or key 1 0 / 2 ^ 24) (get_or key 1 0 / 2 ^ 16 % 256) (get_or key 1 0 / 2 ^ 8 % 256) (get_or key 1 0 % 256)
    → m ≡ unmixed_word (get_or key 2 0 / 2 ^ 24) (get_or key 2 0 / 2 ^ 16 % 256) (get_or key 2 0 / 2 ^ 8 % 256) (get_or key 2 0 % 256)
    → n ≡ unmixed_word (get_or key 3 0 / 2 ^ 24) (get_or key 3 0 / 2 ^ 16 % 256) (get_or key 3 0 / 2 ^ 8 % 256) (get_or key 3 0 % 256)
    → i ∷ j ∷ m ∷ n ∷ [] ≡ columns (unmix_columns k)
unmix_key_is k key b e ei ej em en =
    let first = at_first k b.are_octets e in
    let second = at_second k b.are_octets e in
    let third = at_third k b.are_octets e in
    let fourth = at_fourth k b.are_octets e in
    four_words (ei ∙ ap4 unmixed_word first.0 second.0 third.0 fourth.0) (ej ∙ ap4 unmixed_word first.1 second.1 third.1 fourth.1)
    (em ∙ ap4 unmixed_word first.2 second.2 third.2 fourth.2) (en ∙ ap4 unmixed_word first.3 second.3 third.3 fourth.3)
    ∙ columns-unmixed k b.sixteen

pub next_round_key_is : (x : ℕ) (k key : List ℕ) {constant turned : ℕ} → x < 256 → IsBlock k → constant ≡ word x 0 0 0 → key ≡ columns k
    → turned ≡ substituted_word (get_or key 3 0 / 2 ^ 16 % 256) (get_or key 3 0 / 2 ^ 8 % 256) (get_or key 3 0 % 256) (get_or key 3 0 / 2 ^ 24)
    → bit_xor (bit_xor (get_or key 0 0) turned) constant
    ∷ bit_xor (get_or key 1 0) (bit_xor (bit_xor (get_or key 0 0) turned) constant)
    ∷ bit_xor (get_or key 2 0) (bit_xor (get_or key 1 0) (bit_xor (bit_xor (get_or key 0 0) turned) constant))
    ∷ bit_xor (get_or key 3 0) (bit_xor (get_or key 2 0) (bit_xor (get_or key 1 0) (bit_xor (bit_xor (get_or key 0 0) turned) constant))) ∷ []
    ≡ columns (next_round_key x k)
unfolding columns substituted_word next_round_key exclusive_or sub_octets
next_round_key_is x k key {constant} {turned} below b ex ek et =
    let at = λ (i : ℕ). get_or_below k i b.are_octets in
    let zero' : 0 < 256 = omega arith in
    let is_turned' : turned ≡ word (sub_octet (get_or k 13 0)) (sub_octet (get_or k 14 0)) (sub_octet (get_or k 15 0)) (sub_octet (get_or k 12 0)) =
    et ∙ ap4 substituted_word (at_second k b.are_octets ek).3 (at_third k b.are_octets ek).3 (at_fourth k b.are_octets ek).3 (at_first k b.are_octets ek).3 in
    let s = λ (i : ℕ). sub_octet (get_or k i 0) in
    let hs = λ (i : ℕ). sub_octet_below (get_or k i 0) (at i) in
    let word_of = λ (i : ℕ). ap (λ (w : List ℕ). get_or w i 0) ek in
    let a : ℕ = bit_xor (get_or k 0 0) (bit_xor (sub_octet (get_or k 13 0)) x) in
    let b1 : ℕ = bit_xor (get_or k 1 0) (bit_xor (sub_octet (get_or k 14 0)) 0) in
    let c1 : ℕ = bit_xor (get_or k 2 0) (bit_xor (sub_octet (get_or k 15 0)) 0) in
    let d1 : ℕ = bit_xor (get_or k 3 0) (bit_xor (sub_octet (get_or k 12 0)) 0) in
    let hb1 : b1 < 256 = bit_xor_below _ _ (at 1) (bit_xor_below _ _ (hs 14) zero') in
    let hc1 : c1 < 256 = bit_xor_below _ _ (at 2) (bit_xor_below _ _ (hs 15) zero') in
    let hd1 : d1 < 256 = bit_xor_below _ _ (at 3) (bit_xor_below _ _ (hs 12) zero') in
    let first : bit_xor (bit_xor (get_or key 0 0) turned) constant ≡ word a b1 c1 d1 =
    xor_assoc (get_or key 0 0) turned constant
    ∙ ap₂ bit_xor (word_of 0) (ap₂ bit_xor is_turned' ex ∙ xor_word _ _ _ _ x 0 0 0 (hs 14) (hs 15) (hs 12) zero' zero' zero')
    ∙ xor_word _ _ _ _ _ _ _ _ (at 1) (at 2) (at 3) (bit_xor_below _ _ (hs 14) zero') (bit_xor_below _ _ (hs 15) zero') (bit_xor_below _ _ (hs 12) zero') in
    let b2 : ℕ = bit_xor (get_or k 5 0) b1 in
    let c2 : ℕ = bit_xor (get_or k 6 0) c1 in
    let d2 : ℕ = bit_xor (get_or k 7 0) d1 in
    let hb2 : b2 < 256 = bit_xor_below _ _ (at 5) hb1 in
    let hc2 : c2 < 256 = bit_xor_below _ _ (at 6) hc1 in
    let hd2 : d2 < 256 = bit_xor_below _ _ (at 7) hd1 in
    let second = ap₂ bit_xor (word_of 1) first ∙ xor_word (get_or k 4 0) (get_or k 5 0) (get_or k 6 0) (get_or k 7 0) a b1 c1 d1 (at 5) (at 6) (at 7) hb1 hc1 hd1 in
    let third =
    ap₂ bit_xor (word_of 2) second
    ∙ xor_word (get_or k 8 0) (get_or k 9 0) (get_or k 10 0) (get_or k 11 0) (bit_xor (get_or k 4 0) a) b2 c2 d2 (at 9) (at 10) (at 11) hb2 hc2 hd2 in
    let fourth =
    ap₂ bit_xor (word_of 3) third
    ∙ xor_word (get_or k 12 0) (get_or k 13 0) (get_or k 14 0) (get_or k 15 0) (bit_xor (get_or k 8 0) (bit_xor (get_or k 4 0) a))
    (bit_xor (get_or k 9 0) b2) (bit_xor (get_or k 10 0) c2) (bit_xor (get_or k 11 0) d2) (at 13) (at 14) (at 15)
    (bit_xor_below _ _ (at 9) hb2) (bit_xor_below _ _ (at 10) hc2) (bit_xor_below _ _ (at 11) hd2) in
    four_words first second third fourth ∙ sym (ap (λ (w : List ℕ). columns (next_round_key x w)) (written_out k b.sixteen))
