-- The keys of the rounds.
use Rattle.std.proofs.Common.{◌≡◌, ℕ, zero, suc, ◌<◌, ◌+◌, ◌*◌, true, eqb, List, [], ◌∷◌, length, take, drop, get_or, set, replicate, refl, sym, ap, ◌∙◌, arith, add-one, inl, inr}
use Rattle.std.proofs.lemmas.Bool.{agree_below_at, eqb-true, cases_eq}
use Rattle.std.proofs.lemmas.List.{get_or-set_same, get_or-set_other}
use Rattle.std.proofs.lemmas.List.Elements.{All-append, All-take, All-drop, All-cons, All-nil}
use Rattle.domain_base.specs.Octets.{AreOctets}
use Rattle.aes_block.specs.Octets.{IsBlock}
use Rattle.aes_block.specs.Words.{word, columns}
use Rattle.aes_block.specs.Cipher.{word_at, rotated_word, power_of_x, next_round_key, round_key}
use Rattle.aes_block.specs.declared.constants.TheConstants.{ROUND_CONSTANTS}
use Rattle.aes_block.proofs.OctetLemmas.{AreOctets-exclusive_or}
use Rattle.aes_block.proofs.FieldLemmas.{times_x_below}
use Rattle.aes_block.proofs.Tables.{AreOctets-sub_octets}
use Rattle.aes_block.proofs.CodeLemmas.{length-next_round_key}

-- the table of the source
pub round_constant_at : (n : ℕ) → n < 10 → get_or ROUND_CONSTANTS n 0 ≡ word (power_of_x n) 0 0 0
unfolding power_of_x word
round_constant_at n h = eqb-true _ _ (agree_below_at (λ (k : ℕ). eqb (get_or ROUND_CONSTANTS k 0) (word (power_of_x k) 0 0 0)) (λ _. true) 10 n refl h)

pub power_of_x_below : (n : ℕ) → power_of_x n < 256
unfolding power_of_x
power_of_x_below zero = omega arith
power_of_x_below (suc n) = times_x_below (power_of_x n) (power_of_x_below n)

pub round_key-zero : (key : List ℕ) → round_key key 0 ≡ key
unfolding round_key
round_key-zero key = refl

pub round_key-more : (key : List ℕ) (n : ℕ) → round_key key (n + 1) ≡ next_round_key (power_of_x n) (round_key key n)
unfolding round_key
round_key-more key n = rw add-one refl

pub length-round_key : (key : List ℕ) (n : ℕ) → length key ≡ 16 → length (round_key key n) ≡ 16
unfolding round_key
length-round_key key zero len = len
length-round_key key (suc n) len = length-next_round_key (power_of_x n) (round_key key n) (length-round_key key n len)

AreOctets-word_at : (key : List ℕ) (i : ℕ) → AreOctets key → AreOctets (word_at key i)
AreOctets-word_at key i are = All-take (λ (x : ℕ). x < 256) 4 (drop (4 * i) key) (All-drop (λ (x : ℕ). x < 256) (4 * i) key are)

AreOctets-next_round_key : (constant : ℕ) (key : List ℕ) → constant < 256 → AreOctets key → AreOctets (next_round_key constant key)
unfolding next_round_key
AreOctets-next_round_key constant key below are =
    let P : ℕ → Type 0 = λ x. x < 256 in
    let last : List ℕ = word_at key 3 in
    let word = λ (i : ℕ). AreOctets-word_at key i are in
    let turned : AreOctets (rotated_word last) = All-append P (drop 1 last) (take 1 last) (All-drop P 1 last (word 3)) (All-take P 1 last (word 3)) in
    let zero' : 0 < 256 = omega arith in
    let added : AreOctets (constant ∷ 0 ∷ 0 ∷ 0 ∷ []) =
    All-cons P constant (0 ∷ 0 ∷ 0 ∷ []) below (All-cons P 0 (0 ∷ 0 ∷ []) zero' (All-cons P 0 (0 ∷ []) zero' (All-cons P 0 [] zero' (All-nil P)))) in
    let first = AreOctets-exclusive_or _ _ (word 0) (AreOctets-exclusive_or _ _ (AreOctets-sub_octets _ turned) added) in
    let second = AreOctets-exclusive_or _ _ (word 1) first in
    let third = AreOctets-exclusive_or _ _ (word 2) second in
    let fourth = AreOctets-exclusive_or _ _ (word 3) third in
    All-append P _ _ (All-append P _ _ (All-append P _ _ first second) third) fourth

pub AreOctets-round_key : (key : List ℕ) (n : ℕ) → AreOctets key → AreOctets (round_key key n)
unfolding round_key
AreOctets-round_key key zero are = are
AreOctets-round_key key (suc n) are = AreOctets-next_round_key (power_of_x n) (round_key key n) (power_of_x_below n) (AreOctets-round_key key n are)

pub IsBlock-round_key : (key : List ℕ) (n : ℕ) → IsBlock key → IsBlock (round_key key n)
IsBlock-round_key key n b = record {
  sixteen = length-round_key key n b.sixteen;
  are_octets = AreOctets-round_key key n b.are_octets;
}

-- ---- the loops of the source

-- the lists up to n are there
pub filled_more : (lists : List (List ℕ)) (f : ℕ → List ℕ) (n : ℕ) {next : List ℕ} → n < length lists
    → ((k : ℕ) → k < n → get_or lists k [] ≡ f k) → next ≡ f n
    → (k : ℕ) → k < n + 1 → get_or (set lists n next) k [] ≡ f k
filled_more lists f n {next} lt done e k h = elim (cases_eq k n) [
  | inl same ↦
      ap (λ (w : ℕ). get_or (set lists n next) w []) same ∙ get_or-set_same lists n next [] lt ∙ e ∙ ap f (sym same)
  | inr other ↦ get_or-set_other lists n k next [] other ∙ done k (omega arith)
]

pub keys_first : (state key : List ℕ) → state ≡ columns key → (k : ℕ) → k < 1 → get_or (replicate 11 state) k [] ≡ columns (round_key key k)
keys_first state key e k h =
    let is : k ≡ 0 = omega arith in
    ap (λ (w : ℕ). get_or (replicate 11 state) w []) is ∙ e ∙ ap columns (sym (round_key-zero key)) ∙ ap (λ (w : ℕ). columns (round_key key w)) (sym is)
