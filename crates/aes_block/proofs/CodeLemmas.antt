-- Blocks, octet by octet, and lists that a loop changes.
use Rattle.std.proofs.Common.{◌≡◌, ℕ, ◌<◌, ◌≤◌, ◌+◌, List, [], ◌∷◌, length, set, get_or, refl, sym, ap, ◌∙◌, arith, inl, inr}
use Rattle.std.proofs.lemmas.Bool.{cases_eq}
use Rattle.std.proofs.lemmas.List.{get_or-set_same, get_or-set_other, length-set}
use Rattle.std.proofs.lemmas.Grind.{same_number_lists}
use Rattle.aes_block.specs.Octets.{exclusive_or}
use Rattle.aes_block.specs.State.{entry, state_of, sub_octets}
use Rattle.aes_block.specs.Cipher.{next_round_key}
use Rattle.aes_block.proofs.StateLemmas.{state_of-same}

-- ---- a list that is changed in place from the front

-- below i the list is t, and from i on it is still s
pub record IsDoneBelow (s now t : List ℕ) (i : ℕ) : Type 0 where
  pub len : length now ≡ length t
  pub done : (k : ℕ) → k < i → get_or now k 0 ≡ get_or t k 0
  pub left : (k : ℕ) → i ≤ k → get_or now k 0 ≡ get_or s k 0

pub IsDoneBelow-none : (s t : List ℕ) → length s ≡ length t → IsDoneBelow s s t 0
IsDoneBelow-none s t len = record { len = len; done = λ k h. absurd (omega arith); left = λ k h. refl }

pub IsDoneBelow-more : (s now t : List ℕ) (i x : ℕ) → i < length t → IsDoneBelow s now t i → x ≡ get_or t i 0
    → IsDoneBelow s (set now i x) t (i + 1)
IsDoneBelow-more s now t i x lt d e = record {
  len = length-set now i x ∙ d.len;
  done = λ k h. elim (cases_eq k i) [
    | inl same ↦
        ap (λ (w : ℕ). get_or (set now i x) w 0) same ∙ get_or-set_same now i x 0 (omega (arith, d.len)) ∙ e
        ∙ ap (λ (w : ℕ). get_or t w 0) (sym same)
    | inr other ↦
        get_or-set_other now i k x 0 other ∙ d.done k (omega arith)
  ];
  left = λ k h.
      let other : k ≡ i → ⊥ = λ same. absurd (omega arith) in
      get_or-set_other now i k x 0 other ∙ d.left k (omega arith);
}

pub IsDoneBelow-all : (s now t : List ℕ) (i : ℕ) → length t ≤ i → IsDoneBelow s now t i → now ≡ t
IsDoneBelow-all s now t i h d = same_number_lists now t d.len (λ k lt. d.done k (omega (arith, d.len)))

-- ---- blocks

-- a block, written out
pub written_out : (s : List ℕ) → length s ≡ 16
    → s ≡ get_or s 0 0 ∷ get_or s 1 0 ∷ get_or s 2 0 ∷ get_or s 3 0 ∷ get_or s 4 0 ∷ get_or s 5 0 ∷ get_or s 6 0 ∷ get_or s 7 0
    ∷ get_or s 8 0 ∷ get_or s 9 0 ∷ get_or s 10 0 ∷ get_or s 11 0 ∷ get_or s 12 0 ∷ get_or s 13 0 ∷ get_or s 14 0 ∷ get_or s 15 0 ∷ []
unfolding state_of
written_out s len = sym (state_of-same (entry s) s len (λ r c h k. refl))

pub length-next_round_key : (constant : ℕ) (key : List ℕ) → length key ≡ 16 → length (next_round_key constant key) ≡ 16
unfolding next_round_key exclusive_or sub_octets
length-next_round_key constant key len = ap (λ (w : List ℕ). length (next_round_key constant w)) (written_out key len)
