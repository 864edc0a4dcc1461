-- A walk along a chain meets each entry that the question fits.
use Rattle.std.proofs.Common.{◌≡◌, ◌<◌, ◌≤◌, ℕ, suc, List, length, get_or, All, Option, Some, None, ap, ◌∙◌, sym, subst, arith, inl, inr}
use Rattle.std.specs.Prelude.{slice_get}
use Rattle.std.specs.Option.{option_map}
use Rattle.std.proofs.lemmas.Bool.{cases_lt, cases_eq}
use Rattle.std.proofs.lemmas.List.{length-map, get_or_read}
use Rattle.std.proofs.lemmas.Option.{slice_get-map, slice_get-get_or}
use Rattle.run_journal.specs.declared.acts.Drawn.TheVariants as draw
use Rattle.run_journal.specs.declared.acts.Seal.{Seal}
use Rattle.run_journal.specs.declared.acts.Act.{Act}
use Rattle.run_journal.specs.declared.acts.Act.TheVariants.{Drew, Derived, Sent}
use Rattle.run_journal.specs.declared.acts.Entry.{Entry}
use Rattle.run_journal.specs.declared.breadth.Breadth.{Breadth}
use Rattle.run_journal.specs.declared.index.Question.{Question}
use Rattle.run_journal.specs.declared.index.Question.TheVariants as ask
use Rattle.run_journal.specs.Chained.{IsLast}
use Rattle.run_journal.specs.Premises.{drawn, seal_sent}
use Rattle.run_journal.specs.Looking.{Fits, temporal_key, confirmation_key, chain_of, chain_of_seal, chain_asked, value_chain, kck_chain, kept_chain, chains_of}

drawn_chain : (b : Breadth) (v : List ℕ) (act : Act) → drawn act ≡ Some v → value_chain b act ≡ Some (chain_of b v)
drawn_chain b v (Drew d) h = cc
drawn_chain b v _ h = cc

temporal_key_chain : (b : Breadth) (v : List ℕ) (act : Act) → temporal_key act ≡ Some v → value_chain b act ≡ Some (chain_of b v)
temporal_key_chain b v (Derived p i k) h = cc
temporal_key_chain b v (Drew (draw.Group kind g)) h = cc
temporal_key_chain b v _ h = cc

confirmation_key_chain : (b : Breadth) (v : List ℕ) (act : Act) → confirmation_key act ≡ Some v → kck_chain b act ≡ Some (chain_of b v)
confirmation_key_chain b v (Derived p i k) h = cc
confirmation_key_chain b v _ h = cc

seal_chain : (b : Breadth) (s : Seal) (act : Act) → seal_sent act ≡ Some s → value_chain b act ≡ Some (chain_of_seal b s)
seal_chain b s (Sent p k octets (Some t)) h = cc
seal_chain b s (Sent p k octets None) h = cc
seal_chain b s _ h = cc

-- what fits stands in the chain where it is looked for
fits_chain : (b : Breadth) (q : Question) (e : Entry) → Fits q e → kept_chain b q e.act ≡ Some (chain_asked b q)
fits_chain b (ask.Drawn octets) e h = drawn_chain b octets.now e.act h
fits_chain b (ask.TemporalKey octets) e h = temporal_key_chain b octets.now e.act h
fits_chain b (ask.ConfirmationKey octets) e h = confirmation_key_chain b octets.now e.act h
fits_chain b (ask.SealBefore seal later) e h = seal_chain b seal.now e.act h.0

-- the chain that stands at the place of what fits
fits_place : (b : Breadth) (q : Question) (entries : List Entry) (k : ℕ) (d : Entry) → k < length entries → Fits q (get_or entries k d) → slice_get (chains_of b q entries) k ≡ Some (Some (chain_asked b q))
fits_place b q entries k d h f =
    slice_get-map (λ (e : Entry). kept_chain b q e.act) entries k ∙ ap (option_map (λ (e : Entry). kept_chain b q e.act)) (slice_get-get_or entries k d h) ∙ ap Some (fits_chain b q (get_or entries k d) f)

-- no entry from place n on fits, and the place, if any, is that of the last entry of the chain below n
pub record Walked (b : Breadth) (q : Question) (entries : List Entry) (place : Option ℕ) : Type 0 where
  pub below : ℕ
  pub within : below ≤ length entries
  pub last : IsLast (chains_of b q entries) (chain_asked b q) below place
  pub above : (k : ℕ) (d : Entry) → below ≤ k → k < length entries → Fits q (get_or entries k d) → ⊥

-- how many entries may still be met
abbrev pub left : Option ℕ → ℕ
left None = 0
left (Some i) = suc i

pub walk_begins : (b : Breadth) (q : Question) (entries : List Entry) (place : Option ℕ) → IsLast (chains_of b q entries) (chain_asked b q) (length (chains_of b q entries)) place → Walked b q entries place
walk_begins b q entries place h = record {
  below = length entries;
  within = omega arith;
  last = subst (λ (n : ℕ). IsLast (chains_of b q entries) (chain_asked b q) n place) (length-map entries (λ (e : Entry). kept_chain b q e.act)) h;
  above = λ k d from to f. absurd (omega arith);
}

pub walk_within : (b : Breadth) (q : Question) (entries : List Entry) (i : ℕ) → Walked b q entries (Some i) → i < length entries
walk_within b q entries i w = let a : i < w.below = w.last.0 in omega (arith, w.within)

pub walk_stands : (b : Breadth) (q : Question) (entries : List Entry) (i : ℕ) → Walked b q entries (Some i) → slice_get (chains_of b q entries) i ≡ Some (Some (chain_asked b q))
walk_stands b q entries i w = w.last.1.0

above_more : (b : Breadth) (q : Question) (entries : List Entry) (i : ℕ) (x : Entry) → Walked b q entries (Some i) → x ≡ get_or entries i x → (Fits q x → ⊥) → (k : ℕ) (d : Entry) → i ≤ k → k < length entries → Fits q (get_or entries k d) → ⊥
above_more b q entries i x w is unfit k d from to f = elim (cases_eq k i) [
  | inl same ↦ unfit (subst (λ (e : Entry). Fits q e) (ap (λ (n : ℕ). get_or entries n d) same ∙ sym (get_or_read entries i x (omega arith) is d)) f)
  | inr other ↦ elim (cases_lt k w.below) [
    | inl lt ↦ w.last.1.1 k (omega arith) lt (fits_place b q entries k d to f)
    | inr ge ↦ w.above k d ge to f
  ]
]

pub walk_goes_on : (b : Breadth) (q : Question) (entries : List Entry) (i : ℕ) (x : Entry) (place : Option ℕ) → Walked b q entries (Some i) → x ≡ get_or entries i x → (Fits q x → ⊥) → IsLast (chains_of b q entries) (chain_asked b q) i place → Walked b q entries place
walk_goes_on b q entries i x place w is unfit h = record {
  below = i;
  within = let a : i < w.below = w.last.0 in omega (arith, w.within);
  last = h;
  above = above_more b q entries i x w is unfit;
}

pub walk_ends : (b : Breadth) (q : Question) (entries : List Entry) → Walked b q entries None → All (λ e. Fits q e → ⊥) entries
walk_ends b q entries w k d h f = elim (cases_lt k w.below) [
  | inl lt ↦ w.last k lt (fits_place b q entries k d h f)
  | inr ge ↦ w.above k d ge h f
]

-- each turn leaves fewer
pub fewer : (chains : List (Option ℕ)) (c i : ℕ) (place : Option ℕ) → IsLast chains c i place → left place < suc i
fewer chains c i None h = omega arith
fewer chains c i (Some j) h = let lt : j < i = h.0 in omega (arith, lt)
