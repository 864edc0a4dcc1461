-- Links none of which has failed.
use Rattle.std.proofs.Common.{◌≡◌, ℕ, ◌<◌, ◌≤◌, ◌+◌, ◌⊎◌, List, [], ◌∷◌, ◌++◌, length, map, get_or, sym, ap, ◌∙◌, arith, inl, inr}
use Rattle.std.proofs.lemmas.List.{length-map, length-append, get_or-map, get_or_push, get_or_append_left}
use Rattle.std.proofs.lemmas.Bool.{cases_lt}
use Rattle.domain_links.specs.Telling.{NoneFailed, SameFaults}

none_below : (i : ℕ) → i < 0 → ⊥
none_below i h = omega (arith, h)

pub NoneFailed-none : {L : Type 0} (faults : L → ℕ) → NoneFailed faults []
NoneFailed-none faults = record { each = λ i l within. absurd (none_below i within) }

-- counts stayed as they were
pub NoneFailed-same : {L : Type 0} (faults : L → ℕ) (old new : List L) → SameFaults faults old new → NoneFailed faults old → NoneFailed faults new
NoneFailed-same faults old new e none = record {
  each = λ i l within.
      let inside : i < length old = omega (arith, within, length-map new faults, length-map old faults, ap length e) in
      sym (get_or-map faults new i l 0 within) ∙ ap (λ (w : List ℕ). get_or w i 0) e ∙ get_or-map faults old i l 0 inside ∙ none.each i l inside;
}

-- one more link was attached
pub NoneFailed-more : {L : Type 0} (faults : L → ℕ) (old new : List L) → map faults new ≡ map faults old ++ 0 ∷ [] → NoneFailed faults old → NoneFailed faults new
NoneFailed-more faults old new e none = record {
  each = λ i l within.
      let long : length new ≡ length old + 1 = omega (arith, length-map new faults, length-map old faults, ap length e, length-append (map faults old) (0 ∷ [])) in
      let sides : (i < length old) ⊎ (length old ≤ i) → get_or (map faults old ++ 0 ∷ []) i 0 ≡ 0 =
      elim [
        | inl below ↦ get_or_append_left (map faults old) (0 ∷ []) 0 i (omega (arith, below, length-map old faults)) ∙ get_or-map faults old i l 0 below ∙ none.each i l below
        | inr above ↦ get_or_push (map faults old) 0 0 i (omega (arith, above, within, long, length-map old faults))
      ] in sym (get_or-map faults new i l 0 within) ∙ ap (λ (w : List ℕ). get_or w i 0) e ∙ sides (cases_lt i (length old));
}
