-- To whom faults are laid, by one call and by those before it.
use Rattle.std.proofs.Common.{◌≡◌, ◌≢◌, ℕ, ◌≤◌, List, [], ◌∷◌, ◌⊎◌, inl, inr, refl, ◌∙◌, arith}
use Rattle.domain_base.specs.Causes.{Rose}
use Rattle.domain_links.specs.Telling.{HasFailed, NoneFailed}
use Rattle.script_runs.specs.Outer.{Blame, Nobody, OnLinks, OnDraws, IsBlamed}

no_link : Nobody ≢ OnLinks
no_link e = cc

no_draw : Nobody ≢ OnDraws
no_draw e = cc

-- nothing was called
pub unblamed : {L : Type 0} (faults : L → ℕ) (links : List L) (air draws : ℕ) → IsBlamed faults Nobody links links air air draws draws
unblamed faults links air draws = record {
  later = omega arith;
  failed = λ e. absurd (no_link e);
  kept = λ e. (refl, λ none. none);
  undrawn = λ e. absurd (no_draw e);
  drawn = λ e. refl;
}

-- a fault behind calls of which none failed
pub blame_more : {L : Type 0} (faults : L → ℕ) (blame : Blame) (a b c : List L) (x y z d e f : ℕ) → IsBlamed faults Nobody a b x y d e → IsBlamed faults blame b c y z e f → IsBlamed faults blame a c x z d f
blame_more faults blame a b c x y z d e f first then_ =
    let air : y ≡ x = (first.kept no_link).0 in
    let draws : e ≡ d = first.drawn no_draw in
    record {
      later = omega (arith, first.later, then_.later);
      failed = λ is. elim (then_.failed is) [
        | inl rose ↦ inl (omega (arith, rose, air))
        | inr failed ↦ inr failed
      ];
      kept = λ other. ((then_.kept other).0 ∙ air, λ none. (then_.kept other).1 ((first.kept no_link).1 none));
      undrawn = λ is. omega (arith, then_.undrawn is, draws);
      drawn = λ other. then_.drawn other ∙ draws;
    }

-- ---- links that are given back behind all calls

none_yet : {L : Type 0} (faults : L → ℕ) (links : List L) → links ≡ [] → NoneFailed faults links
none_yet faults [] none = record { each = λ i l within. absurd (omega (arith, within)) }
none_yet faults (l ∷ links) none = absurd cc

-- what the count of the air is then
pub record HandsAll {L : Type 0} (faults : L → ℕ) (links : List L) (before now : ℕ) : Type 0 where
  pub later : before ≤ now
  pub cause : HasFailed faults links → Rose before now
  pub unfailed : NoneFailed faults links → now ≡ before

pub links_rose : {L : Type 0} (faults : L → ℕ) (blame : Blame) (old new : List L) (x y z d e : ℕ) → IsBlamed faults blame old new x y d e → HandsAll faults new y z → blame ≡ OnLinks → Rose x z
links_rose faults blame old new x y z d e b h is =
    let sides : Rose x y ⊎ HasFailed faults new → Rose x z =
    elim [
      | inl rose ↦ omega (arith, rose, h.later)
      | inr failed ↦ omega (arith, h.cause failed, b.later)
    ] in sides (b.failed is)

-- whoever else it is laid to, no link failed
unlinked : {L : Type 0} (faults : L → ℕ) (blame : Blame) (old new : List L) (x y z d e : ℕ) → old ≡ [] → blame ≢ OnLinks → IsBlamed faults blame old new x y d e → HandsAll faults new y z → z ≡ x
unlinked faults blame old new x y z d e none other b h =
    h.unfailed ((b.kept other).1 (none_yet faults old none)) ∙ (b.kept other).0

pub links_told : {L : Type 0} (faults : L → ℕ) (blame : Blame) (old new : List L) (x y z d e : ℕ) → old ≡ [] → IsBlamed faults blame old new x y d e → HandsAll faults new y z → z ≢ x → blame ≡ OnLinks
links_told faults OnLinks old new x y z d e none b h changed = refl
links_told faults Nobody old new x y z d e none b h changed = absurd (changed (unlinked faults Nobody old new x y z d e none no_link b h))
links_told faults OnDraws old new x y z d e none b h changed = absurd (changed (unlinked faults OnDraws old new x y z d e none (λ same. cc) b h))

pub draws_told : {L : Type 0} (faults : L → ℕ) (blame : Blame) (old new : List L) (x y d e : ℕ) → IsBlamed faults blame old new x y d e → e ≢ d → blame ≡ OnDraws
draws_told faults OnDraws old new x y d e b changed = refl
draws_told faults Nobody old new x y d e b changed = absurd (changed (b.drawn no_draw))
draws_told faults OnLinks old new x y d e b changed = absurd (changed (b.drawn (λ same. cc)))
