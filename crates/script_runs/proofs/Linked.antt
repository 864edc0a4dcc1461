-- To whom a fault of the air or of a link is laid.
use Rattle.std.proofs.Common.{◌≡◌, ℕ, ◌≤◌, ◌⊎◌, List, [], ◌∷◌, ◌++◌, map, Result, Ok, Err, refl, ap, arith, inl, inr}
use Rattle.std.specs.Prelude.{OnOk, OnErr}
use Rattle.domain_base.specs.Causes.{Rose, HasLinkCause}
use Rattle.domain_base.specs.declared.outside.LinkError.{LinkError}
use Rattle.domain_base.specs.declared.outside.LinkError.TheVariants as link
use Rattle.domain_links.specs.Telling.{HasFailed, NoneFailed, SameFaults}
use Rattle.domain_links.proofs.Unfailed.{NoneFailed-same, NoneFailed-more}
use Rattle.script_runs.specs.Outer.{Nobody, OnLinks, OnDraws, IsBlamed}
use Rattle.script_runs.specs.Turning.{link_blame}

nobody_links : Nobody ≡ OnLinks → ⊥
nobody_links e = absurd cc

nobody_draws : Nobody ≡ OnDraws → ⊥
nobody_draws e = absurd cc

links_draws : OnLinks ≡ OnDraws → ⊥
links_draws e = absurd cc

-- no count rose
pub blamed_none : {L : Type 0} (faults : L → ℕ) (old new : List L) (a b c : ℕ) → b ≡ a → (NoneFailed faults old → NoneFailed faults new) → IsBlamed faults Nobody old new a b c c
blamed_none faults old new a b c air same = record {
  later = omega (arith, air);
  failed = λ e. absurd (nobody_links e);
  kept = λ h. (air, same);
  undrawn = λ e. absurd (nobody_draws e);
  drawn = λ h. refl;
}

-- the count of the air did, or that of a link
pub blamed_links : {L : Type 0} (faults : L → ℕ) (old new : List L) (a b c : ℕ) → a ≤ b → Rose a b ⊎ HasFailed faults new → IsBlamed faults OnLinks old new a b c c
blamed_links faults old new a b c later failed = record {
  later = later;
  failed = λ e. failed;
  kept = λ h. absurd (h refl);
  undrawn = λ e. absurd (links_draws e);
  drawn = λ h. refl;
}

-- the air, which attaches a link
pub blamed_air : {L T : Type 0} (faults : L → ℕ) (old new : List L) (a b c : ℕ) (result : Result T LinkError) → HasLinkCause a b result → OnErr result (new ≡ old) → OnOk result (b ≡ a) → OnOk result (map faults new ≡ map faults old ++ 0 ∷ []) → IsBlamed faults (link_blame result) old new a b c c
blamed_air faults old new a b c (Ok x) cause same unfailed fresh = blamed_none faults old new a b c unfailed (NoneFailed-more faults old new fresh)
blamed_air faults old new a b c (Err link.Failed) cause same unfailed fresh = blamed_links faults old new a b c cause.later (inl (cause.failed refl))
blamed_air faults old new a b c (Err link.NoMemory) cause same unfailed fresh =
    blamed_none faults old new a b c (cause.kept refl) (NoneFailed-same faults old new (ap (map faults) same))

-- links, by which frames go
pub blamed_sends : {L T : Type 0} (faults : L → ℕ) (old new : List L) (a c : ℕ) (result : Result T LinkError) → (result ≡ Err link.Failed → HasFailed faults new) → (result ≡ Err link.NoMemory → SameFaults faults old new) → OnOk result (SameFaults faults old new) → IsBlamed faults (link_blame result) old new a a c c
blamed_sends faults old new a c (Ok x) failed kept unfailed = blamed_none faults old new a a c refl (NoneFailed-same faults old new unfailed)
blamed_sends faults old new a c (Err link.Failed) failed kept unfailed = blamed_links faults old new a a c (omega arith) (inr (failed refl))
blamed_sends faults old new a c (Err link.NoMemory) failed kept unfailed = blamed_none faults old new a a c refl (NoneFailed-same faults old new (kept refl))
