-- The size of a frame that was sent, and a test that is turned about.
use Rattle.std.proofs.Common.{◌≡◌, ℕ, ◌≤◌, ◌-◌, Bool, true, false, not, List, Some, length, refl, sym, ◌∙◌}
use Rattle.std.specs.Prelude.{slice_index}
use Rattle.std.proofs.lemmas.Bool.{false≢true, le-leb}
use Rattle.script_lines.specs.Script.{size_of}
use Rattle.script_lines.specs.Headers.{IsSized}

-- a test that is turned about
pub not_false : (a b : Bool) → a ≡ not b → a ≡ false → b ≡ true
not_false a true is e = refl
not_false a false is e = absurd (false≢true (sym e ∙ is))

pub not_true : (a b : Bool) → a ≡ not b → a ≡ true → b ≡ false
not_true a true is e = absurd (false≢true (sym is ∙ e))
not_true a false is e = refl

-- a frame that was sent
pub sized_at : (sizes : List ℕ) (number whole : ℕ) → 1 ≤ number → number ≤ length sizes → whole ≡ slice_index sizes (number - 1) → (size : ℕ) → size ≤ whole → IsSized sizes number size
unfolding size_of
sized_at sizes number whole one sent is size le = record { some = one; sent = sent; whole = whole; is = rw (le-leb 1 number one, le-leb number (length sizes) sent, is) refl; within = le }

pub size_said : (sizes : List ℕ) (number whole : ℕ) → 1 ≤ number → number ≤ length sizes → whole ≡ slice_index sizes (number - 1) → Some whole ≡ size_of sizes number
unfolding size_of
size_said sizes number whole one sent is = rw (le-leb 1 number one, le-leb number (length sizes) sent, is) refl
