-- How long the room for the plain text is.
use Rattle.std.proofs.Common.{◌≡◌, ◌∙◌, ◌++◌, ◌+◌, ℕ, List, ap, length}
use Rattle.std.specs.Prelude.{replicate}
use Rattle.std.proofs.lemmas.List.{length-append, length-replicate}

pub zeros_long : (n k : ℕ) (xs : List ℕ) → n ≡ length xs → xs ≡ replicate k 0 → n ≡ k
zeros_long n k xs is are = is ∙ ap (λ (l : List ℕ). length l) are ∙ length-replicate k 0

pub behind_long : (k : ℕ) (header xs : List ℕ) → xs ≡ header ++ replicate k 0 → length xs ≡ length header + k
behind_long k header xs are = ap (λ (l : List ℕ). length l) are ∙ length-append header (replicate k 0) ∙ ap (λ (n : ℕ). length header + n) (length-replicate k 0)

pub seen_long : (k : ℕ) (xs ys : List ℕ) → xs ≡ ys → ys ≡ replicate k 0 → length xs ≡ k
seen_long k xs ys is are = ap (λ (l : List ℕ). length l) (is ∙ are) ∙ length-replicate k 0
