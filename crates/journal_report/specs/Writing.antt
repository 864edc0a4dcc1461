-- What it is to write a piece of text into a slice (profile).
use Rattle.std.specs.Prelude.{ℕ, ◌≡◌, ◌≤◌, ◌+◌, List, ◌++◌, length, take, drop}

-- the piece stands at the place and ends before `behind`; what was before it and after it stays
pub record Writes (piece : List ℕ) (at : ℕ) (old : List ℕ) (behind : ℕ) (new : List ℕ) : Type 0 where
  pub end : behind ≡ at + length piece
  pub front : take behind new ≡ take at old ++ piece
  pub rest : (n : ℕ) → behind ≤ n → drop n new ≡ drop n old
  pub len : length new ≡ length old
