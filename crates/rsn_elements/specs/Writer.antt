-- What a writer of elements has written (profile).
use Rattle.std.specs.Prelude.{◌≡◌, ℕ, ◌+◌, ◌≤◌, List, length, take, drop, ◌++◌}
use Rattle.rsn_elements.specs.declared.writing.ElementWriter.{ElementWriter}

-- how many octets were written, at the front of the caller's
abbrev pub size : ElementWriter → ℕ
size w = w.len

-- the caller's octets as they are now
abbrev pub octets : ElementWriter → List ℕ
octets w = w.out.now

-- there is room for n more
abbrev pub HasRoom : ElementWriter → ℕ → Type 0
HasRoom w n = w.len + n ≤ length w.out.now

-- The piece now stands after what was written. The writer is over the same octets, and what lies after the piece is as
-- it was.
pub record Appends (old new : ElementWriter) (piece : List ℕ) : Type 0 where
  pub same : new.out.ghost_name ≡ old.out.ghost_name
  pub size : new.len ≡ old.len + length piece
  pub front : take new.len new.out.now ≡ take old.len old.out.now ++ piece
  pub rest : (n : ℕ) → new.len ≤ n → drop n new.out.now ≡ drop n old.out.now
  pub whole : length new.out.now ≡ length old.out.now
