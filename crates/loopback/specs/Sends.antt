-- Whether a send by a socket took all of a frame (profile).
use Rattle.std.specs.Prelude.{ℕ, ◌==◌, Bool, false, Result, Ok, Err}

-- it took so many octets, by what it answered
abbrev pub is_whole : {E : Type 0} → Result ℕ E → ℕ → Bool
is_whole (Ok count) size = count == size
is_whole (Err error) size = false
