-- What a line says by its first word, one exit at a time.
use Rattle.std.proofs.Common.{◌≡◌, true, false, List, ℕ, bytes_eq, codes, Some, Err, refl}
use Rattle.script_lines.specs.Script.{arguments}
use Rattle.frame_script.specs.Live.{turn_line, own_word, own_line}

-- in a live run
pub says_turn : (sizes line word : List ℕ) → bytes_eq line (codes "turn") ≡ true → own_line sizes line word ≡ Some (turn_line sizes)
says_turn sizes line word e = rw e refl

pub says_turn_more : (sizes line word : List ℕ) → bytes_eq line (codes "turn") ≡ false → bytes_eq word (codes "turn") ≡ true → own_line sizes line word ≡ Some (Err arguments)
says_turn_more sizes line word e f = rw (e, f) refl

pub says_own : (sizes line word : List ℕ) → bytes_eq line (codes "turn") ≡ false → bytes_eq word (codes "turn") ≡ false → own_line sizes line word ≡ own_word word
says_own sizes line word e f = rw (e, f) refl
