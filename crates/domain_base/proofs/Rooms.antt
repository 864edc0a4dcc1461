-- A sink in memory that has room for a piece, or none.
use Rattle.std.proofs.Common.{◌≡◌, ℕ, ◌-◌, ◌<◌, min, Bool, true, false, not, ◌==◌, List, length, sym, ◌∙◌, arith}
use Rattle.std.proofs.lemmas.Bool.{false≢true, eqb-true, eqb-false}
use Rattle.domain_base.specs.Memory.{KeptSink, NoRoom}

pub some_piece : (value empty : Bool) (n : ℕ) → value ≡ not empty → empty ≡ (n == 0) → value ≡ true → 0 < n
some_piece value true n v e t = absurd (false≢true (sym v ∙ t))
some_piece value false n v e t =
    let some = eqb-false n 0 (sym e) in
    omega (arith, some)

pub no_piece : (value empty : Bool) (n : ℕ) → value ≡ not empty → empty ≡ (n == 0) → value ≡ false → n ≡ 0
no_piece value true n v e f = eqb-true n 0 (sym e)
no_piece value false n v e f = absurd (false≢true (sym f ∙ v))

pub no_room : (s : KeptSink) (piece : List ℕ) (free count : ℕ) → free ≡ s.room - length s.out → count ≡ min (length piece) free → count ≡ 0 → 0 < length piece → NoRoom s piece
no_room s piece free count f n none some = (omega (arith, f, n, none, some), some)

pub none_taken : (s : KeptSink) (piece : List ℕ) (free count : ℕ) → free ≡ s.room - length s.out → count ≡ min (length piece) free → NoRoom s piece → count ≡ 0
none_taken s piece free count f n full = omega (arith, f, n, full.0)
