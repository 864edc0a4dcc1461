-- The Secure bit of M2 (IEEE Std 802.11-2020, 12.7.2, profile).
use Rattle.std.specs.Prelude.{ℕ, Bool, true, false, List, [], slice_set}

-- M2 before its MIC is put in, with Secure set in its key information or as it is: the bit stands in the octet after the
-- descriptor type, beside that of the MIC (12.7.2)
abbrev pub marked : Bool → List ℕ → List ℕ
marked false frame = frame
marked true frame = slice_set frame 5 3

-- the FTE in the key data of M2 with suite 4: that of the association response, and none where Secure is set (12.7.6.3,
-- profile)
abbrev pub carried_fte : Bool → List ℕ → List ℕ
carried_fte false fte = fte
carried_fte true fte = []
