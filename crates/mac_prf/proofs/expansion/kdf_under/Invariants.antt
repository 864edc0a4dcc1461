use Rattle.std.proofs.Common.{◌≡◌, ◌*◌, ℕ, List, [], length, take}
use Rattle.std.specs.List.{flat_map, range_with_len}
use Rattle.sha2.specs.Sha256.{sha256}
use Rattle.sha2.specs.Hashers.{Holds256}
use Rattle.mac_prf.specs.HoldsText.{HoldsText}
use Rattle.mac_prf.specs.Prf.{kdf_block}
use Rattle.mac_prf.proofs.expansion.kdf_under.Given as goal

-- what is written is the front of the blocks so far, under each key that the state holds
abbrev pub invariant-loop-i : goal.invariant-loop-i
invariant-loop-i l = (key : List ℕ) → HoldsText Holds256 sha256 l.keyed.inner l.keyed.outer key []
    → take (32 * l.i) l.out ≡ take (length l.fn.out) (flat_map (kdf_block key l.label l.context (8 * length l.fn.out)) (range_with_len 1 l.i))
