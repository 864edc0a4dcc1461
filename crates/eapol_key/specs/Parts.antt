-- A frame before its MIC is put in, in the two parts in which it is written
-- (IEEE Std 802.11-2020, 12.7.2).
-- For the code alone: no public contract speaks of it.
use Rattle.std.specs.Prelude.{ℕ, ◌+◌, List, ◌∷◌, ◌++◌, length, replicate}
use Rattle.std.specs.Int.{w16, w64, to_be_bytes}

-- to the nonce
abbrev pub front_octets : ℕ → ℕ → ℕ → ℕ → List ℕ → ℕ → List ℕ
front_octets version information key_length counter nonce size =
    version ∷ 3 ∷ to_be_bytes w16 (95 + size) ++ 2 ∷ to_be_bytes w16 information
    ++ to_be_bytes w16 key_length ++ to_be_bytes w64 counter ++ nonce

-- from the IV on: zeros but for the RSC and the key data
abbrev pub back_octets : List ℕ → List ℕ → List ℕ
back_octets rsc key_data =
    replicate 16 0 ++ rsc ++ replicate 8 0 ++ replicate 16 0 ++ to_be_bytes w16 (length key_data)
    ++ key_data
