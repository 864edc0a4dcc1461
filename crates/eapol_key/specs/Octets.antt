-- A frame as one octet string (IEEE Std 802.11-2020, 12.7.2).
use Rattle.std.specs.Prelude.{◌≡◌, ℕ, ◌+◌, ◌≤◌, ◌<◌, ◌^◌, List, ◌∷◌, ◌++◌, length}
use Rattle.std.specs.Int.{w16, w64, to_be_bytes}
use Rattle.eapol_key.specs.KeyFrame.{KeyFields}

-- each field fits its place in a frame
pub record FitsKeyFrame (f : KeyFields) : Type 0 where
  pub version_low : 1 ≤ f.version
  pub version_high : f.version ≤ 3
  pub information : f.information < 2 ^ 16
  pub key_length : f.key_length < 2 ^ 16
  pub counter : f.counter < 2 ^ 64
  pub nonce : length f.nonce ≡ 32
  pub iv : length f.iv ≡ 16
  pub rsc : length f.rsc ≡ 8
  pub reserved : length f.reserved ≡ 8
  pub mic : length f.mic ≡ 16
  pub key_data : length f.key_data ≤ 65440

-- the fields one after the other, numbers highest octet first
unfoldable pub frame_octets : KeyFields → List ℕ
frame_octets f =
    f.version ∷ 3 ∷ to_be_bytes w16 (95 + length f.key_data)
    ++ 2 ∷ to_be_bytes w16 f.information
    ++ to_be_bytes w16 f.key_length
    ++ to_be_bytes w64 f.counter
    ++ f.nonce
    ++ f.iv
    ++ f.rsc
    ++ f.reserved
    ++ f.mic
    ++ to_be_bytes w16 (length f.key_data)
    ++ f.key_data
