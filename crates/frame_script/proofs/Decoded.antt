-- The octets that digits write, as the code decodes them.
use Rattle.std.proofs.Common.{◌≡◌, ℕ, List, Ok}
use Rattle.hex.specs.Hex.{decode_of}
use Rattle.script_words.specs.Names.{octets_of}
use Rattle.script_words.proofs.Hexed as hexed

pub decoded : (digits octets : List ℕ) → decode_of digits ≡ Ok octets → octets ≡ octets_of digits
decoded = hexed.decoded
