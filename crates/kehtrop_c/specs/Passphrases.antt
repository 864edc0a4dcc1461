-- Passphrases (IEEE Std 802.11-2020, J.4).
use Rattle.std.specs.Prelude.{ℕ, ◌&&◌, nat_le, Bool, List, length}
use Rattle.std.specs.List.{list_all}

-- a character of a passphrase: a code from 32 to 126
abbrev pub is_character : ℕ → Bool
is_character code = nat_le 32 code && nat_le code 126

-- 8 to 63 characters
abbrev pub is_passphrase : List ℕ → Bool
is_passphrase octets = nat_le 8 (length octets) && nat_le (length octets) 63 && list_all is_character octets
