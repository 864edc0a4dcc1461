-- Addresses of groups (IEEE Std 802.11-2020, 9.2.4.3).
use Rattle.std.specs.Prelude.{ℕ, ◌==◌, ◌%◌, slice_index, Bool, List}

-- a group address has the lowest bit of its first octet set
abbrev pub is_group : List ℕ → Bool
is_group octets = slice_index octets 0 % 2 == 1
