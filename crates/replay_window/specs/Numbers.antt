-- Packet numbers of a temporal key (IEEE Std 802.11-2020, 12.5.3.2, 12.5.3.4.4).
use Rattle.std.specs.Prelude.{ℕ, ◌-◌, ◌^◌, List, slice_index}

-- the last packet number, 2^48 - 1 (12.5.3.2)
abbrev pub last_number : ℕ
last_number = 2 ^ 48 - 1

-- the number that is kept for a traffic identifier (12.5.3.4.4)
abbrev pub kept_for : ℕ → List ℕ → ℕ
kept_for tid kept = slice_index kept tid
