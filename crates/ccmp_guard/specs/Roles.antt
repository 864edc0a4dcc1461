-- What a temporal key serves for (IEEE Std 802.11-2020, 12.5.3.2, 12.7.2, 12.5.3.4.4).
use Rattle.std.specs.Prelude.{ℕ, ◌≤◌, List}
use Rattle.ccmp_guard.specs.declared.guard.Role.{Role}
use Rattle.ccmp_guard.specs.declared.guard.Role.TheVariants.{Pairwise, Group}
use Rattle.ccmp_guard.specs.Ccmp.{traffic_identifier}

-- the key id under which it is used: 0 for a pairwise key (12.5.3.2)
abbrev pub key_id : Role → ℕ
key_id Pairwise = 0
key_id (Group id) = id

-- a group key has a key id from 1 to 3 (12.7.2)
abbrev pub IsRole : Role → Type 0
IsRole Pairwise = Unit
IsRole (Group id) = (1 ≤ id) × (id ≤ 3)

-- the receive counter that a frame with that header is held against: under a pairwise key the one of its TID, under a
-- group key the only one (12.5.3.4.4)
abbrev pub counter_of : Role → List ℕ → ℕ
counter_of Pairwise header = traffic_identifier header
counter_of (Group id) header = 0
