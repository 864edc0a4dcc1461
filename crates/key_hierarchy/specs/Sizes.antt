-- How long the names in a key's inputs may be (IEEE Std 802.11-2020, 9.4.2.2, 9.4.2.47, profile).
use Rattle.std.specs.Prelude.{ℕ, ◌≤◌, List, length}

-- an SSID has at most 32 octets, and here at least one: the wildcard SSID names no network (9.4.2.2, profile)
pub record IsSsid (octets : List ℕ) : Type 0 where
  pub least : 1 ≤ length octets
  pub most : length octets ≤ 32

-- an R0KH-ID has 1 to 48 octets (9.4.2.47)
pub record IsR0khId (octets : List ℕ) : Type 0 where
  pub least : 1 ≤ length octets
  pub most : length octets ≤ 48
