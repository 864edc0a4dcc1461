-- What suite 4 adds to the key data of M2 and M3 (IEEE Std 802.11-2020, 13.4.2).
use Rattle.std.specs.Prelude.{ℕ, List}

-- PMKR1Name, the mobility domain, and the whole FTE of the association response
pub record Mobility : Type 0 where
  pub name : List ℕ
  pub mdid : List ℕ
  pub fte : List ℕ
