-- What contracts see of the parts of a fast transition (profile).
use Rattle.std.specs.Prelude.{◌≡◌, ◌≤◌, ℕ, Bool, List, length}
use Rattle.domain_base.specs.declared.names.Mac.{Mac}
use Rattle.key_hierarchy.specs.declared.fast_transition.PmkR0.{PmkR0}
use Rattle.key_hierarchy.specs.FastTransition.{pmk_r0_name}
use Rattle.key_hierarchy.specs.Sizes.{IsSsid, IsR0khId}
use Rattle.run_journal.specs.declared.reply.Keyed.{Keyed}
use Rattle.ft_exchange.specs.declared.originator.Stage.{Stage}
use Rattle.ft_exchange.specs.declared.place.Place.{Place}

-- a station's attempt: both addresses, that of the access point of its session, the network, and whether it protects management frames,
-- the first level of its key hierarchy, its nonce, and how far it has come
pub record OriginatorState : Type 0 where
  pub own : Mac
  pub peer : Mac
  pub current : Mac
  pub ssid : List ℕ
  pub mfp : Bool
  pub mdid : List ℕ
  pub r0kh_id : List ℕ
  pub r0 : PmkR0
  pub snonce : List ℕ
  pub stage : Stage

-- its SSID and R0KH-ID have their sizes, and its PMKR0Name is that of its PMK-R0
abbrev pub IsOriginator : List ℕ → List ℕ → PmkR0 → List ℕ → Type 0
IsOriginator ssid id r0 r0_name = IsSsid ssid × IsR0khId id × (r0_name ≡ pmk_r0_name r0)

-- an access point's attempt or session: where, by which R0KH-ID, PMKR0Name as it was asked for, PMKR1Name, the key, whether it is
-- installed, and the last response
pub record TargetState : Type 0 where
  pub place : Place
  pub r0kh_id : List ℕ
  pub asked : List ℕ
  pub name : List ℕ
  pub key : Keyed
  pub is_installed : Bool
  pub stored : List ℕ

-- its R0KH-ID has its size, and the last response is one with elements
abbrev pub IsTarget : List ℕ → List ℕ → Type 0
IsTarget id stored = IsR0khId id × (131 ≤ length stored) × (length stored ≤ 512)
