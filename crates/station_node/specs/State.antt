-- What contracts see of a station (profile).
use Rattle.std.specs.Prelude.{◌≡◌, ℕ, Bool, true, List, [], Option, Some, None, is_some, unwrap_or}
use Rattle.std.specs.Map.{lookup, set_value}
use Rattle.std.specs.BTreeMap.{is_at}
use Rattle.std.specs.Ordering.{nat_cmp}
use Rattle.group_key.specs.Keys.{Memories}
use Rattle.station_node.specs.declared.attempt.Attempt.{Attempt}
use Rattle.station_node.specs.declared.attempt.Association.{Association}
use Rattle.station_node.specs.declared.attempt.Association.TheVariants.{Requested, Accepted, Moving}
use Rattle.station_node.specs.declared.session.Session.{Session}

-- its place among the stations, the number of its next draw, its attempt, its session, and the group keys that it keeps
-- of the access points that it met, by their numbers and in their order. With suite 4 the R0KH-ID of its last four-way
-- handshake
pub record State : Type 0 where
  pub number : ℕ
  pub drawn : ℕ
  pub attempt : Option Attempt
  pub session : Option Session
  pub memories : List (ℕ × Memories)
  pub r0kh_id : List ℕ

-- no group keys
abbrev pub no_keys : Memories
no_keys = record { gtks = []; igtks = [] }

-- whether there is a place for what is kept of an access point
abbrev pub is_there : List (ℕ × Memories) → ℕ → Bool
is_there memories p = is_some (lookup (is_at (nat_cmp p)) memories)

-- the group keys kept of an access point: none, where there is no place
abbrev pub memory_at : List (ℕ × Memories) → ℕ → Memories
memory_at memories p = unwrap_or (lookup (is_at (nat_cmp p)) memories) no_keys

-- with these in its place
abbrev pub set_memory : List (ℕ × Memories) → ℕ → Memories → List (ℕ × Memories)
set_memory memories p m = set_value (is_at (nat_cmp p)) memories m

-- no place is lost
abbrev pub KeepsPlaces : List (ℕ × Memories) → List (ℕ × Memories) → Type 0
KeepsPlaces had has = (p : ℕ) → is_there had p ≡ true → is_there has p ≡ true

-- an access point that accepted an association, or to which there is a fast transition, has a place
-- among the memories
abbrev pub HasPlace : ℕ → Association → List (ℕ × Memories) → Type 0
HasPlace ap (Requested snonce) memories = Unit {0}
HasPlace ap (Accepted s) memories = is_there memories ap ≡ true
HasPlace ap (Moving o) memories = is_there memories ap ≡ true

abbrev pub HasPlaceTried : Option Attempt → List (ℕ × Memories) → Type 0
HasPlaceTried None memories = Unit {0}
HasPlaceTried (Some a) memories = HasPlace a.ap a.association memories

abbrev pub HasPlaceHeld : Option Session → List (ℕ × Memories) → Type 0
HasPlaceHeld None memories = Unit {0}
HasPlaceHeld (Some x) memories = is_there memories x.ap ≡ true

-- attempt and session have a place among the group keys
pub record HavePlaces (a : Option Attempt) (x : Option Session) (memories : List (ℕ × Memories)) : Type 0 where
  pub tried : HasPlaceTried a memories
  pub held : HasPlaceHeld x memories
