-- What contracts see of group keys (profile).
use Rattle.std.specs.Prelude.{◌≡◌, ◌⊎◌, ℕ, suc, ◌==◌, max, Bool, ◌||◌, true, false, cond, List, [], ◌∷◌, take, Option, None, Some, option_map, bytes_eq, if◌then◌else◌}
use Rattle.domain_base.specs.declared.names.Node.{Node}
use Rattle.run_journal.specs.declared.domain.Domain.{Domain}
use Rattle.run_journal.specs.declared.acts.GroupKind.{GroupKind}
use Rattle.run_journal.specs.declared.acts.GroupKind.TheVariants as groups
use Rattle.domain_rules.specs.Network.{gtk}
use Rattle.domain_rules.specs.GroupKeys.{key_id}
use Rattle.group_key.specs.declared.keys.GroupKey.{GroupKey}
use Rattle.group_key.specs.declared.keys.Pair.{Pair}

-- the group key of an access point of that number in the order of drawing of its kind: the key ids of GTKs are 1, 2, 1, 2,.., those of IGTKs
-- 4, 5, 4, 5,..
abbrev pub placed : GroupKind → ℕ → List ℕ → GroupKey
placed kind place key = record { place = place; id = key_id kind place; key = key }

-- the first key of a kind, drawn and in use (IEEE Std 802.11-2020, 12.7.7, profile)
abbrev pub started : GroupKind → List ℕ → Pair
started kind key = record { current = placed kind 0 key; newest = placed kind 0 key }

-- one more was drawn, and is not in use yet
abbrev pub drawn : GroupKind → List ℕ → Pair → Pair
drawn kind key s = record { current = s.current; newest = placed kind (suc s.newest.place) key }

-- one more IGTK was drawn, where there are IGTKs
abbrev pub drawn_beside : Option (List ℕ) → Option Pair → Option Pair
drawn_beside key None = None
drawn_beside None (Some s) = Some s
drawn_beside (Some key) (Some s) = Some (drawn groups.Igtk key s)

-- the one drawn last is in use
abbrev pub switched : Pair → Pair
switched s = record { current = s.newest; newest = s.newest }

-- the group keys of an access point: the GTKs, and the IGTKs where management frames are protected (IEEE Std
-- 802.11-2020, 12.7.7, profile)
pub record Pairs : Type 0 where
  pub gtk : Pair
  pub igtk : Option Pair

-- the first keys of both kinds, one more of each, and the newest of both in use
abbrev pub started_all : List ℕ → Option (List ℕ) → Pairs
started_all key igtk = record { gtk = started groups.Gtk key; igtk = option_map (started groups.Igtk) igtk }

abbrev pub drawn_all : List ℕ → Option (List ℕ) → Pairs → Pairs
drawn_all key igtk s = record { gtk = drawn groups.Gtk key s.gtk; igtk = drawn_beside igtk s.igtk }

abbrev pub switched_all : Pairs → Pairs
switched_all s = record { gtk = switched s.gtk; igtk = option_map switched s.igtk }

-- the IGTK that is drawn under that number, where management frames are protected (profile)
abbrev pub igtk_drawn : Bool → Domain → Node → ℕ → Option (List ℕ)
igtk_drawn false d n number = None
igtk_drawn true d n number = Some (gtk d n number)

-- the key drawn last is in use, or it is the one drawn right after the key in use
abbrev pub IsInTurn : Pair → Type 0
IsInTurn s = (s.newest.place ≡ s.current.place) ⊎ (s.newest.place ≡ suc s.current.place)

-- the IGTKs have the places of the GTKs: both are drawn, and come into use, together (profile)
abbrev pub AreBeside : Pair → Option Pair → Type 0
AreBeside s None = Unit {0}
AreBeside s (Some t) = (t.newest.place ≡ s.newest.place) × (t.current.place ≡ s.current.place)

-- a group key that a station keeps: its octets, the key id that it was installed with, and its receive counter
pub record Kept : Type 0 where
  pub key : List ℕ
  pub id : ℕ
  pub counter : ℕ

-- a key in memory has these octets
abbrev pub has_key : List ℕ → List Kept → Bool
has_key key [] = false
has_key key (k ∷ ks) = bytes_eq key k.key || has_key key ks

-- the key id that the key with these octets was installed with, where it is kept
abbrev pub kept_id : List ℕ → List Kept → Option ℕ
kept_id key [] = None
kept_id key (k ∷ ks) = cond (bytes_eq key k.key) (Some k.id) (kept_id key ks)

-- the receive counter of the key with these octets, where it is kept
abbrev pub kept_counter : List ℕ → List Kept → Option ℕ
kept_counter key [] = None
kept_counter key (k ∷ ks) = cond (bytes_eq key k.key) (Some k.counter) (kept_counter key ks)

-- the counter of the first key with these octets is no less than this (IEEE Std 802.11-2020, 12.7.7, profile)
abbrev pub raised : List ℕ → ℕ → List Kept → List Kept
raised key rsc [] = []
raised key rsc (k ∷ ks) = cond (bytes_eq key k.key) (record { key = k.key; id = k.id; counter = max rsc k.counter } ∷ ks) (k ∷ raised key rsc ks)

-- the memory, the later key first, after a key was given with an RSC: a key that is kept stays in its place, under its
-- key id, and a new one comes in front of at most one other (IEEE Std 802.11-2020, 12.7.7, profile)
abbrev pub given : List ℕ → ℕ → ℕ → List Kept → List Kept
given key id rsc ks = cond (has_key key ks) (raised key rsc ks) (take 2 (record { key = key; id = id; counter = rsc } ∷ ks))

-- the later of the keys with that id
abbrev pub found : ℕ → List Kept → Option Kept
found id [] = None
found id (k ∷ ks) = cond (k.id == id) (Some k) (found id ks)

-- the keys kept, with the counter of one put to a number (IEEE Std 802.11-2020, 12.7.7, profile)
abbrev pub taken : ℕ → ℕ → List Kept → List Kept
taken id number [] = []
taken id number (k ∷ ks) = cond (k.id == id) (record { key = k.key; id = k.id; counter = number } ∷ ks) (k ∷ taken id number ks)

-- the group keys that a station keeps of one access point, those of each kind apart (IEEE Std 802.11-2020, 12.7.7, profile)
pub record Memories : Type 0 where
  pub gtks : List Kept
  pub igtks : List Kept

-- a key id is one of IGTKs (IEEE Std 802.11-2020, 12.7.2)
abbrev pub is_integrity_id : ℕ → Bool
is_integrity_id id = (id == 4) || (id == 5)

-- the keys of the kind that has that key id
abbrev pub kept_in : ℕ → Memories → List Kept
kept_in id m = if is_integrity_id id then m.igtks else m.gtks

-- with these in their place
abbrev pub with_kept : ℕ → List Kept → Memories → Memories
with_kept id ks m = if is_integrity_id id then record m { igtks = ks } else record m { gtks = ks }
