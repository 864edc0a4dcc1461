-- Which histories group keys stand for (profile).
use Rattle.std.specs.Prelude.{◌≡◌, ◌⊎◌, ℕ, Bool, true, false, List, [], ◌∷◌, length, map, Option, None, Some}
use Rattle.std.specs.List.{AllByRecursion}
use Rattle.domain_base.specs.declared.names.Node.{Node}
use Rattle.run_journal.specs.declared.acts.Act.{Act}
use Rattle.eapol_key.specs.declared.messages.Message.{Message}
use Rattle.eapol_key.specs.declared.messages.Message.TheVariants.{M3, G1}
use Rattle.run_journal.specs.Acts.{GroupKey as Carried, key_drawn, switched}
use Rattle.group_key.specs.declared.keys.GroupKey.{GroupKey}
use Rattle.run_journal.specs.Questions.{group_keys, switches}
use Rattle.domain_rules.specs.GroupKeys.{memory}
use Rattle.domain_rules.specs.IntegrityKeys.{IsGot}
use Rattle.run_journal.specs.declared.acts.GroupKind.{GroupKind}
use Rattle.run_journal.specs.declared.acts.GroupKind.TheVariants as groups
use Rattle.group_key.specs.declared.keys.Pair.{Pair}
use Rattle.group_key.specs.Keys.{Pairs, Kept, Memories, has_key, placed, AreBeside, is_integrity_id}

-- of the group keys drawn, the last first, this is the last
pub record IsLast (kind : GroupKind) (k : GroupKey) (keys : List (List ℕ)) : Type 0 where
  pub older : List (List ℕ)
  pub are : keys ≡ k.key ∷ older
  pub is : k ≡ placed kind (length older) k.key

-- at an access point: the newest is the one drawn last, the current the one made current last
pub record Holds (kind : GroupKind) (s : Pair) (h : List Act) : Type 0 where
  pub newest : IsLast kind s.newest (group_keys kind h)
  pub current : IsLast kind s.current (switches kind h)

-- and of the IGTKs, where there are IGTKs
abbrev pub HoldsIgtk : Bool → Option Pair → List Act → Type 0
HoldsIgtk false None h = Unit {0}
HoldsIgtk false (Some s) h = ⊥
HoldsIgtk true None h = ⊥
HoldsIgtk true (Some s) h = Holds groups.Igtk s h

-- of both kinds, of an access point that protects management frames or not
pub record HoldsAll (protected : Bool) (s : Pairs) (h : List Act) : Type 0 where
  pub gtk : Holds groups.Gtk s.gtk h
  pub igtk : HoldsIgtk protected s.igtk h
  pub beside : AreBeside s.gtk s.igtk

-- an act that neither draws a group key nor makes one current
pub record LeavesGroupKeys (kind : GroupKind) (e : Act) : Type 0 where
  pub drawn : key_drawn kind e ≡ None
  pub made : switched kind e ≡ None

-- a group key of an access point as frames carry it
abbrev pub carried : GroupKey → Carried
carried k = record { key = k.key; id = k.id }

-- the EAPOL-Key messages that carry one, with an RSC (IEEE Std 802.11-2020, 12.7.6.4, 12.7.7.2)
abbrev pub CarriesGroupKey : Message → Type 0
CarriesGroupKey m = (m ≡ M3) ⊎ (m ≡ G1)

-- a key under a key id
abbrev pub under : List ℕ → ℕ → Carried
under key id = record { key = key; id = id }

-- a group key that a station keeps, without its counter
abbrev pub key_of : Kept → Carried
key_of k = record { key = k.key; id = k.id }

-- no two of the keys have the same octets
abbrev pub AreApart : List Kept → Type 0
AreApart [] = Unit {0}
AreApart (k ∷ ks) = (has_key k.key ks ≡ false) × AreApart ks

-- the keys of that kind are IGTKs
abbrev pub is_integrity : GroupKind → Bool
is_integrity groups.Gtk = false
is_integrity groups.Igtk = true

-- the key ids of the keys are those of that kind
abbrev pub AreOfKind : GroupKind → List Kept → Type 0
AreOfKind kind ks = AllByRecursion (λ (k : Kept). is_integrity_id k.id ≡ is_integrity kind) ks

-- at a station: the last two group keys of a kind installed from access point p, each with the key id that it was installed with and the
-- receive counter that the history puts it to
pub record Remembers (kind : GroupKind) (p : Node) (ks : List Kept) (h : List Act) : Type 0 where
  pub keys : map key_of ks ≡ memory kind p h
  pub counters : AllByRecursion (λ (k : Kept). IsGot kind p k.key k.id h k.counter) ks
  pub apart : AreApart ks
  pub ids : AreOfKind kind ks

-- and of both kinds
pub record RemembersAll (p : Node) (m : Memories) (h : List Act) : Type 0 where
  pub gtks : Remembers groups.Gtk p m.gtks h
  pub igtks : Remembers groups.Igtk p m.igtks h
