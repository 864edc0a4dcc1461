-- Which histories the temporal keys in use at a node stand for (profile).
use Rattle.std.specs.Prelude.{◌≡◌, ◌<◌, ℕ, List, [], ◌∷◌, length, replicate, slice_index, Option, Some, None, false}
use Rattle.domain_base.specs.declared.names.Node.{Node}
use Rattle.ccmp_guard.specs.declared.guard.Role.TheVariants.{Pairwise, Group}
use Rattle.ccmp_guard.specs.Held.{Held}
use Rattle.run_journal.specs.declared.acts.GroupKind.TheVariants as groups
use Rattle.run_journal.specs.declared.acts.Act.{Act}
use Rattle.run_journal.specs.Acts.{switched, uses_all}
use Rattle.run_journal.specs.Questions.{pairwise_uses, group_uses}
use Rattle.domain_rules.specs.PacketNumbers.{pairwise_got, SendKey, current}

-- the key that a guard holds
abbrev pub held_in : Option Held → Held
held_in (Some k) = k
held_in None = record { role = Pairwise; key = []; used = 0; kept = [] }

-- a pairwise key as it is installed (IEEE Std 802.11-2020, 12.5.3, profile)
abbrev pub fresh_key : List ℕ → Held
fresh_key tk = record { role = Pairwise; key = tk; used = 0; kept = replicate 16 0 }

-- the key in use after a message: the one that was installed, or the one before
abbrev pub key_after : Held → Option (List ℕ) → Held
key_after k None = k
key_after k (Some tk) = fresh_key tk

-- a group key that a station keeps, with its receive counter
abbrev pub kept_key : List ℕ → ℕ → ℕ → Held
kept_key key id counter = record { role = Group id; key = key; used = 0; kept = replicate 16 counter }

-- the pairwise key with p: as many packet numbers were used under it as the history says, and of each TID the kept
-- number is that of the history (IEEE Std 802.11-2020, 12.5.3, profile)
pub record HoldsPairwise (p : Node) (tk : List ℕ) (k : Held) (h : List Act) : Type 0 where
  pub role : k.role ≡ Pairwise
  pub key : k.key ≡ tk
  pub used : k.used ≡ pairwise_uses p h
  pub size : length k.kept ≡ 16
  pub kept : (tid : ℕ) → tid < 16 → slice_index k.kept tid ≡ pairwise_got p tk tid h

-- the current group key of an access point: as many packet numbers were used under it as the history says (IEEE Std
-- 802.11-2020, 12.5.3, profile)
pub record HoldsGroup (k : Held) (h : List Act) : Type 0 where
  pub id : ℕ
  pub role : k.role ≡ Group id
  pub current_is : current groups.Gtk h ≡ Some (record { key = k.key; id = id })
  pub used : k.used ≡ group_uses groups.Gtk h

-- an act that neither installs a pairwise key with p, nor uses a packet number with p, nor hands up what p sent (IEEE
-- Std 802.11-2020, 12.5.3, profile)
pub record LeavesPairwise (p : Node) (tk : List ℕ) (e : Act) : Type 0 where
  pub used : (h : List Act) → pairwise_uses p (e ∷ h) ≡ pairwise_uses p h
  pub got : (tid : ℕ) (h : List Act) → pairwise_got p tk tid (e ∷ h) ≡ pairwise_got p tk tid h

-- an act that neither makes a group key current nor uses a packet number under it (IEEE Std 802.11-2020, 12.5.3,
-- profile)
pub record LeavesGroup (e : Act) : Type 0 where
  pub made : switched groups.Gtk e ≡ None
  pub used : uses_all groups.Gtk e ≡ false

-- the current IGTK of an access point: as many packet numbers were used under it as the history says (IEEE Std
-- 802.11-2020, 12.5.4.4, profile)
pub record HoldsIntegrity (k : SendKey) (h : List Act) : Type 0 where
  pub current_is : current groups.Igtk h ≡ Some (record { key = k.key; id = k.id })
  pub used : k.used ≡ group_uses groups.Igtk h

-- an act that neither makes an IGTK current nor uses a packet number under it (IEEE Std 802.11-2020, 12.5.4.4, profile)
pub record LeavesIntegrity (e : Act) : Type 0 where
  pub made : switched groups.Igtk e ≡ None
  pub used : uses_all groups.Igtk e ≡ false
