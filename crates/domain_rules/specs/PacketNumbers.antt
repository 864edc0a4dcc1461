-- The packet numbers of temporal keys: what a node sends under, and what it opens a frame under. A node counts the
-- numbers that it used since it installed the key. The receive counter of a GTK begins at the RSC that came with
-- the key, and of a pairwise key at 0 for each TID. Only what is handed up moves one: the law
-- `refusals_move_no_counter` says that a refused frame does not. Which of two group keys with one key id decides is
-- this project's choice (IEEE Std 802.11-2020, 12.5.3.4.4, profile).
use Rattle.std.specs.Prelude.{ℕ, ◌==◌, max, Bool, true, false, ◌&&◌, cond, List, [], ◌∷◌, length, Option, Some, None, bytes_eq, if◌then◌else◌}
use Rattle.domain_base.specs.declared.names.Node.{Node}
use Rattle.domain_base.specs.declared.names.Peer.{Peer}
use Rattle.domain_base.specs.declared.names.Peer.TheVariants.{One, All}
use Rattle.run_journal.specs.declared.acts.GroupKind.{GroupKind}
use Rattle.run_journal.specs.declared.acts.GroupKind.TheVariants as groups
use Rattle.run_journal.specs.declared.acts.Key.TheVariants.{Pairwise}
use Rattle.run_journal.specs.declared.acts.Act.{Act}
use Rattle.run_journal.specs.declared.acts.Act.TheVariants.{Installed, HandedUp}
use Rattle.run_journal.specs.Acts.{same, GroupKey, Derivation}
use Rattle.run_journal.specs.Questions.{session, switches, pairwise_uses, group_uses}
use Rattle.domain_rules.specs.GroupKeys.{key_id, memory, is_key, got}

-- an act with p puts the counter of a pairwise key for a TID: an installation to 0, and a payload that was handed up to
-- its packet number (12.5.3.4.4)
abbrev pub pairwise_got_by : Node → List ℕ → ℕ → Act → ℕ → ℕ
pairwise_got_by p key tid (Installed (One q) (Pairwise k i)) before = cond (same p q && bytes_eq key k) 0 before
pairwise_got_by p key tid (HandedUp q k i t number octets) before = cond (is_key p key 0 q k i && (tid == t)) (max number before) before
pairwise_got_by p key tid _ before = before

-- the receive counter of a pairwise key with p for a TID: the greatest packet number that was handed up since its
-- installation (12.5.3.4.4)
abbrev pub pairwise_got : Node → List ℕ → ℕ → List Act → ℕ
pairwise_got p key tid [] = 0
pairwise_got p key tid (e ∷ h) = pairwise_got_by p key tid e (pairwise_got p key tid h)

-- the first of these keys with its key id, where there is one (profile)
abbrev pub current_of : GroupKind → List (List ℕ) → Option GroupKey
current_of kind [] = None
current_of kind (key ∷ older) = Some (record { key = key; id = key_id kind (length older) })

-- the group key of that kind that an access point made current last, with the key id of its place in the order of
-- drawing (profile)
abbrev pub current : GroupKind → List Act → Option GroupKey
current kind h = current_of kind (switches kind h)

-- a temporal key with its key id, and how many packet numbers the node used under it (12.5.3.2, 12.7.1.4)
pub record SendKey : Type 0 where
  pub key : List ℕ
  pub id : ℕ
  pub used : ℕ

-- the temporal key of the session, with key id 0 (12.5.3.2, 12.7.1.4)
abbrev pub pairwise_send_key : Node → List Act → Option Derivation → Option SendKey
pairwise_send_key p h None = None
pairwise_send_key p h (Some x) = Some (record { key = x.ptk.tk; id = 0; used = pairwise_uses p h })

-- the current group key of that kind of an access point (12.5.3.2, 12.7.1.4)
abbrev pub group_send_key : GroupKind → List Act → Option GroupKey → Option SendKey
group_send_key kind h None = None
group_send_key kind h (Some g) = Some (record { key = g.key; id = g.id; used = group_uses kind h })

-- what a node sends data under: to a peer the temporal key of its session with it, with key id 0; to all an access point's
-- current GTK (12.5.3.2, 12.7.1.4)
abbrev pub send_key : List Act → Peer → Option SendKey
send_key h (One p) = pairwise_send_key p h (session p h)
send_key h All = group_send_key groups.Gtk h (current groups.Gtk h)

-- a temporal key with its key id, the TID of the counter that a frame is held against, which is 0 for a group key, and that counter
pub record OpenKey : Type 0 where
  pub key : List ℕ
  pub id : ℕ
  pub tid : ℕ
  pub kept : ℕ

-- a frame for the node alone is under the pairwise key, with key id 0 and a counter for each TID
abbrev pub pairwise_open_key : Node → List Act → ℕ → ℕ → List ℕ → Option OpenKey
pairwise_open_key p h tid id key =
    if id == 0 then Some (record { key = key; id = 0; tid = tid; kept = pairwise_got p key tid h }) else None

-- the first of these keys with that key id (profile)
abbrev pub find_id : ℕ → List GroupKey → Option GroupKey
find_id id [] = None
find_id id (g ∷ gs) = cond (id == g.id) (Some g) (find_id id gs)

-- the group key that was found, with its one receive counter
abbrev pub group_open_key_by : Node → List Act → Option GroupKey → Option OpenKey
group_open_key_by p h None = None
group_open_key_by p h (Some g) = Some (record { key = g.key; id = g.id; tid = 0; kept = got p g.key g.id h })

-- a frame for a group is under the later of the two remembered group keys with that key id, which has one counter
abbrev pub group_open_key : Node → List Act → ℕ → Option OpenKey
group_open_key p h id = group_open_key_by p h (find_id id (memory groups.Gtk p h))

-- nothing opens a frame without a session
abbrev pub open_key_by : Node → List Act → Bool → ℕ → ℕ → Option Derivation → Option OpenKey
open_key_by p h to_group tid id None = None
open_key_by p h true tid id (Some x) = group_open_key p h id
open_key_by p h false tid id (Some x) = pairwise_open_key p h tid id x.ptk.tk

-- what a frame from p is opened under, by whether it is for a group, its TID and its key id: nothing without a session with p, also
-- where a group key of p is remembered
abbrev pub open_key : Node → List Act → Bool → ℕ → ℕ → Option OpenKey
open_key p h to_group tid id = open_key_by p h to_group tid id (session p h)
