-- Which histories the current IGTK of an access point in use stands for, and the GTK beside it.
use Rattle.std.proofs.Common.{◌≡◌, ◌∙◌, ℕ, suc, Bool, true, false, cond, List, [], ◌∷◌, Option, Some, refl, sym, ap}
use Rattle.std.specs.Prelude.{nat_lt}
use Rattle.std.specs.List.{AllByRecursion}
use Rattle.domain_base.specs.declared.names.Node.{Node}
use Rattle.domain_base.specs.declared.names.Peer.TheVariants.{One, All}
use Rattle.replay_window.specs.Numbers.{last_number}
use Rattle.ccmp_guard.specs.declared.guard.Role.{Role}
use Rattle.ccmp_guard.specs.Held.{Held}
use Rattle.ccmp_guard.specs.Roles.{key_id}
use Rattle.run_journal.specs.declared.domain.Domain.{Domain}
use Rattle.run_journal.specs.declared.acts.GroupKind.{GroupKind}
use Rattle.run_journal.specs.declared.acts.GroupKind.TheVariants as groups
use Rattle.run_journal.specs.declared.acts.Act.{Act}
use Rattle.run_journal.specs.declared.acts.Act.TheVariants.{Used}
use Rattle.run_journal.specs.GroupKinds.{kind_of_id, is_of_kind}
use Rattle.run_journal.specs.Questions.{group_uses, switches, add}
use Rattle.domain_rules.specs.PacketNumbers.{SendKey, current, group_send_key}
use Rattle.domain_rules.specs.ManagementFrames.{sent_action, announced_acts}
use Rattle.domain_rules.specs.DataFrames.{sent_data}
use Rattle.domain_rules.specs.DataRows.{used_acts}
use Rattle.domain_rules.proofs.GroupKinds.{of_kind, kind_of_current}
use Rattle.data_frames.specs.Announcing.{with_used, announced_once}
use Rattle.data_frames.specs.Holding.{HoldsGroup, HoldsIntegrity, LeavesIntegrity}
use Rattle.data_frames.specs.Sending.{send_key_of}
use Rattle.data_frames.proofs.Announced.{send_key}

-- the key id of the current group key of a kind is one of that kind
id_of : (k : SendKey) (h : List Act) → HoldsIntegrity k h → kind_of_id k.id ≡ Some groups.Igtk
id_of k h s = kind_of_current groups.Igtk (switches groups.Igtk h) (record { key = k.key; id = k.id }) s.current_is

-- a packet number that was used to all under a key id of one kind, counted for each kind
uses_by : (kind : GroupKind) (id : ℕ) (b : Bool) (h : List Act) → is_of_kind kind (kind_of_id id) ≡ b → cond (is_of_kind kind (kind_of_id id)) (suc (group_uses kind h)) (group_uses kind h) ≡ cond b (suc (group_uses kind h)) (group_uses kind h)
uses_by kind id b h is = ap (λ (c : Bool). cond c (suc (group_uses kind h)) (group_uses kind h)) is

-- ---- as the history grows

pub integrity_numbered : (k : SendKey) (key : List ℕ) (id number : ℕ) (plain : List ℕ) (h : List Act) → k.id ≡ id → HoldsIntegrity k h → HoldsIntegrity (with_used k) (Used All key id number plain ∷ h)
integrity_numbered k key id number plain h is s =
    let own_id : kind_of_id id ≡ Some groups.Igtk = ap kind_of_id (sym is) ∙ id_of k h s in
    record {
      current_is = s.current_is;
      used = ap suc s.used ∙ sym (uses_by groups.Igtk id true h (of_kind groups.Igtk id own_id));
    }

integrity_other : (k : SendKey) (e : Act) (h : List Act) → HoldsIntegrity k h → LeavesIntegrity e → HoldsIntegrity k (e ∷ h)
integrity_other k e h s l = record {
  current_is = rw l.made s.current_is;
  used = s.used ∙ sym (rw (l.made, l.used) refl);
}

pub integrity_others : (k : SendKey) (g h : List Act) → HoldsIntegrity k h → AllByRecursion LeavesIntegrity g → HoldsIntegrity k (add g h)
integrity_others k [] h s l = s
integrity_others k (e ∷ g) h s l = integrity_others k g (e ∷ h) (integrity_other k e h s l.0) l.1

-- the access point announces under it
pub integrity_announces : (k : SendKey) (h : List Act) → HoldsIntegrity k h → group_send_key groups.Igtk h (current groups.Igtk h) ≡ Some k
integrity_announces k h s = ap (group_send_key groups.Igtk h) s.current_is ∙ ap (λ (n : ℕ). Some (send_key k.key k.id n)) (sym s.used)

-- ---- an announcement

integrity_next : (k : SendKey) (d : Domain) (n : Node) (content : List ℕ) (h : List Act) → HoldsIntegrity k h
    → HoldsIntegrity (with_used k) (sent_action d n k.key k.id (suc k.used) content ∷ Used All k.key k.id (suc k.used) content ∷ h)
integrity_next k d n content h s =
    let t = integrity_numbered k k.key k.id (suc k.used) content h refl s in
    record { current_is = t.current_is; used = t.used }

pub integrity_announced : (k : SendKey) (d : Domain) (n : Node) (content : List ℕ) (h : List Act) → HoldsIntegrity k h → HoldsIntegrity (announced_once k) (add (announced_acts d n content k) h)
integrity_announced k d n content h s = by (nat_lt k.used last_number) refl
  where
    by : (b : Bool) → nat_lt k.used last_number ≡ b → HoldsIntegrity (announced_once k) (add (announced_acts d n content k) h)
    by true is = rw is (integrity_next k d n content h s)
    by false is = rw is (record { current_is = s.current_is; used = s.used })

-- beside it the current GTK stays as it was
group_beside : (k : Held) (i : SendKey) (d : Domain) (n : Node) (content : List ℕ) (h : List Act) → HoldsGroup k h → HoldsIntegrity i h
    → HoldsGroup k (sent_action d n i.key i.id (suc i.used) content ∷ Used All i.key i.id (suc i.used) content ∷ h)
group_beside k i d n content h s t = record {
  id = s.id;
  role = s.role;
  current_is = s.current_is;
  used = s.used ∙ sym (uses_by groups.Gtk i.id false h (ap (is_of_kind groups.Gtk) (id_of i h t)));
}

pub group_beside_announced : (k : Held) (i : SendKey) (d : Domain) (n : Node) (content : List ℕ) (h : List Act) → HoldsGroup k h → HoldsIntegrity i h → HoldsGroup k (add (announced_acts d n content i) h)
group_beside_announced k i d n content h s t = by (nat_lt i.used last_number) refl
  where
    by : (b : Bool) → nat_lt i.used last_number ≡ b → HoldsGroup k (add (announced_acts d n content i) h)
    by true is = rw is (group_beside k i d n content h s t)
    by false is = rw is (record { id = s.id; role = s.role; current_is = s.current_is; used = s.used })

-- ---- data beside it

integrity_beside : (i : SendKey) (k : Held) (d : Domain) (n : Node) (tid : Option ℕ) (plain : List ℕ) (h : List Act) → HoldsIntegrity i h → HoldsGroup k h
    → HoldsIntegrity i (sent_data d n All tid k.key (key_id k.role) (suc k.used) plain ∷ Used All k.key (key_id k.role) (suc k.used) plain ∷ h)
integrity_beside i k d n tid plain h t s =
    let current_id : kind_of_id s.id ≡ Some groups.Gtk = kind_of_current groups.Gtk (switches groups.Gtk h) (record { key = k.key; id = s.id }) s.current_is in
    let own_id : kind_of_id (key_id k.role) ≡ Some groups.Gtk = ap (λ (r : Role). kind_of_id (key_id r)) s.role ∙ current_id in
    record {
      current_is = t.current_is;
      used = t.used ∙ sym (uses_by groups.Igtk (key_id k.role) false h (ap (is_of_kind groups.Igtk) own_id));
    }

-- the IGTK stays as it was where data is sent to all
pub integrity_beside_group : (i : SendKey) (k : Held) (d : Domain) (n : Node) (tid : Option ℕ) (plain : List ℕ) (h : List Act) → HoldsIntegrity i h → HoldsGroup k h → HoldsIntegrity i (add (used_acts d n All tid plain (send_key_of k)) h)
integrity_beside_group i k d n tid plain h t s = by (nat_lt k.used last_number) refl
  where
    by : (b : Bool) → nat_lt k.used last_number ≡ b → HoldsIntegrity i (add (used_acts d n All tid plain (send_key_of k)) h)
    by true is = rw is (integrity_beside i k d n tid plain h t s)
    by false is = rw is (record { current_is = t.current_is; used = t.used })

-- and where it is sent to one station
pub integrity_beside_pairwise : (i : SendKey) (k : SendKey) (p : Node) (d : Domain) (n : Node) (tid : Option ℕ) (plain : List ℕ) (h : List Act) → HoldsIntegrity i h → HoldsIntegrity i (add (used_acts d n (One p) tid plain k) h)
integrity_beside_pairwise i k p d n tid plain h t = by (nat_lt k.used last_number) refl
  where
    by : (b : Bool) → nat_lt k.used last_number ≡ b → HoldsIntegrity i (add (used_acts d n (One p) tid plain k) h)
    by true is = rw is (record { current_is = t.current_is; used = t.used })
    by false is = rw is (record { current_is = t.current_is; used = t.used })
