-- Acts that keys in use stand for beside others.
use Rattle.std.proofs.Common.{◌≡◌, ◌∙◌, ℕ, suc, Bool, cond, List, [], ◌∷◌, Some, refl, sym, ap}
use Rattle.std.specs.List.{AllByRecursion}
use Rattle.domain_base.specs.declared.names.Node.{Node}
use Rattle.domain_base.specs.declared.names.Peer.TheVariants.{All}
use Rattle.ccmp_guard.specs.declared.guard.Role.{Role}
use Rattle.ccmp_guard.specs.declared.guard.Role.TheVariants as roles
use Rattle.ccmp_guard.specs.Held.{Held, with_next}
use Rattle.ccmp_guard.specs.Roles.{key_id}
use Rattle.run_journal.specs.declared.acts.GroupKind.TheVariants as groups
use Rattle.run_journal.specs.declared.acts.Act.{Act}
use Rattle.run_journal.specs.declared.acts.Act.TheVariants.{Used}
use Rattle.run_journal.specs.GroupKinds.{kind_of_id}
use Rattle.run_journal.specs.Questions.{group_uses, switches, add}
use Rattle.domain_rules.proofs.GroupKinds.{of_kind, kind_of_current}
use Rattle.data_frames.specs.Holding.{HoldsPairwise, HoldsGroup, LeavesPairwise, LeavesGroup}

other : (p : Node) (tk : List ℕ) (k : Held) (e : Act) (h : List Act) → HoldsPairwise p tk k h → LeavesPairwise p tk e → HoldsPairwise p tk k (e ∷ h)
other p tk k e h s l = record {
  role = s.role;
  key = s.key;
  used = s.used ∙ sym (l.used h);
  size = s.size;
  kept = λ tid low. s.kept tid low ∙ sym (l.got tid h);
}

pub others : (p : Node) (tk : List ℕ) (k : Held) (g h : List Act) → HoldsPairwise p tk k h → AllByRecursion (LeavesPairwise p tk) g → HoldsPairwise p tk k (add g h)
others p tk k [] h s l = s
others p tk k (e ∷ g) h s l = others p tk k g (e ∷ h) (other p tk k e h s l.0) l.1

group_other : (k : Held) (e : Act) (h : List Act) → HoldsGroup k h → LeavesGroup e → HoldsGroup k (e ∷ h)
group_other k e h s l = record {
  id = s.id;
  role = s.role;
  current_is = rw l.made s.current_is;
  used = s.used ∙ sym (rw (l.made, l.used) refl);
}

-- a packet number was used to all under its key id
pub group_numbered : (k : Held) (key : List ℕ) (id number : ℕ) (plain : List ℕ) (h : List Act) → k.role ≡ roles.Group id → HoldsGroup k h → HoldsGroup (with_next k) (Used All key id number plain ∷ h)
group_numbered k key id number plain h is s =
    let current_id : kind_of_id s.id ≡ Some groups.Gtk = kind_of_current groups.Gtk (switches groups.Gtk h) (record { key = k.key; id = s.id }) s.current_is in
    let own_id : kind_of_id id ≡ Some groups.Gtk = ap (λ (r : Role). kind_of_id (key_id r)) (sym is ∙ s.role) ∙ current_id in
    record {
      id = s.id;
      role = s.role;
      current_is = s.current_is;
      used = ap suc s.used ∙ sym (ap (λ (b : Bool). cond b (suc (group_uses groups.Gtk h)) (group_uses groups.Gtk h)) (of_kind groups.Gtk id own_id));
    }

pub group_others : (k : Held) (g h : List Act) → HoldsGroup k h → AllByRecursion LeavesGroup g → HoldsGroup k (add g h)
group_others k [] h s l = s
group_others k (e ∷ g) h s l = group_others k g (e ∷ h) (group_other k e h s l.0) l.1
