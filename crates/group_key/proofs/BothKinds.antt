-- The group keys of both kinds that a station keeps of one access point beside those that its history gave it.
use Rattle.std.proofs.Common.{◌≡◌, ℕ, ◌<◌, Bool, true, false, List, [], ◌∷◌, Some, None, refl, sym, subst}
use Rattle.std.specs.Prelude.{if◌then◌else◌}
use Rattle.domain_base.specs.declared.names.Node.{Node}
use Rattle.domain_base.specs.declared.names.Mac.{Mac}
use Rattle.run_journal.specs.declared.acts.GroupKind.{GroupKind}
use Rattle.run_journal.specs.declared.acts.GroupKind.TheVariants as groups
use Rattle.run_journal.specs.declared.acts.Act.{Act}
use Rattle.run_journal.specs.declared.acts.Act.TheVariants.{HandedUp}
use Rattle.run_journal.specs.Acts.{GroupKey, given_from}
use Rattle.domain_rules.specs.GroupKeys.{give, got_by}
use Rattle.domain_rules.specs.IntegrityKeys.{IsTold}
use Rattle.group_key.specs.Keys.{Kept, Memories, given, found, taken, is_integrity_id, kept_in, with_kept}
use Rattle.group_key.specs.Holds.{Remembers, RemembersAll}
use Rattle.group_key.proofs.Counting.{got_stays, started, gives, takes, stands, gives_beside, hands_beside}

-- ---- acts that give nothing and change no counter

-- of one kind
pub keeps : (kind : GroupKind) (p : Node) (e : Act) (ks : List Kept) (h : List Act) → Remembers kind p ks h → given_from kind p e ≡ None → ((key : List ℕ) (id heard n : ℕ) → got_by kind p key id e heard n ≡ n) → Remembers kind p ks (e ∷ h)
keeps kind p e ks h r none same = stands kind p e ks h r none (λ key id n of is. got_stays kind p key id e h n (λ heard. same key id heard n) is)

-- and of both
pub all_keep : (p : Node) (e : Act) (m : Memories) (h : List Act) → RemembersAll p m h → ((kind : GroupKind) → given_from kind p e ≡ None) → ((kind : GroupKind) (key : List ℕ) (id heard n : ℕ) → got_by kind p key id e heard n ≡ n) → RemembersAll p m (e ∷ h)
all_keep p e m h r none same = record {
  gtks = keeps groups.Gtk p e m.gtks h r.gtks (none groups.Gtk) (same groups.Gtk);
  igtks = keeps groups.Igtk p e m.igtks h r.igtks (none groups.Igtk) (same groups.Igtk);
}

pub all_empty : (p : Node) → RemembersAll p (record { gtks = []; igtks = [] }) []
all_empty p = record { gtks = started groups.Gtk p; igtks = started groups.Igtk p }

-- ---- a key is given

-- by whether its key id is one of IGTKs
abbrev given_by : Bool → GroupKey → ℕ → Memories → Memories
given_by b g rsc m =
    let ks : List Kept = given g.key g.id rsc (if b then m.igtks else m.gtks) in
    if b then record m { igtks = ks } else record m { gtks = ks }

pub gtk_given : (p : Node) (b : Mac) (g : GroupKey) (rsc : ℕ) (m : Memories) (h : List Act) → RemembersAll p m h → IsTold groups.Gtk p h rsc → is_integrity_id g.id ≡ false
    → RemembersAll p (with_kept g.id (given g.key g.id rsc (kept_in g.id m)) m) (give groups.Gtk p b g h ∷ h)
gtk_given p b g rsc m h r tells is =
    let after : RemembersAll p (given_by false g rsc m) (give groups.Gtk p b g h ∷ h) = record { gtks = gives groups.Gtk p b g rsc m.gtks h r.gtks tells is; igtks = gives_beside groups.Igtk groups.Gtk p p b g m.igtks h h refl r.igtks } in
    subst (λ (x : Bool). RemembersAll p (given_by x g rsc m) (give groups.Gtk p b g h ∷ h)) (sym is) after

pub igtk_given : (p : Node) (b : Mac) (g : GroupKey) (ipn : ℕ) (m : Memories) (h : List Act) → RemembersAll p m h → IsTold groups.Igtk p h ipn → is_integrity_id g.id ≡ true
    → RemembersAll p (with_kept g.id (given g.key g.id ipn (kept_in g.id m)) m) (give groups.Igtk p b g h ∷ h)
igtk_given p b g ipn m h r tells is =
    let after : RemembersAll p (given_by true g ipn m) (give groups.Igtk p b g h ∷ h) = record { gtks = gives_beside groups.Gtk groups.Igtk p p b g m.gtks h h refl r.gtks; igtks = gives groups.Igtk p b g ipn m.igtks h r.igtks tells is } in
    subst (λ (x : Bool). RemembersAll p (given_by x g ipn m) (give groups.Igtk p b g h ∷ h)) (sym is) after

-- ---- a number is taken

abbrev taken_by : Bool → ℕ → ℕ → Memories → Memories
taken_by b id number m =
    let ks : List Kept = taken id number (if b then m.igtks else m.gtks) in
    if b then record m { igtks = ks } else record m { gtks = ks }

by_kind : (b : Bool) (p : Node) (id tid number : ℕ) (octets : List ℕ) (k : Kept) (m : Memories) (h : List Act) → is_integrity_id id ≡ b → RemembersAll p m h → found id (if b then m.igtks else m.gtks) ≡ Some k → k.counter < number
    → RemembersAll p (taken_by b id number m) (HandedUp p k.key id tid number octets ∷ h)
by_kind false p id tid number octets k m h of r is low = record {
  gtks = takes groups.Gtk p id tid number octets k m.gtks h r.gtks is low;
  igtks = hands_beside groups.Igtk groups.Gtk p p k.key id tid number octets m.igtks h refl of r.igtks;
}
by_kind true p id tid number octets k m h of r is low = record {
  gtks = hands_beside groups.Gtk groups.Igtk p p k.key id tid number octets m.gtks h refl of r.gtks;
  igtks = takes groups.Igtk p id tid number octets k m.igtks h r.igtks is low;
}

pub all_taken : (p : Node) (id tid number : ℕ) (octets : List ℕ) (k : Kept) (m : Memories) (h : List Act) → RemembersAll p m h → found id (kept_in id m) ≡ Some k → k.counter < number
    → RemembersAll p (with_kept id (taken id number (kept_in id m)) m) (HandedUp p k.key id tid number octets ∷ h)
all_taken p id tid number octets k m h r is low = by_kind (is_integrity_id id) p id tid number octets k m h refl r is low
