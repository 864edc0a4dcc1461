-- Of two group keys of one kind with one key id the last one is tried, and without a session none.
use Rattle.std.proofs.Common.{◌≡◌, ℕ, Bool, true, List, ◌∷◌, take, Some, None, refl, ap, ◌∙◌}
use Rattle.std.proofs.lemmas.Bool.{eq-eqb}
use Rattle.domain_base.specs.declared.names.Node.{Node}
use Rattle.bip_guard.specs.Bip.{key_id_in}
use Rattle.run_journal.specs.declared.acts.Act.{Act}
use Rattle.run_journal.specs.declared.acts.GroupKind.TheVariants as groups
use Rattle.run_journal.specs.Acts.{GroupKey, Derivation}
use Rattle.run_journal.specs.Questions.{session, given}
use Rattle.domain_rules.specs.ManagementFrames.{integrity_key_by, integrity_key}
use Rattle.domain_rules.specs.PacketNumbers.{find_id, group_open_key_by, open_key_by, open_key}

-- it stands first among those that are remembered
last_found : (id : ℕ) (g : GroupKey) (older : List GroupKey) → id ≡ g.id → find_id id (take 2 (g ∷ older)) ≡ Some g
last_found id g older is = rw (eq-eqb id g.id is) refl

pub last_for_data : (p : Node) (h : List Act) (x : Derivation) (g : GroupKey) (older : List GroupKey) (tid : ℕ) → session p h ≡ Some x → given groups.Gtk p h ≡ g ∷ older → open_key p h true tid g.id ≡ group_open_key_by p h (Some g)
last_for_data p h x g older tid has is =
    ap (open_key_by p h true tid g.id) has ∙ ap (λ (keys : List GroupKey). group_open_key_by p h (find_id g.id (take 2 keys))) is
    ∙ ap (group_open_key_by p h) (last_found g.id g older refl)

pub last_for_actions : (p : Node) (h : List Act) (x : Derivation) (g : GroupKey) (older : List GroupKey) (body : List ℕ) → session p h ≡ Some x → given groups.Igtk p h ≡ g ∷ older → key_id_in body ≡ g.id → integrity_key p h body ≡ Some g
last_for_actions p h x g older body has is id =
    ap (integrity_key_by p h (key_id_in body)) has ∙ ap (λ (keys : List GroupKey). find_id (key_id_in body) (take 2 keys)) is
    ∙ last_found (key_id_in body) g older id

pub none_without : (p : Node) (h : List Act) (to_group : Bool) (tid id : ℕ) (body : List ℕ) → session p h ≡ None → (open_key p h to_group tid id ≡ None) × (integrity_key p h body ≡ None)
none_without p h to_group tid id body none = (ap (open_key_by p h to_group tid id) none, ap (integrity_key_by p h (key_id_in body)) none)
