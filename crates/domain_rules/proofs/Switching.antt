-- Where no new group key was drawn after the first, the switch adds nothing.
use Rattle.std.proofs.Common.{ℕ, ◌≡◌, Bool, true, false, cond, List, [], ◌∷◌, ◌++◌, length, Option, Some, None, is_some, refl, sym, ap, ◌∙◌}
use Rattle.std.specs.Prelude.{◌||◌}
use Rattle.std.specs.List.{AllByRecursion}
use Rattle.std.proofs.lemmas.List.{append-nil}
use Rattle.domain_base.specs.declared.names.Node.{Node}
use Rattle.domain_base.specs.declared.names.Node.TheVariants.{Ap, Sta}
use Rattle.eapol_key.specs.declared.messages.Message.TheVariants.{G1}
use Rattle.run_journal.specs.declared.acts.GroupKind.TheVariants as groups
use Rattle.run_journal.specs.declared.domain.Domain.{Domain}
use Rattle.run_journal.specs.declared.acts.Kind.TheVariants as kind
use Rattle.run_journal.specs.declared.acts.Act.{Act}
use Rattle.run_journal.specs.Acts.{key_drawn, switched, finishes, sent}
use Rattle.run_journal.specs.Questions.{listed, all_sent, handshake, add}
use Rattle.domain_rules.specs.GroupKeys.{is_current}
use Rattle.domain_rules.specs.Owing.{owing, any_owes, switch_acts, and_switch}
use Rattle.domain_rules.specs.Rows.{NodeEvent, RowOf, Adds}
use Rattle.domain_rules.specs.Here.{here}

-- ---- at a station the acts of the event are all

pub station_adds : (d : Domain) (first s : ℕ) (h : List Act) (event : NodeEvent) (g : List Act) → RowOf (here d first (Sta s)) h event g → Adds (here d first (Sta s)) h event g
station_adds d first s h event g row = record { acts = g; row = row; is = refl }

-- ---- at an access point whose newest group key is current

switch_none_by : (d : Domain) (a : ℕ) (h : List Act) (b c : Bool) (g : List Act) → b ≡ true → cond (b || c) [] g ≡ []
switch_none_by d a h b c g is = rw is refl

pub switch_none : (d : Domain) (a : ℕ) (h : List Act) → is_current groups.Gtk h ≡ true → switch_acts d a h ≡ []
switch_none d a h is = switch_none_by d a h (is_current groups.Gtk h) (any_owes groups.Gtk (length d.stas) h) _ is

pub no_switch : (d : Domain) (a : ℕ) (h acts : List Act) → is_current groups.Gtk (add acts h) ≡ true → acts ≡ and_switch d (Ap a) h acts
no_switch d a h acts is = sym (ap (λ (x : List Act). acts ++ x) (switch_none d a (add acts h) is) ∙ append-nil acts)

pub ap_adds : (d : Domain) (first a : ℕ) (h : List Act) (event : NodeEvent) (g : List Act) → RowOf (here d first (Ap a)) h event g → is_current groups.Gtk (add g h) ≡ true → Adds (here d first (Ap a)) h event g
ap_adds d first a h event g row is = record { acts = g; row = row; is = no_switch d a h g is }

-- acts that draw no group key and make none current
pub record LeavesKeys (e : Act) : Type 0 where
  pub drawn : key_drawn groups.Gtk e ≡ None
  pub switched : switched groups.Gtk e ≡ None

pub current_more : (e : Act) (h : List Act) → LeavesKeys e → is_current groups.Gtk h ≡ true → is_current groups.Gtk (e ∷ h) ≡ true
current_more e h leaves is = rw (leaves.drawn, leaves.switched) is

pub current_add : (g h : List Act) → AllByRecursion LeavesKeys g → is_current groups.Gtk h ≡ true → is_current groups.Gtk (add g h) ≡ true
current_add [] h all is = is
current_add (e ∷ g) h all is = current_add g (e ∷ h) all.1 (current_more e h all.0 is)

-- ---- and to which no G1 was sent

-- acts that send no G1 to p
abbrev pub NoG1 : Node → List Act → Type 0
NoG1 p h = all_sent p (kind.Key G1) h ≡ []

handshake_by : (p : Node) (e : Act) (h : List Act) → (NoG1 p h → all_sent p (kind.Key G1) (handshake groups.Gtk p h) ≡ []) → (b c : Bool) → (o : Option (List ℕ)) → sent p (kind.Key G1) e ≡ o → listed o (all_sent p (kind.Key G1) h) ≡ []
    → all_sent p (kind.Key G1) (cond b [] (cond c [] (e ∷ handshake groups.Gtk p h))) ≡ []
handshake_by p e h more true c o s none = refl
handshake_by p e h more false true o s none = refl
handshake_by p e h more false false None s none = rw s (more none)
handshake_by p e h more false false (Some x) s none = cc none

handshake_silent : (p : Node) (h : List Act) → NoG1 p h → all_sent p (kind.Key G1) (handshake groups.Gtk p h) ≡ []
handshake_silent p [] none = refl
handshake_silent p (e ∷ h) none = handshake_by p e h (handshake_silent p h) (finishes p e) (is_some (key_drawn groups.Gtk e)) (sent p (kind.Key G1) e) refl none

-- a session to which no G1 was sent owes nothing, so no G2 is awaited
pub not_owing : (p : Node) (h : List Act) → NoG1 p h → owing groups.Gtk p h ≡ None
not_owing p h none = rw (handshake_silent p h none) refl
