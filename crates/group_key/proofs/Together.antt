-- The group keys of both kinds of an access point as they are drawn and made current together.
use Rattle.std.proofs.Common.{◌≡◌, ℕ, suc, Bool, true, false, List, [], ◌∷◌, ◌++◌, Option, Some, None, refl, sym, ap, ◌∙◌}
use Rattle.std.specs.Prelude.{is_some, option_map}
use Rattle.domain_base.specs.declared.names.Mac.{Mac}
use Rattle.domain_base.specs.declared.names.Node.{Node}
use Rattle.domain_base.specs.declared.names.Peer.TheVariants.{All}
use Rattle.run_journal.specs.declared.domain.Domain.{Domain}
use Rattle.run_journal.specs.declared.acts.Drawn.TheVariants as draw
use Rattle.run_journal.specs.declared.acts.GroupKind.TheVariants as groups
use Rattle.run_journal.specs.declared.acts.Key.TheVariants.{Group}
use Rattle.run_journal.specs.declared.acts.Act.{Act}
use Rattle.run_journal.specs.declared.acts.Act.TheVariants.{Drew, Installed}
use Rattle.run_journal.specs.Events.{protects}
use Rattle.run_journal.specs.Questions.{add}
use Rattle.domain_rules.specs.Network.{mac, gtk}
use Rattle.domain_rules.specs.GroupKeys.{newest}
use Rattle.domain_rules.specs.Owing.{current_act, current_igtk, current_acts}
use Rattle.domain_rules.specs.AccessPointRows.{draw_igtk, draw_acts, start_acts}
use Rattle.group_key.specs.declared.keys.Pair.{Pair}
use Rattle.group_key.specs.Keys.{Pairs, drawn as drawn_by, drawn_beside, switched as switched_by, started_all, drawn_all, switched_all, igtk_drawn, AreBeside}
use Rattle.group_key.specs.Holds.{HoldsIgtk, HoldsAll, LeavesGroupKeys}
use Rattle.group_key.proofs.Beside.{beside_started, beside_drawn, beside_switched}
use Rattle.group_key.proofs.Drawing.{started, drawn, made_current, other}

-- ---- acts with a key of the other kind

draws_igtk : (key : List ℕ) → LeavesGroupKeys groups.Gtk (Drew (draw.Group groups.Igtk key))
draws_igtk key = record { drawn = refl; made = refl }

draws_gtk : (key : List ℕ) → LeavesGroupKeys groups.Igtk (Drew (draw.Group groups.Gtk key))
draws_gtk key = record { drawn = refl; made = refl }

makes_igtk : (key : List ℕ) (id : ℕ) (b : Mac) → LeavesGroupKeys groups.Gtk (Installed All (Group groups.Igtk key id b))
makes_igtk key id b = record { drawn = refl; made = refl }

makes_gtk : (key : List ℕ) (id : ℕ) (b : Mac) → LeavesGroupKeys groups.Igtk (Installed All (Group groups.Gtk key id b))
makes_gtk key id b = record { drawn = refl; made = refl }

-- ---- the first

abbrev drew_by : Bool → Domain → Node → ℕ → List Act
drew_by b d n number = Drew (draw.Group groups.Gtk (gtk d n number)) ∷ draw_igtk b d n (suc number)

abbrev starts_by : Bool → Domain → Node → ℕ → List Act
starts_by b d n first = drew_by b d n first ++ current_act groups.Gtk d n (add (drew_by b d n first) []) ∷ current_igtk b d n (add (drew_by b d n first) [])

started_with : (b : Bool) (d : Domain) (n : Node) (first : ℕ) → HoldsAll b (started_all (gtk d n first) (igtk_drawn b d n (suc first))) (add (starts_by b d n first) [])
started_with false d n first = record {
  gtk = started groups.Gtk (gtk d n first) (add (starts_by false d n first) []) refl refl;
  igtk = tt;
  beside = beside_started (gtk d n first) None;
}
started_with true d n first = record {
  gtk = started groups.Gtk (gtk d n first) (add (starts_by true d n first) []) refl refl;
  igtk = started groups.Igtk (gtk d n (suc first)) (add (starts_by true d n first) []) refl refl;
  beside = beside_started (gtk d n first) (Some (gtk d n (suc first)));
}

pub all_started : (d : Domain) (n : Node) (first : ℕ) → HoldsAll (protects d) (started_all (gtk d n first) (igtk_drawn (protects d) d n (suc first))) (add (start_acts d first n) [])
all_started d n first = started_with (protects d) d n first

-- ---- one more of each

there_is : (b : Bool) (o : Option Pair) (h : List Act) → HoldsIgtk b o h → is_some o ≡ b
there_is false None h holds = refl
there_is false (Some t) h holds = absurd holds
there_is true None h holds = absurd holds
there_is true (Some t) h holds = refl

drawn_some : (b : Bool) (d : Domain) (n : Node) (number : ℕ) → is_some (igtk_drawn b d n number) ≡ b
drawn_some false d n number = refl
drawn_some true d n number = refl

igtk_unheld : (o : Option Pair) (h k : List Act) → HoldsIgtk false o h → HoldsIgtk false (drawn_beside None o) k
igtk_unheld None h k holds = tt
igtk_unheld (Some t) h k holds = absurd holds

igtk_held : (key next : List ℕ) (o : Option Pair) (h : List Act) → HoldsIgtk true o h → HoldsIgtk true (drawn_beside (Some next) o) (Drew (draw.Group groups.Igtk next) ∷ Drew (draw.Group groups.Gtk key) ∷ h)
igtk_held key next None h holds = absurd holds
igtk_held key next (Some t) h holds = drawn groups.Igtk t next (Drew (draw.Group groups.Gtk key) ∷ h) (other groups.Igtk t (Drew (draw.Group groups.Gtk key)) h holds (draws_gtk key))

drawn_with : (b : Bool) (d : Domain) (n : Node) (number : ℕ) (s : Pairs) (h : List Act) → HoldsAll b s h → HoldsAll b (drawn_all (gtk d n number) (igtk_drawn b d n (suc number)) s) (add (drew_by b d n number) h)
drawn_with false d n number s h holds = record {
  gtk = drawn groups.Gtk s.gtk (gtk d n number) h holds.gtk;
  igtk = igtk_unheld s.igtk h (add (drew_by false d n number) h) holds.igtk;
  beside = beside_drawn s.gtk (gtk d n number) None s.igtk (sym (there_is false s.igtk h holds.igtk)) holds.beside;
}
drawn_with true d n number s h holds =
    let key = gtk d n number in
    let next = gtk d n (suc number) in
    record {
      gtk = other groups.Gtk (drawn_by groups.Gtk key s.gtk) (Drew (draw.Group groups.Igtk next)) (Drew (draw.Group groups.Gtk key) ∷ h) (drawn groups.Gtk s.gtk key h holds.gtk) (draws_igtk next);
      igtk = igtk_held key next s.igtk h holds.igtk;
      beside = beside_drawn s.gtk key (Some next) s.igtk (sym (there_is true s.igtk h holds.igtk)) holds.beside;
    }

pub all_drawn : (d : Domain) (n : Node) (number : ℕ) (s : Pairs) (h : List Act) → HoldsAll (protects d) s h → HoldsAll (protects d) (drawn_all (gtk d n number) (igtk_drawn (protects d) d n (suc number)) s) (add (draw_acts d n number) h)
all_drawn d n number s h holds = drawn_with (protects d) d n number s h holds

-- ---- the newest in use

igtk_unmade : (o : Option Pair) (h k : List Act) → HoldsIgtk false o h → HoldsIgtk false (option_map switched_by o) k
igtk_unmade None h k holds = tt
igtk_unmade (Some t) h k holds = absurd holds

igtk_made : (s : Pair) (o : Option Pair) (key : List ℕ) (id : ℕ) (b : Mac) (h : List Act) → HoldsIgtk true o h → AreBeside s o → s.newest.place ≡ suc s.current.place
    → HoldsIgtk true (option_map switched_by o) (Installed All (Group groups.Igtk (newest groups.Igtk h).key (newest groups.Igtk h).id b) ∷ Installed All (Group groups.Gtk key id b) ∷ h)
igtk_made s None key id b h holds beside pending = absurd holds
igtk_made s (Some t) key id b h holds beside pending =
    made_current groups.Igtk t b (Installed All (Group groups.Gtk key id b) ∷ h) (other groups.Igtk t (Installed All (Group groups.Gtk key id b)) h holds (makes_gtk key id b)) (beside.0 ∙ pending ∙ ap suc (sym beside.1))

switched_with : (b : Bool) (d : Domain) (n : Node) (s : Pairs) (h : List Act) → HoldsAll b s h → s.gtk.newest.place ≡ suc s.gtk.current.place → HoldsAll b (switched_all s) (add (current_act groups.Gtk d n h ∷ current_igtk b d n h) h)
switched_with false d n s h holds pending = record {
  gtk = made_current groups.Gtk s.gtk (mac d n) h holds.gtk pending;
  igtk = igtk_unmade s.igtk h (current_act groups.Gtk d n h ∷ h) holds.igtk;
  beside = beside_switched s.gtk s.igtk holds.beside;
}
switched_with true d n s h holds pending = record {
  gtk = other groups.Gtk (switched_by s.gtk) (current_act groups.Igtk d n h) (current_act groups.Gtk d n h ∷ h) (made_current groups.Gtk s.gtk (mac d n) h holds.gtk pending) (makes_igtk (newest groups.Igtk h).key (newest groups.Igtk h).id (mac d n));
  igtk = igtk_made s.gtk s.igtk (newest groups.Gtk h).key (newest groups.Gtk h).id (mac d n) h holds.igtk holds.beside pending;
  beside = beside_switched s.gtk s.igtk holds.beside;
}

pub all_switched : (d : Domain) (n : Node) (s : Pairs) (h : List Act) → HoldsAll (protects d) s h → s.gtk.newest.place ≡ suc s.gtk.current.place → HoldsAll (protects d) (switched_all s) (add (current_acts d n h) h)
all_switched d n s h holds pending = switched_with (protects d) d n s h holds pending
