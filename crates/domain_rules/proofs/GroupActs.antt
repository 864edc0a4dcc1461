-- What is true of each act by which group keys are drawn, given and made current.
use Rattle.std.proofs.Common.{ℕ, suc, Bool, true, false, cond, List, [], ◌∷◌, ◌++◌, length, Option}
use Rattle.std.specs.Prelude.{◌||◌}
use Rattle.std.specs.List.{AllByRecursion}
use Rattle.domain_base.specs.declared.names.Mac.{Mac}
use Rattle.domain_base.specs.declared.names.Node.{Node}
use Rattle.domain_base.specs.declared.names.Node.TheVariants.{Ap}
use Rattle.domain_base.specs.declared.names.Peer.TheVariants.{All}
use Rattle.run_journal.specs.declared.domain.Domain.{Domain}
use Rattle.run_journal.specs.declared.acts.GroupKind.{GroupKind}
use Rattle.run_journal.specs.declared.acts.GroupKind.TheVariants as groups
use Rattle.run_journal.specs.declared.acts.Drawn.TheVariants as draw
use Rattle.run_journal.specs.declared.acts.Key.TheVariants.{Group}
use Rattle.run_journal.specs.declared.acts.Act.{Act}
use Rattle.run_journal.specs.declared.acts.Act.TheVariants.{Drew, Installed}
use Rattle.run_journal.specs.Events.{protects}
use Rattle.run_journal.specs.Acts.{GroupKey}
use Rattle.run_journal.specs.Questions.{add}
use Rattle.domain_rules.specs.Network.{mac, gtk}
use Rattle.domain_rules.specs.GroupKeys.{newest, memory, find_key, give_by, is_current, GivenKeys, give_igtk, give_all}
use Rattle.domain_rules.specs.Owing.{any_owes, current_igtk, current_acts, switch_acts}
use Rattle.domain_rules.specs.AccessPointRows.{draw_igtk, draw_acts, start_acts}

pub all_both : (P : Act → Type 0) (f g : List Act) → AllByRecursion P f → AllByRecursion P g → AllByRecursion P (f ++ g)
all_both P [] g first more = more
all_both P (e ∷ f) g first more = (first.0, all_both P f g first.1 more)

-- ---- drawn

abbrev pub OfDrawn : (Act → Type 0) → Type 0
OfDrawn P = (which : GroupKind) (key : List ℕ) → P (Drew (draw.Group which key))

igtk_drawn : (P : Act → Type 0) → OfDrawn P → (on : Bool) (d : Domain) (n : Node) (number : ℕ) → AllByRecursion P (draw_igtk on d n number)
igtk_drawn P drawn false d n number = tt
igtk_drawn P drawn true d n number = (drawn groups.Igtk (gtk d n number), tt)

pub all_drawn : (P : Act → Type 0) → OfDrawn P → (d : Domain) (n : Node) (number : ℕ) → AllByRecursion P (draw_acts d n number)
all_drawn P drawn d n number = (drawn groups.Gtk (gtk d n number), igtk_drawn P drawn (protects d) d n (suc number))

-- ---- made current

abbrev pub OfCurrent : (Act → Type 0) → Type 0
OfCurrent P = (which : GroupKind) (key : List ℕ) (id : ℕ) (b : Mac) → P (Installed All (Group which key id b))

igtk_current : (P : Act → Type 0) → OfCurrent P → (on : Bool) (d : Domain) (n : Node) (h : List Act) → AllByRecursion P (current_igtk on d n h)
igtk_current P current false d n h = tt
igtk_current P current true d n h = (current groups.Igtk (newest groups.Igtk h).key (newest groups.Igtk h).id (mac d n), tt)

pub all_current : (P : Act → Type 0) → OfCurrent P → (d : Domain) (n : Node) (h : List Act) → AllByRecursion P (current_acts d n h)
all_current P current d n h = (current groups.Gtk (newest groups.Gtk h).key (newest groups.Gtk h).id (mac d n), igtk_current P current (protects d) d n h)

by_switch : (P : Act → Type 0) (settled : Bool) (f : List Act) → AllByRecursion P f → AllByRecursion P (cond settled [] f)
by_switch P true f all = tt
by_switch P false f all = all

pub all_switched : (P : Act → Type 0) → OfCurrent P → (d : Domain) (a : ℕ) (h : List Act) → AllByRecursion P (switch_acts d a h)
all_switched P current d a h = by_switch P (is_current groups.Gtk h || any_owes groups.Gtk (length d.stas) h) (current_acts d (Ap a) h) (all_current P current d (Ap a) h)

-- an access point starts
pub all_started : (P : Act → Type 0) → OfDrawn P → OfCurrent P → (d : Domain) (first : ℕ) (n : Node) → AllByRecursion P (start_acts d first n)
all_started P drawn current d first n =
    let keys = draw_acts d n first in
    all_both P keys (current_acts d n (add keys [])) (all_drawn P drawn d n first) (all_current P current d n (add keys []))

-- ---- given

abbrev pub OfGiven : (Act → Type 0) → Type 0
OfGiven P = (which : GroupKind) (p : Node) (b : Mac) (g : GroupKey) (o : Option GroupKey) → P (give_by which p b g o)

igtk_given : (P : Act → Type 0) → OfGiven P → (on : Bool) (p : Node) (b : Mac) (g : GroupKey) (h : List Act) → AllByRecursion P (give_igtk on p b g h)
igtk_given P given false p b g h = tt
igtk_given P given true p b g h = (given groups.Igtk p b g (find_key g.key (memory groups.Igtk p h)), tt)

pub all_given : (P : Act → Type 0) → OfGiven P → (d : Domain) (p : Node) (b : Mac) (keys : GivenKeys) (h : List Act) → AllByRecursion P (give_all d p b keys h)
all_given P given d p b keys h = (given groups.Gtk p b keys.gtk (find_key keys.gtk.key (memory groups.Gtk p h)), igtk_given P given (protects d) p b keys.igtk h)
