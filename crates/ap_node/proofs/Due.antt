-- The switch to the newest group key, beside that of the rows.
use Rattle.std.proofs.Common.{◌≡◌, ℕ, zero, suc, ◌+◌, ◌<◌, ◌≤◌, Bool, true, false, cond, List, [], ◌∷◌, length, Option, Some, None, is_some, refl, sym, ap, subst, ◌∙◌, arith, inl, inr}
use Rattle.std.specs.Prelude.{◌==◌, ◌&&◌, ◌||◌, not, nat_lt}
use Rattle.std.specs.List.{AllByRecursion}
use Rattle.std.proofs.lemmas.Bool.{cases_Bool, eqb-true, eq-eqb, ltb-true, ltb-false}
use Rattle.domain_base.specs.declared.names.Mac.{Mac}
use Rattle.domain_base.specs.declared.names.Node.{Node}
use Rattle.domain_base.specs.declared.names.Node.TheVariants.{Ap, Sta}
use Rattle.domain_base.specs.declared.names.Peer.TheVariants.{All}
use Rattle.run_journal.specs.declared.domain.Domain.{Domain}
use Rattle.run_journal.specs.declared.acts.Key.TheVariants.{Group}
use Rattle.run_journal.specs.declared.acts.Act.{Act}
use Rattle.run_journal.specs.declared.acts.Act.TheVariants.{Installed}
use Rattle.run_journal.specs.declared.acts.GroupKind.{GroupKind}
use Rattle.run_journal.specs.declared.acts.GroupKind.TheVariants as groups
use Rattle.run_journal.specs.Acts.{GroupKey as Carried}
use Rattle.run_journal.specs.Events.{protects}
use Rattle.run_journal.specs.Questions.{group_keys, switches, draws, add}
use Rattle.domain_rules.specs.Network.{mac}
use Rattle.domain_rules.specs.GroupKeys.{key_id, is_current}
use Rattle.domain_rules.specs.Owing.{owing, any_owes, current_igtk, current_acts, switch_acts}
use Rattle.domain_rules.proofs.Parts.{IsApart}
use Rattle.group_key.specs.declared.keys.GroupKey.{GroupKey}
use Rattle.group_key.specs.declared.keys.Pair.{Pair}
use Rattle.group_key.specs.Keys.{Pairs, IsInTurn, AreBeside, switched_all}
use Rattle.group_key.specs.Holds.{IsLast, Holds, HoldsIgtk, HoldsAll, under}
use Rattle.group_key.proofs.Drawing.{place_is, newest_is, in_use}
use Rattle.group_key.proofs.Together.{all_switched}
use Rattle.domain_rules.specs.PacketNumbers.{current_of}
use Rattle.data_frames.specs.Holding.{HoldsGroup}
use Rattle.data_frames.proofs.Standing.{group_others}
use Rattle.ap_node.specs.declared.station.Station.{Station}
use Rattle.authenticator.proofs.Handshaking.{owes_is}
use Rattle.ap_node.specs.State.{State, station_at, session_in, moves_in}
use Rattle.ap_node.specs.Counts.{owes_part}
use Rattle.ap_node.specs.InUse.{unused, made, made_act, made_acts}
use Rattle.ap_node.specs.Stands.{HasPart, HoldsInUse, StandsSoFar, IsSettled, Stands}
use Rattle.ap_node.specs.Switching.{is_due, newest_beside, switched, due_acts}
use Rattle.ap_node.proofs.Others.{AllLeave, far_on}
use Rattle.ap_node.proofs.Owed.{owes_at, count_some, none_owes}
use Rattle.ft_exchange.proofs.TargetStanding.{Passes}
use Rattle.targets.proofs.Passing.{moves_add, installed_passes}
use Rattle.ap_node.proofs.Standing.{part_on}

-- ---- whether a session owes, by the count

part_owes : (d : Domain) (n : Node) (k : ℕ) (x : Station) (g : GroupKey) (h : List Act) → IsLast groups.Gtk g (group_keys groups.Gtk h) → HasPart d n k x h → is_some (owing groups.Gtk (Sta k) h) ≡ owes_part g.place x
part_owes d n k x g h last at = owes_is d n (Sta k) (session_in x) g h last at.session_is

any_none : (h : List Act) (n : ℕ) → ((k : ℕ) → k < n → is_some (owing groups.Gtk (Sta k) h) ≡ false) → any_owes groups.Gtk n h ≡ false
any_none h zero none = refl
any_none h (suc n) none = rw (none n (omega arith)) (any_none h n (λ k low. none k (omega (arith, low))))

any_later : (h : List Act) (k : ℕ) (b : Bool) (c : Bool) → c ≡ true → (b || c) ≡ true
any_later h k true c is = refl
any_later h k false c is = is

any_some : (h : List Act) (n k : ℕ) → k < n → is_some (owing groups.Gtk (Sta k) h) ≡ true → any_owes groups.Gtk n h ≡ true
any_some h zero k low is = absurd (omega (arith, low))
any_some h (suc n) k low is = elim (cases_Bool (k == n)) [
  | inl same ↦ (let here : is_some (owing groups.Gtk (Sta n) h) ≡ true = subst (λ (i : ℕ). is_some (owing groups.Gtk (Sta i) h) ≡ true) (eqb-true k n same) is in rw here refl)
  | inr other ↦ any_later h k (is_some (owing groups.Gtk (Sta n) h)) (any_owes groups.Gtk n h) (any_some h n k (below k n low other) is)
]
  where
    below : (k n : ℕ) → k < suc n → (k == n) ≡ false → k < n
    below k n low other = elim (cases_Bool (nat_lt k n)) [
      | inl is ↦ ltb-true k n is
      | inr none ↦ absurd (cc (eq-eqb k n (omega (arith, low, ltb-false k n none)), other))
    ]

owes_station : (d : Domain) (first : ℕ) (s : State) (h : List Act) (k : ℕ) → StandsSoFar d first s h → is_some (owing groups.Gtk (Sta k) h) ≡ owes_at s.group.gtk.newest.place s.stations k
owes_station d first s h k at = part_owes d (Ap s.number) k (station_at s.stations k) s.group.gtk.newest h at.group_is.gtk.newest (at.parts k)

not_zero : (n : ℕ) → (n == 0) ≡ false → 1 ≤ n
not_zero zero other = absurd (cc (eq-eqb 0 0 refl, other))
not_zero (suc n) other = omega arith

any_is : (d : Domain) (first : ℕ) (s : State) (h : List Act) → StandsSoFar d first s h → any_owes groups.Gtk (length d.stas) h ≡ not (s.owing == 0)
any_is d first s h at = elim (cases_Bool (s.owing == 0)) [
  | inl zero_is ↦ (let none = none_owes s.group.gtk.newest.place s.stations (length d.stas) (sym at.counted ∙ eqb-true s.owing 0 zero_is) in
      rw zero_is (any_none h (length d.stas) (λ k low. owes_station d first s h k at ∙ none k low)))
  | inr some ↦ (let one = count_some s.group.gtk.newest.place s.stations (length d.stas) (above at.counted some) in
      rw some (any_some h (length d.stas) one.0 one.1 (owes_station d first s h one.0 at ∙ one.2)))
]
  where
    above : {n m : ℕ} → n ≡ m → (n == 0) ≡ false → 1 ≤ m
    above {n} {m} is some = omega (arith, is, not_zero n some)

-- ---- the acts of the switch

switch_by : (b c : Bool) (g k : List Act) → g ≡ k → cond (b || not c) [] g ≡ cond (not b && c) k []
switch_by true true g k is = refl
switch_by true false g k is = refl
switch_by false true g k is = is
switch_by false false g k is = refl

-- the IGTK with the GTK, where there is one
igtk_made : (b : Bool) (o : Option Pair) (g : GroupKey) (d : Domain) (n : Node) (h : List Act) → HoldsIgtk b o h → made_act groups.Gtk g (mac d n) ∷ current_igtk b d n h ≡ made_acts g (newest_beside o) (mac d n)
igtk_made false None g d n h holds = refl
igtk_made false (Some t) g d n h holds = absurd holds
igtk_made true None g d n h holds = absurd holds
igtk_made true (Some t) g d n h holds =
    ap (λ (x : Carried). made_act groups.Gtk g (mac d n) ∷ Installed All (Group groups.Igtk x.key x.id (mac d n)) ∷ []) (newest_is groups.Igtk t h holds)

current_made : (d : Domain) (n : Node) (s : Pairs) (h : List Act) → HoldsAll (protects d) s h → current_acts d n h ≡ made_acts s.gtk.newest (newest_beside s.igtk) (mac d n)
current_made d n s h holds =
    ap (λ (x : Carried). Installed All (Group groups.Gtk x.key x.id (mac d n)) ∷ current_igtk (protects d) d n h) (newest_is groups.Gtk s.gtk h holds.gtk)
    ∙ igtk_made (protects d) s.igtk s.gtk.newest d n h holds.igtk

pub switch_is : (d : Domain) (first : ℕ) (s : State) (h : List Act) → StandsSoFar d first s h → switch_acts d s.number h ≡ due_acts d s
switch_is d first s h at =
    tests (in_use groups.Gtk s.group.gtk h at.group_is.gtk) (any_is d first s h at)
    ∙ switch_by (s.group.gtk.newest.place == s.group.gtk.current.place) (s.owing == 0) _ _ (current_made d (Ap s.number) s.group h at.group_is)
  where
    tests : {b c : Bool} → is_current groups.Gtk h ≡ b → any_owes groups.Gtk (length d.stas) h ≡ c → switch_acts d s.number h ≡ cond (b || c) [] (current_acts d (Ap s.number) h)
    tests e f = rw (e, f) refl

-- ---- what the acts of the switch leave

apart-all : (p : Node) (k : GroupKind) (key : List ℕ) (id : ℕ) (b : Mac) → IsApart p (Installed All (Group k key id b))
apart-all p k key id b = record { opens_none = refl; ends_none = refl; accepts_none = λ x. refl; replies_none = λ x. refl; sends_none = λ m. refl; derives_none = refl; finishes_none = refl; closes_none = refl }

apart-made : (p : Node) (g : GroupKey) (o : Option GroupKey) (b : Mac) → AllByRecursion (IsApart p) (made_acts g o b)
apart-made p g None b = (apart-all p groups.Gtk g.key g.id b, tt)
apart-made p g (Some t) b = (apart-all p groups.Gtk g.key g.id b, (apart-all p groups.Igtk t.key t.id b, tt))

leaves-made : (p : Node) (g : GroupKey) (o : Option GroupKey) (b : Mac) → AllLeave p (made_acts g o b)
leaves-made p g None b tk = (record { used = λ h. refl; got = λ tid h. refl }, tt)
leaves-made p g (Some t) b tk = (record { used = λ h. refl; got = λ tid h. refl }, (record { used = λ h. refl; got = λ tid h. refl }, tt))

passes-made : (p : Node) (g : GroupKey) (o : Option GroupKey) (b : Mac) → AllByRecursion (Passes p) (made_acts g o b)
passes-made p g None b = (installed_passes p All _, tt)
passes-made p g (Some t) b = (installed_passes p All _, (installed_passes p All _, tt))

draws-made : (g : GroupKey) (o : Option GroupKey) (b : Mac) (h : List Act) → draws (add (made_acts g o b) h) ≡ draws h
draws-made g None b h = refl
draws-made g (Some t) b h = refl

-- ---- the access point after the switch

-- the newest group keys are not in use yet: they are the next
next_by : (s : State) → (s.group.gtk.newest.place == s.group.gtk.current.place) ≡ false → IsInTurn s.group.gtk → s.group.gtk.newest.place ≡ suc s.group.gtk.current.place
next_by s other (inl same) = absurd (cc (eq-eqb s.group.gtk.newest.place s.group.gtk.current.place same, other))
next_by s other (inr next) = next

both_true : (a b : Bool) → (not a && b) ≡ true → (a ≡ false) × (b ≡ true)
both_true true b is = absurd (cc is)
both_true false b is = (refl, is)

-- the newest group key of a kind is the current one then, and no packet number was used under it
id_is : (k : GroupKind) (g : GroupKey) (keys : List (List ℕ)) → IsLast k g keys → g.id ≡ key_id k g.place
id_is k g keys last = ap (λ (x : GroupKey). x.id) last.is ∙ ap (key_id k) (sym (ap (λ (x : GroupKey). x.place) last.is))

current_then : (k : GroupKind) (s : Pair) (h : List Act) → Holds k s h → s.newest.place ≡ suc s.current.place → current_of k (s.newest.key ∷ switches k h) ≡ Some (record { key = s.newest.key; id = s.newest.id })
current_then k s h holds next =
    let g = s.newest in
    let places : length (switches k h) ≡ g.place = sym (place_is k s.current (switches k h) holds.current) ∙ sym next in
    let is : key_id k (length (switches k h)) ≡ g.id = ap (key_id k) places ∙ sym (id_is k g (group_keys k h) holds.newest) in
    ap (λ (i : ℕ). Some (under g.key i)) is

gtk_in_use : (s : Pair) (b : Mac) (h : List Act) → Holds groups.Gtk s h → s.newest.place ≡ suc s.current.place → HoldsGroup (unused s.newest) (made_act groups.Gtk s.newest b ∷ h)
gtk_in_use s b h holds next = record { id = s.newest.id; role = refl; current_is = current_then groups.Gtk s h holds next; used = refl }

in_use_then : (protected : Bool) (s : Pair) (o : Option Pair) (b : Mac) (h : List Act) → Holds groups.Gtk s h → HoldsIgtk protected o h → AreBeside s o → s.newest.place ≡ suc s.current.place
    → HoldsInUse protected (made s.newest (newest_beside o)) (add (made_acts s.newest (newest_beside o) b) h)
in_use_then false s None b h holds igtk beside next = record { gtk = gtk_in_use s b h holds next; igtk = tt }
in_use_then false s (Some t) b h holds igtk beside next = absurd igtk
in_use_then true s None b h holds igtk beside next = absurd igtk
in_use_then true s (Some t) b h holds igtk beside next = record {
  gtk = group_others (unused s.newest) (made_act groups.Igtk t.newest b ∷ []) (made_act groups.Gtk s.newest b ∷ h) (gtk_in_use s b h holds next) (record { made = refl; used = refl }, tt);
  igtk = record { current_is = current_then groups.Igtk t h igtk (beside.0 ∙ next ∙ ap suc (sym beside.1)); used = refl };
}

due_so_far : (d : Domain) (first : ℕ) (s : State) (h : List Act) → StandsSoFar d first s h → is_due s ≡ true
    → StandsSoFar d first (record s { group = switched_all s.group; sending = made s.group.gtk.newest (newest_beside s.group.igtk) }) (add (made_acts s.group.gtk.newest (newest_beside s.group.igtk) (mac d (Ap s.number))) h)
due_so_far d first s h at due =
    let n = Ap s.number in
    let tests = both_true (s.group.gtk.newest.place == s.group.gtk.current.place) (s.owing == 0) due in
    let next = next_by s tests.0 at.pending in
    let g = s.group.gtk.newest in
    let o = newest_beside s.group.igtk in
    let acts = made_acts g o (mac d n) in
    record {
      draws_are = at.draws_are ∙ ap (λ (m : ℕ). first + m) (sym (draws-made g o (mac d n) h));
      draws_low = at.draws_low;
      group_is = subst (λ (l : List Act). HoldsAll (protects d) (switched_all s.group) (add l h)) (current_made d n s.group h at.group_is) (all_switched d n s.group h at.group_is next);
      pending = inl refl;
      sending_is = in_use_then (protects d) s.group.gtk s.group.igtk (mac d n) h at.group_is.gtk at.group_is.igtk at.group_is.beside next;
      listed = at.listed;
      counted = at.counted;
      parts = λ k. part_on d n k (station_at s.stations k) h (add acts h) (far_on (Sta k) acts h (apart-made (Sta k) g o (mac d n)) (leaves-made (Sta k) g o (mac d n))) (at.parts k);
      moves = λ k. moves_add d n (Sta k) (moves_in (station_at s.stations k)) acts h (passes-made (Sta k) g o (mac d n)) (at.moves k);
    }

quiet_settled : (s : State) → is_due s ≡ false → IsSettled s
quiet_settled s quiet = settled_by (s.group.gtk.newest.place == s.group.gtk.current.place) (s.owing == 0) refl refl quiet
  where
    settled_by : (a b : Bool) → (s.group.gtk.newest.place == s.group.gtk.current.place) ≡ a → (s.owing == 0) ≡ b → (not a && b) ≡ false → IsSettled s
    settled_by true b same none is = inl (eqb-true s.group.gtk.newest.place s.group.gtk.current.place same)
    settled_by false true same none is = absurd (cc is)
    settled_by false false same none is = inr (not_zero s.owing none)

pub stands_switched : (d : Domain) (first : ℕ) (s : State) (h : List Act) → StandsSoFar d first s h → Stands d first (switched s) (add (due_acts d s) h)
stands_switched d first s h at = by (is_due s) refl
  where
    by : (b : Bool) → is_due s ≡ b → Stands d first (switched s) (add (due_acts d s) h)
    by true due = rw due (record { so_far = due_so_far d first s h at due; settled = inl refl })
    by false quiet = rw quiet (record { so_far = at; settled = quiet_settled s quiet })

-- ---- where no switch is to come

settled_quiet : (s : State) → IsSettled s → is_due s ≡ false
settled_quiet s (inl same) = rw (eq-eqb s.group.gtk.newest.place s.group.gtk.current.place same) refl
settled_quiet s (inr some) = none_by (not (s.group.gtk.newest.place == s.group.gtk.current.place)) (s.owing == 0) (above s.owing some)
  where
    above : (n : ℕ) → 1 ≤ n → (n == 0) ≡ false
    above n some = elim (cases_Bool (n == 0)) [ inl is ↦ absurd (omega (arith, eqb-true n 0 is, some)) | inr other ↦ other ]

    none_by : (a b : Bool) → b ≡ false → (a && b) ≡ false
    none_by true b is = is
    none_by false b is = refl

pub no_switch : (d : Domain) (first : ℕ) (s : State) (h : List Act) → StandsSoFar d first s h → IsSettled s → switch_acts d s.number h ≡ []
no_switch d first s h at settled = switch_is d first s h at ∙ ap (λ (b : Bool). cond b (made_acts s.group.gtk.newest (newest_beside s.group.igtk) (mac d (Ap s.number))) []) (settled_quiet s settled)
