-- An access point as it starts.
use Rattle.std.proofs.Common.{◌≡◌, ℕ, suc, ◌+◌, ◌<◌, ◌≤◌, Bool, true, false, List, [], ◌∷◌, ◌++◌, length, Option, Some, None, append_assoc, refl, sym, ap, ap₂, subst, ◌∙◌, arith, inl}
use Rattle.std.specs.Prelude.{option_map}
use Rattle.domain_base.specs.declared.names.Mac.{Mac}
use Rattle.domain_base.specs.declared.names.Node.{Node}
use Rattle.domain_base.specs.declared.names.Node.TheVariants.{Ap, Sta}
use Rattle.run_journal.specs.declared.acts.GroupKind.TheVariants as groups
use Rattle.run_journal.specs.declared.domain.Domain.{Domain}
use Rattle.run_journal.specs.declared.acts.Act.{Act}
use Rattle.run_journal.specs.Events.{protects}
use Rattle.run_journal.specs.Questions.{attempt, session, draws, add}
use Rattle.domain_rules.specs.Network.{draw_end, gtk, mac}
use Rattle.domain_rules.specs.Owing.{current_act, current_igtk}
use Rattle.domain_rules.specs.AccessPointRows.{last_draw, start_acts}
use Rattle.group_key.specs.declared.keys.GroupKey.{GroupKey}
use Rattle.group_key.specs.declared.keys.Pair.{Pair}
use Rattle.group_key.specs.Keys.{Pairs, placed, started, started_all, igtk_drawn}
use Rattle.group_key.proofs.Together.{all_started}
use Rattle.held_rows.specs.Knows.{LeaveRows}
use Rattle.held_rows.proofs.Leaving.{none_at_first, left}
use Rattle.ap_node.specs.declared.sending.Sending.{Sending}
use Rattle.ap_node.specs.declared.station.Station.{Station}
use Rattle.ap_node.specs.Drawing.{drawn_after, drew}
use Rattle.ap_node.specs.InUse.{made, made_acts}
use Rattle.ap_node.specs.State.{State, no_station}
use Rattle.ap_node.specs.Stands.{HasPart, HoldsInUse, StandsSoFar, StandsWith}
use Rattle.ap_node.proofs.BothDrawn.{low_by, number_low, further, drew_by}
use Rattle.ap_node.proofs.Messaging.{the_state}
use Rattle.ap_node.proofs.Owed.{count_none}
use Rattle.targets.proofs.Beginning.{nothing_stands}

-- ---- the acts, with an IGTK or without one

abbrev starts_by : Bool → Domain → Node → ℕ → List Act
starts_by b d n first = drew_by b d n first ++ current_act groups.Gtk d n (add (drew_by b d n first) []) ∷ current_igtk b d n (add (drew_by b d n first) [])

-- the first IGTK, where there is one
abbrev first_igtk : Bool → Domain → Node → ℕ → Option GroupKey
first_igtk b d n first = option_map (placed groups.Igtk 0) (igtk_drawn b d n (suc first))

acts_by : (b : Bool) (d : Domain) (n : Node) (first : ℕ) → drew (gtk d n first) (igtk_drawn b d n (suc first)) ++ made_acts (placed groups.Gtk 0 (gtk d n first)) (first_igtk b d n first) (mac d n) ≡ starts_by b d n first
acts_by false d n first = refl
acts_by true d n first = refl

-- it is the one drawn
first_beside : (igtk : Option (List ℕ)) → option_map (λ (t : Pair). t.newest) (option_map (started groups.Igtk) igtk) ≡ option_map (placed groups.Igtk 0) igtk
first_beside None = refl
first_beside (Some key) = refl

-- the first keys, as the code comes by them
pub record AreFirst (d : Domain) (n : Node) (first : ℕ) (key : List ℕ) (igtk : Option (List ℕ)) (g : Pairs) (k : GroupKey) (o : Option GroupKey) : Type 0 where
  pub key_is : key ≡ gtk d n first
  pub igtk_is : igtk ≡ igtk_drawn (protects d) d n (suc first)
  pub gtk_pair : g.gtk ≡ started groups.Gtk key
  pub igtk_pair : g.igtk ≡ option_map (started groups.Igtk) igtk
  pub newest : k ≡ g.gtk.newest
  pub beside : o ≡ option_map (λ (t : Pair). t.newest) g.igtk

first_is : (d : Domain) (n : Node) (first : ℕ) (key : List ℕ) (igtk : Option (List ℕ)) (g : Pairs) (k : GroupKey) (o : Option GroupKey) → AreFirst d n first key igtk g k o → k ≡ placed groups.Gtk 0 (gtk d n first)
first_is d n first key igtk g k o w = w.newest ∙ ap (λ (p : Pair). p.newest) w.gtk_pair ∙ ap (placed groups.Gtk 0) w.key_is

beside_is : (d : Domain) (n : Node) (first : ℕ) (key : List ℕ) (igtk : Option (List ℕ)) (g : Pairs) (k : GroupKey) (o : Option GroupKey) → AreFirst d n first key igtk g k o → o ≡ first_igtk (protects d) d n first
beside_is d n first key igtk g k o w =
    w.beside ∙ ap (λ (p : Option Pair). option_map (λ (t : Pair). t.newest) p) w.igtk_pair ∙ first_beside igtk ∙ ap (λ (i : Option (List ℕ)). option_map (placed groups.Igtk 0) i) w.igtk_is

abbrev pairs_of : Pair → Option Pair → Pairs
pairs_of p o = record { gtk = p; igtk = o }

group_is : (d : Domain) (n : Node) (first : ℕ) (key : List ℕ) (igtk : Option (List ℕ)) (g : Pairs) (k : GroupKey) (o : Option GroupKey) → AreFirst d n first key igtk g k o → g ≡ started_all (gtk d n first) (igtk_drawn (protects d) d n (suc first))
group_is d n first key igtk g k o w =
    ap₂ pairs_of (w.gtk_pair ∙ ap (started groups.Gtk) w.key_is) (w.igtk_pair ∙ ap (λ (i : Option (List ℕ)). option_map (started groups.Igtk) i) w.igtk_is)

pub started_as : (d : Domain) (n : Node) (first : ℕ) (old a b c : List Act) (key : List ℕ) (igtk : Option (List ℕ)) (g : Pairs) (k : GroupKey) (o : Option GroupKey) (bssid : Mac) → AreFirst d n first key igtk g k o → a ≡ old → b ≡ a ++ drew key igtk → c ≡ b ++ made_acts k o bssid → bssid ≡ mac d n
    → c ≡ old ++ start_acts d first n
started_as d n first old a b c key igtk g k o bssid w a_is b_is c_is bssid_is =
    c_is ∙ ap₂ (λ (l m : List Act). l ++ m) (b_is ∙ ap₂ (λ (l m : List Act). l ++ m) a_is (ap₂ drew w.key_is w.igtk_is)) (same (first_is d n first key igtk g k o w) (beside_is d n first key igtk g k o w) bssid_is)
    ∙ append_assoc old (drew (gtk d n first) (igtk_drawn (protects d) d n (suc first))) (made_acts (placed groups.Gtk 0 (gtk d n first)) (first_igtk (protects d) d n first) (mac d n))
    ∙ ap (λ (l : List Act). old ++ l) (acts_by (protects d) d n first)
  where
    same : {k m : GroupKey} {o q : Option GroupKey} {x y : Mac} → k ≡ m → o ≡ q → x ≡ y → made_acts k o x ≡ made_acts m q y
    same e f h = rw (e, f, h) refl

-- ---- what it stands for, with an IGTK or without one

draws_by : (b : Bool) (d : Domain) (n : Node) (first : ℕ) → drawn_after b first ≡ first + draws (add (starts_by b d n first) [])
draws_by false d n first = refl
draws_by true d n first = refl

in_use_by : (b : Bool) (d : Domain) (n : Node) (first : ℕ) → HoldsInUse b (made (placed groups.Gtk 0 (gtk d n first)) (first_igtk b d n first)) (add (starts_by b d n first) [])
in_use_by false d n first = record { gtk = record { id = 1; role = refl; current_is = refl; used = refl }; igtk = tt }
in_use_by true d n first = record { gtk = record { id = 1; role = refl; current_is = refl; used = refl }; igtk = record { current_is = refl; used = refl } }

parts_by : (b : Bool) (d : Domain) (n : Node) (first sta : ℕ) → HasPart d n sta no_station (add (starts_by b d n first) [])
parts_by false d n first sta = record { tried = tt; kept = tt; attempt_is = tt; session_is = refl; key = tt }
parts_by true d n first sta = record { tried = tt; kept = tt; attempt_is = tt; session_is = refl; key = tt }

attempt_by : (b : Bool) (d : Domain) (n p : Node) (first : ℕ) → attempt p (add (starts_by b d n first) []) ≡ None
attempt_by false d n p first = refl
attempt_by true d n p first = refl

session_by : (b : Bool) (d : Domain) (n p : Node) (first : ℕ) → session p (add (starts_by b d n first) []) ≡ None
session_by false d n p first = refl
session_by true d n p first = refl

rows_by : (b : Bool) (d : Domain) (n : Node) (first : ℕ) → LeaveRows (starts_by b d n first)
rows_by false d n first = (refl, (refl, tt))
rows_by true d n first = (refl, (refl, (refl, (refl, tt))))

-- the access point after it started
abbrev first_state : Domain → ℕ → ℕ → State
first_state d first a =
    the_state a (drawn_after (protects d) first) (started_all (gtk d (Ap a) first) (igtk_drawn (protects d) d (Ap a) (suc first))) (made (placed groups.Gtk 0 (gtk d (Ap a) first)) (first_igtk (protects d) d (Ap a) first)) [] 0

the_first : (d : Domain) (first a : ℕ) → last_draw d first < draw_end → StandsSoFar d first (first_state d first a) (add (start_acts d first (Ap a)) [])
the_first d first a low =
    let n = Ap a in
    let h = add (start_acts d first n) [] in
    record {
      draws_are = draws_by (protects d) d n first;
      draws_low = low_by (protects d) first low;
      group_is = all_started d n first;
      pending = inl refl;
      sending_is = in_use_by (protects d) d n first;
      listed = λ sta past. refl;
      counted = sym (count_none 0 [] (length d.stas) (λ sta. refl));
      parts = λ sta. parts_by (protects d) d n first sta;
      moves = λ sta. nothing_stands d n (Sta sta) h (attempt_by (protects d) d n (Sta sta) first) (session_by (protects d) d n (Sta sta) first);
    }

starts : (d : Domain) (first a : ℕ) → last_draw d first < draw_end → StandsWith d first (first_state d first a) [] (add (start_acts d first (Ap a)) [])
starts d first a low = record {
  stands = record { so_far = the_first d first a low; settled = inl refl };
  rows = left d (Ap a) [] (start_acts d first (Ap a)) [] (rows_by (protects d) d (Ap a) first) (none_at_first d (Ap a));
}

-- and no row was put
pub starts_with : (d : Domain) (first a drawn : ℕ) (key : List ℕ) (igtk : Option (List ℕ)) (g : Pairs) (k : GroupKey) (o : Option GroupKey) (s : Sending) (xs : List (ℕ × Station)) → last_draw d first < draw_end → AreFirst d (Ap a) first key igtk g k o → drawn ≡ drawn_after (protects d) first
    → s ≡ made k o → xs ≡ [] → StandsWith d first (the_state a drawn g s xs 0) [] (add (start_acts d first (Ap a)) [])
starts_with d first a drawn key igtk g k o s xs low w drawn_is sending_is none =
    let n = Ap a in
    let made_is : s ≡ made (placed groups.Gtk 0 (gtk d n first)) (first_igtk (protects d) d n first) = sending_is ∙ ap₂ made (first_is d n first key igtk g k o w) (beside_is d n first key igtk g k o w) in
    subst (λ (t : State). StandsWith d first t [] (add (start_acts d first n) [])) (sym (by drawn_is (group_is d n first key igtk g k o w) made_is none)) (starts d first a low)
  where
    by : {m n : ℕ} {x y : Pairs} {b c : Sending} {ys zs : List (ℕ × Station)} → m ≡ n → x ≡ y → b ≡ c → ys ≡ zs → the_state a m x b ys 0 ≡ the_state a n y c zs 0
    by e f i j = rw (e, f, i, j) refl

-- ---- what the code needs

-- the first draw number is below the end
pub first_low : (d : Domain) (first : ℕ) → last_draw d first < draw_end → first < draw_end
first_low d first low = number_low (protects d) first low

-- the first GTK has key id 1
pub id_one : (k : GroupKey) (key : List ℕ) (p : Pair) → k ≡ p.newest → p ≡ started groups.Gtk key → (1 ≤ k.id) × (k.id < 4)
id_one k key p newest first = subst (λ (x : GroupKey). (1 ≤ x.id) × (x.id < 4)) (sym (newest ∙ ap (λ (q : Pair). q.newest) first)) (omega arith, omega arith)

-- so it is as an access point has it
pub first_fits : (p : Pair) (key : List ℕ) (b : Bool) (first drawn : ℕ) → p ≡ started groups.Gtk key → drawn ≡ drawn_after b first → (p.newest.id < 4) × (1 ≤ p.newest.id) × (p.newest.place < drawn)
first_fits p key b first drawn is drawn_is =
    subst (λ (q : Pair). (q.newest.id < 4) × (1 ≤ q.newest.id) × (q.newest.place < drawn)) (sym is) (omega arith, omega arith, omega (arith, drawn_is, further b first))
