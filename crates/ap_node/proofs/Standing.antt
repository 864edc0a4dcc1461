-- How an access point goes on to stand for the history with more acts.
use Rattle.std.specs.Prelude.{◌==◌}
use Rattle.std.proofs.Common.{◌≡◌, ◌≢◌, ℕ, ◌+◌, ◌≤◌, Bool, true, false, cond, List, length, Option, Some, None, is_some, refl, sym, ap, ap₂, subst, ◌∙◌, inl, inr, arith}
use Rattle.domain_base.specs.declared.names.Node.{Node}
use Rattle.domain_base.specs.declared.names.Node.TheVariants.{Ap, Sta}
use Rattle.run_journal.specs.declared.domain.Domain.{Domain}
use Rattle.run_journal.specs.declared.acts.Act.{Act}
use Rattle.run_journal.specs.Acts.{same}
use Rattle.run_journal.specs.Acts.{Derivation}
use Rattle.run_journal.specs.Events.{protects}
use Rattle.run_journal.specs.Questions.{session, group_uses, draws}
use Rattle.domain_rules.specs.Network.{draw_end, mac, direction}
use Rattle.domain_rules.proofs.Parts.{is_same, same-false}
use Rattle.group_key.specs.declared.keys.Pair.{Pair}
use Rattle.group_key.specs.Keys.{Pairs, IsInTurn}
use Rattle.group_key.specs.Holds.{HoldsIgtk, HoldsAll}
use Rattle.group_key.specs.News.{IsNewest}
use Rattle.group_key.proofs.Drawing.{in_use, uses}
use Rattle.group_key.proofs.Newest.{igtk_in_use, held_newest}
use Rattle.run_journal.specs.declared.acts.GroupKind.TheVariants as groups
use Rattle.domain_rules.specs.GroupKeys.{is_current, newest_uses}
use Rattle.domain_rules.specs.PacketNumbers.{SendKey}
use Rattle.node_base.specs.declared.ends.Ends.{Ends}
use Rattle.node_base.specs.Ends.{AreEnds}
use Rattle.authenticator.specs.Stands.{AuthenticatorStands}
use Rattle.authenticator.specs.State.{State as Part}
use Rattle.ccmp_guard.specs.Held.{Held}
use Rattle.authenticator.proofs.Standing.{stands_on, has_session as has_session_is}
use Rattle.ap_node.specs.declared.sending.Sending.{Sending}
use Rattle.ap_node.specs.declared.station.Station.{Station}
use Rattle.ap_node.specs.declared.station.Session.{Session as Kept}
use Rattle.ap_node.specs.State.{State, no_station, station_at, attempt_in, session_in, key_in, moves_in, has_session, key_by, newest_uses as uses_of, newest_announced as announced_of, newest_of}
use Rattle.ap_node.specs.InUse.{announced_in}
use Rattle.ap_node.specs.Counts.{owing_below}
use Rattle.ap_node.specs.Keys.{HasKey}
use Rattle.ap_node.specs.Stands.{IsTried, IsKept, HasPart, HoldsAnnouncing, HoldsInUse, StandsSoFar}
use Rattle.targets.specs.Stands.{HasMoves}
use Rattle.ap_node.proofs.Others.{IsFar, IsSame, IsSameGroup, holds_on, in_use_on, key_as}

-- ---- what there is with a station, as one authenticator

abbrev pub ends_of : Domain → Node → Node → Ends
ends_of d n p = record { akm = d.akm; version = d.extras.version; direction = direction n; own = mac d n; peer = mac d p; mfp = protects d }

pub are_ends : (d : Domain) (n p : Node) → AreEnds d n p (ends_of d n p)
are_ends d n p = record { akm = refl; direction_is = refl; own = refl; peer = refl; version = refl; mfp_is = refl }

abbrev pub part_with : Ends → Station → Part
part_with l x = record { ends = l; attempt = attempt_in x; session = session_in x }

-- it stands for the history with each ends that are theirs
pub stands_with : (d : Domain) (n : Node) (sta : ℕ) (l : Ends) (x : Station) (h : List Act) → AreEnds d n (Sta sta) l → HasPart d n sta x h → AuthenticatorStands d n (Sta sta) (part_with l x) h
stands_with d n sta l x h ends at = record { ends = ends; attempt_is = at.attempt_is; session_is = at.session_is }

pub part_of : (d : Domain) (n : Node) (sta : ℕ) (x : Station) (h : List Act) → HasPart d n sta x h → AuthenticatorStands d n (Sta sta) (part_with (ends_of d n (Sta sta)) x) h
part_of d n sta x h at = stands_with d n sta (ends_of d n (Sta sta)) x h (are_ends d n (Sta sta)) at

-- and back
pub has_part : (d : Domain) (n : Node) (sta : ℕ) (l : Ends) (x : Station) (h : List Act) → IsTried d n (Sta sta) x.attempt → IsKept d n (Sta sta) x.attempt x.session → AuthenticatorStands d n (Sta sta) (part_with l x) h
    → HasKey (Sta sta) (session (Sta sta) h) (key_in x) h → HasPart d n sta x h
has_part d n sta l x h tried kept stands key = record { tried = tried; kept = kept; attempt_is = stands.attempt_is; session_is = stands.session_is; key = key }

-- ---- acts that are not about a station

pub part_on : (d : Domain) (n : Node) (sta : ℕ) (x : Station) (old new : List Act) → IsFar (Sta sta) old new → HasPart d n sta x old → HasPart d n sta x new
part_on d n sta x old new far at =
    let l = ends_of d n (Sta sta) in
    has_part d n sta l x new at.tried at.kept (stands_on d n (Sta sta) (part_with l x) old new far.other (part_of d n sta x old at))
    (key_as (Sta sta) (session (Sta sta) old) (session (Sta sta) new) (key_in x) old new far.other.goes.has far.keeps_key at.key)

pub so_far_as_before : (d : Domain) (first : ℕ) (s : State) (old new : List Act) → IsSame old new → StandsSoFar d first s old → StandsSoFar d first s new
so_far_as_before d first s old new same stands = record {
  draws_are = stands.draws_are ∙ ap (λ (n : ℕ). first + n) (sym same.draws_are);
  draws_low = stands.draws_low;
  group_is = holds_on (protects d) s.group old new same.group stands.group_is;
  pending = stands.pending;
  sending_is = in_use_on (protects d) s.sending old new same.group stands.sending_is;
  listed = stands.listed;
  counted = stands.counted;
  parts = λ k. part_on d (Ap s.number) k (station_at s.stations k) old new (same.each (Sta k)) (stands.parts k);
  moves = λ k. (same.each (Sta k)).keeps_moves d (Ap s.number) (moves_in (station_at s.stations k)) (stands.moves k);
}

-- ---- acts about one station

with_one : (d : Domain) (n : Node) (old new : List Act) (was now : List (ℕ × Station)) (station k : ℕ) → HasPart d n station (station_at now station) new → ((i : ℕ) → i ≢ station → station_at now i ≡ station_at was i)
    → ((i : ℕ) → same (Sta i) (Sta station) ≡ false → IsFar (Sta i) old new) → HasPart d n k (station_at was k) old → HasPart d n k (station_at now k) new
with_one d n old new was now station k here others goes at =
    elim (is_same (Sta k) (Sta station)) [
      | inl same ↦
          let is : k ≡ station = cc same in
          subst (λ (i : ℕ). HasPart d n i (station_at now i) new) (sym is) here
      | inr other ↦
          let apart : k ≢ station = λ (e : k ≡ station). same-false (Sta k) (Sta station) other (ap Sta e) in
          subst (λ (x : Station). HasPart d n k x new) (sym (others k apart)) (part_on d n k (station_at was k) old new (goes k other) at)
    ]

moved_with : (d : Domain) (n : Node) (old new : List Act) (was now : List (ℕ × Station)) (station k : ℕ) → HasMoves d n (Sta station) (moves_in (station_at now station)) new → ((i : ℕ) → i ≢ station → station_at now i ≡ station_at was i)
    → ((i : ℕ) → same (Sta i) (Sta station) ≡ false → IsFar (Sta i) old new) → HasMoves d n (Sta k) (moves_in (station_at was k)) old → HasMoves d n (Sta k) (moves_in (station_at now k)) new
moved_with d n old new was now station k here others goes at =
    elim (is_same (Sta k) (Sta station)) [
      | inl same ↦
          let is : k ≡ station = cc same in
          subst (λ (i : ℕ). HasMoves d n (Sta i) (moves_in (station_at now i)) new) (sym is) here
      | inr other ↦
          let apart : k ≢ station = λ (e : k ≡ station). same-false (Sta k) (Sta station) other (ap Sta e) in
          subst (λ (x : Station). HasMoves d n (Sta k) (moves_in x) new) (sym (others k apart)) ((goes k other).keeps_moves d n (moves_in (station_at was k)) at)
    ]

listed_with : (m : ℕ) (was now : List (ℕ × Station)) (station k : ℕ) → (m ≤ station → station_at now station ≡ no_station) → ((i : ℕ) → i ≢ station → station_at now i ≡ station_at was i) → (m ≤ k → station_at was k ≡ no_station) → m ≤ k → station_at now k ≡ no_station
listed_with m was now station k here others at past =
    elim (is_same (Sta k) (Sta station)) [
      | inl same ↦
          let is : k ≡ station = cc same in
          subst (λ (i : ℕ). station_at now i ≡ no_station) (sym is) (here (subst (λ (i : ℕ). m ≤ i) is past))
      | inr other ↦
          let apart : k ≢ station = λ (e : k ≡ station). same-false (Sta k) (Sta station) other (ap Sta e) in
          others k apart ∙ at past
    ]

-- the access point after acts about one station
pub record IsAfter (d : Domain) (first : ℕ) (s t : State) (old new : List Act) (station : ℕ) : Type 0 where
  pub number : t.number ≡ s.number
  pub drawn : t.drawn ≡ first + draws new
  pub drawn_low : t.drawn ≤ draw_end
  pub group : t.group ≡ s.group
  pub sending : t.sending ≡ s.sending
  pub listed : length d.stas ≤ station → station_at t.stations station ≡ no_station
  pub counted : t.owing ≡ owing_below s.group.gtk.newest.place t.stations (length d.stas)
  pub same_group : IsSameGroup old new
  pub here : HasPart d (Ap s.number) station (station_at t.stations station) new
  pub others : (k : ℕ) → k ≢ station → station_at t.stations k ≡ station_at s.stations k
  pub goes : (k : ℕ) → same (Sta k) (Sta station) ≡ false → IsFar (Sta k) old new
  pub moves : HasMoves d (Ap s.number) (Sta station) (moves_in (station_at t.stations station)) new

pub stands_with_one : (d : Domain) (first : ℕ) (s t : State) (old new : List Act) (station : ℕ) → StandsSoFar d first s old → IsAfter d first s t old new station → StandsSoFar d first t new
stands_with_one d first s t old new station stands w = record {
  draws_are = w.drawn;
  draws_low = w.drawn_low;
  group_is = subst (λ (g : Pairs). HoldsAll (protects d) g new) (sym w.group) (holds_on (protects d) s.group old new w.same_group stands.group_is);
  pending = subst (λ (g : Pairs). IsInTurn g.gtk) (sym w.group) stands.pending;
  sending_is = subst (λ (k : Sending). HoldsInUse (protects d) k new) (sym w.sending) (in_use_on (protects d) s.sending old new w.same_group stands.sending_is);
  listed = λ k past. listed_with (length d.stas) s.stations t.stations station k w.listed w.others (stands.listed k) past;
  counted = w.counted ∙ ap (λ (g : Pairs). owing_below g.gtk.newest.place t.stations (length d.stas)) (sym w.group);
  parts = λ k. subst (λ (a : ℕ). HasPart d (Ap a) k (station_at t.stations k) new) (sym w.number)
      (with_one d (Ap s.number) old new s.stations t.stations station k w.here w.others w.goes (stands.parts k));
  moves = λ k. subst (λ (a : ℕ). HasMoves d (Ap a) (Sta k) (moves_in (station_at t.stations k)) new) (sym w.number)
      (moved_with d (Ap s.number) old new s.stations t.stations station k w.moves w.others w.goes (stands.moves k));
}

-- ---- what there is with a station

-- the history has a session where there is one
same_key : (p : Node) (o : Option Derivation) (k : Option Held) (h : List Act) → HasKey p o k h → is_some o ≡ is_some k
same_key p None None h at = refl
same_key p None (Some k) h at = absurd at
same_key p (Some x) None h at = absurd at
same_key p (Some x) (Some k) h at = refl

key_of : (s : Option Kept) → is_some (key_by s) ≡ is_some s
key_of None = refl
key_of (Some s) = refl

pub any_session : (d : Domain) (n : Node) (sta : ℕ) (x : Station) (h : List Act) → HasPart d n sta x h → is_some (session (Sta sta) h) ≡ has_session x
any_session d n sta x h at = same_key (Sta sta) (session (Sta sta) h) (key_in x) h at.key ∙ key_of x.session

-- and so it is that of the part
pub session_there : (d : Domain) (n : Node) (sta : ℕ) (x : Station) (h : List Act) → HasPart d n sta x h → has_session x ≡ is_some (session_in x)
session_there d n sta x h at = sym (any_session d n sta x h at) ∙ has_session_is d n (Sta sta) (session_in x) h at.session_is

-- ---- the newest group keys

-- as many packet numbers were used under the GTK as the access point counts
uses_are : (d : Domain) (first : ℕ) (s : State) (h : List Act) → StandsSoFar d first s h → newest_uses groups.Gtk h ≡ uses_of s
uses_are d first s h at = uses groups.Gtk s.group.gtk h at.group_is.gtk ∙ ap (λ (n : ℕ). cond (s.group.gtk.newest.place == s.group.gtk.current.place) n 0) (sym at.sending_is.gtk.used)

-- and under the IGTK, which is in use where the GTK is
pub igtk_current : (b : Bool) (s : Pairs) (h : List Act) → HoldsAll b s h → b ≡ true → is_current groups.Igtk h ≡ (s.gtk.newest.place == s.gtk.current.place)
igtk_current b s h holds is = by s.igtk refl (subst (λ (c : Bool). HoldsAll c s h) is holds)
  where
    by : (o : Option Pair) → s.igtk ≡ o → HoldsAll true s h → is_current groups.Igtk h ≡ (s.gtk.newest.place == s.gtk.current.place)
    by None none at = absurd (subst (λ (o : Option Pair). HoldsIgtk true o h) none at.igtk)
    by (Some t) some at = igtk_in_use s t h at some ∙ in_use groups.Gtk s.gtk h at.gtk

announced_held : (b : Bool) (o : Option SendKey) (h : List Act) → HoldsAnnouncing b o h → b ≡ true → group_uses groups.Igtk h ≡ announced_in o
announced_held false o h holds is = absurd (cc is)
announced_held true None h holds is = absurd holds
announced_held true (Some k) h holds is = sym holds.used

announced_are : (d : Domain) (first : ℕ) (s : State) (h : List Act) → StandsSoFar d first s h → protects d ≡ true → newest_uses groups.Igtk h ≡ announced_of s
announced_are d first s h at is =
    ap₂ (λ (b : Bool) (n : ℕ). cond b n 0) (igtk_current (protects d) s.group h at.group_is is) (announced_held (protects d) s.sending.igtk h at.sending_is.igtk is)

-- they are those that messages carry
pub is_newest : (d : Domain) (first : ℕ) (s : State) (h : List Act) → StandsSoFar d first s h → IsNewest d (newest_of s) h
is_newest d first s h at = held_newest d s.group (uses_of s) (announced_of s) h at.group_is (uses_are d first s h at) (λ is. announced_are d first s h at is)

-- ---- the IGTK

igtk_there : (b : Bool) (o : Option Pair) (h : List Act) → HoldsIgtk b o h → is_some o ≡ b
igtk_there false None h holds = refl
igtk_there false (Some t) h holds = absurd holds
igtk_there true None h holds = absurd holds
igtk_there true (Some t) h holds = refl

-- there is one exactly where management frames are protected
pub has_igtk : (d : Domain) (first : ℕ) (s : State) (h : List Act) → StandsSoFar d first s h → is_some s.group.igtk ≡ protects d
has_igtk d first s h at = igtk_there (protects d) s.group.igtk h at.group_is.igtk

-- ---- draws

-- no more values were drawn than there are
pub draws_low : (d : Domain) (first : ℕ) (s : State) (h : List Act) → StandsSoFar d first s h → draws h ≤ draw_end
draws_low d first s h at = omega (arith, at.draws_are, at.draws_low)
