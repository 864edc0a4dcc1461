-- Which histories an access point stands for (profile).
use Rattle.std.specs.Prelude.{◌≡◌, ◌⊎◌, Bool, true, false, ℕ, ◌≤◌, ◌+◌, List, length, Option, Some, None}
use Rattle.std.specs.List.{AllByRecursion}
use Rattle.domain_base.specs.declared.names.Node.{Node}
use Rattle.domain_base.specs.declared.names.Node.TheVariants.{Ap, Sta}
use Rattle.key_holders.specs.declared.rows.HeldRow.{HeldRow}
use Rattle.run_journal.specs.declared.domain.Domain.{Domain}
use Rattle.run_journal.specs.declared.acts.Act.{Act}
use Rattle.run_journal.specs.Questions.{session, draws}
use Rattle.run_journal.specs.Events.{protects}
use Rattle.domain_rules.specs.Network.{draw_end, renews}
use Rattle.domain_rules.specs.PacketNumbers.{SendKey}
use Rattle.held_rows.specs.Knows.{KnowsRows, moves_rows}
use Rattle.group_key.specs.Keys.{IsInTurn}
use Rattle.group_key.specs.Holds.{HoldsAll}
use Rattle.node_base.specs.Ends.{AreEnds}
use Rattle.authenticator.specs.Kinds.{Kinds, kinds}
use Rattle.authenticator.specs.Stands.{HasAttempt, HasSession}
use Rattle.data_frames.specs.Holding.{HoldsGroup, HoldsIntegrity}
use Rattle.targets.specs.Stands.{HasMoves}
use Rattle.ap_node.specs.declared.sending.Sending.{Sending}
use Rattle.ap_node.specs.declared.station.Station.{Station}
use Rattle.ap_node.specs.declared.station.Attempt.{Attempt as Trying}
use Rattle.ap_node.specs.declared.station.Attempt.TheVariants.{Association, Transition}
use Rattle.ap_node.specs.declared.station.Session.{Session as Kept}
use Rattle.ap_node.specs.State.{State, no_station, station_at, attempt_in, session_in, key_in, moves_in}
use Rattle.ap_node.specs.Keys.{HasKey}
use Rattle.ap_node.specs.Counts.{owing_below}
use Rattle.held_rows.specs.Looks.{IsNoLook}

-- the part of an attempt by association is with p, and has the attempt, which renews no key
abbrev pub IsTried : Domain → Node → Node → Option Trying → Type 0
IsTried d n p None = Unit {0}
IsTried d n p (Some (Association a)) = AreEnds d n p a.ends × ((kinds a).attempt ≡ Some false)
IsTried d n p (Some (Transition t)) = Unit {0}

-- an attempt renews the key of the session, and there is no other: in a network that renews keys
pub record IsRenewing (d : Domain) (o : Option Trying) (k : Kinds) : Type 0 where
  pub begun : k.attempt ≡ Some true
  pub alone : o ≡ None
  pub renewed : renews d ≡ true

-- in the part of a session there is no attempt but one that renews its key, and where keys are renewed it goes back to an
-- association
pub record IsOfSession (d : Domain) (o : Option Trying) (k : Kinds) : Type 0 where
  pub attempt : (k.attempt ≡ None) ⊎ IsRenewing d o k
  pub session : renews d ≡ true → k.session ≡ Some true

-- the part of a session is with p
abbrev pub IsKept : Domain → Node → Node → Option Trying → Option Kept → Type 0
IsKept d n p o None = Unit {0}
IsKept d n p o (Some s) = AreEnds d n p s.part.ends × IsOfSession d o (kinds s.part)

-- of node n there are that attempt by a four-way handshake with the station, or none, and that session and its key, or
-- none
pub record HasPart (d : Domain) (n : Node) (station : ℕ) (x : Station) (h : List Act) : Type 0 where
  pub tried : IsTried d n (Sta station) x.attempt
  pub kept : IsKept d n (Sta station) x.attempt x.session
  pub attempt_is : HasAttempt d n (Sta station) (attempt_in x) h
  pub session_is : HasSession d n (Sta station) (session_in x) h
  pub key : HasKey (Sta station) (session (Sta station) h) (key_in x) h

-- there is an IGTK in use, the current one, exactly where management frames are protected
abbrev pub HoldsAnnouncing : Bool → Option SendKey → List Act → Type 0
HoldsAnnouncing false None h = Unit {0}
HoldsAnnouncing false (Some k) h = ⊥
HoldsAnnouncing true None h = ⊥
HoldsAnnouncing true (Some k) h = HoldsIntegrity k h

-- the current group keys in use are those of the history
pub record HoldsInUse (protected : Bool) (s : Sending) (h : List Act) : Type 0 where
  pub gtk : HoldsGroup s.gtk h
  pub igtk : HoldsAnnouncing protected s.igtk h

-- the access point, which began to draw at number `first`, stands for the history, at whose end a switch to the newest group keys may
-- be to come
pub record StandsSoFar (d : Domain) (first : ℕ) (s : State) (h : List Act) : Type 0 where
  pub draws_are : s.drawn ≡ first + draws h
  pub draws_low : s.drawn ≤ draw_end
  pub group_is : HoldsAll (protects d) s.group h
  pub pending : IsInTurn s.group.gtk
  pub sending_is : HoldsInUse (protects d) s.sending h
  pub listed : (station : ℕ) → length d.stas ≤ station → station_at s.stations station ≡ no_station
  pub counted : s.owing ≡ owing_below s.group.gtk.newest.place s.stations (length d.stas)
  pub parts : (station : ℕ) → HasPart d (Ap s.number) station (station_at s.stations station) h
  pub moves : (station : ℕ) → HasMoves d (Ap s.number) (Sta station) (moves_in (station_at s.stations station)) h

-- no switch is to come: the newest group keys are in use, or a session owes an answer for them
abbrev pub IsSettled : State → Type 0
IsSettled s = (s.group.gtk.newest.place ≡ s.group.gtk.current.place) ⊎ (1 ≤ s.owing)

-- an act tells of no key holder that was asked, and changes no row of the own one
abbrev pub IsPlain : Act → Type 0
IsPlain e = IsNoLook e × (moves_rows e ≡ false)

-- each act is such
abbrev pub AllPlain : List Act → Type 0
AllPlain g = AllByRecursion IsPlain g

-- it stands for the history between two events
pub record Stands (d : Domain) (first : ℕ) (s : State) (h : List Act) : Type 0 where
  pub so_far : StandsSoFar d first s h
  pub settled : IsSettled s

-- and these rows of its own key holder are those of the history (IEEE Std 802.11-2020, 13.2.2, profile)
pub record StandsWith (d : Domain) (first : ℕ) (s : State) (xs : List HeldRow) (h : List Act) : Type 0 where
  pub stands : Stands d first s h
  pub rows : KnowsRows d (Ap s.number) xs h
