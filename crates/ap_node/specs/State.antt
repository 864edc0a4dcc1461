-- What contracts see of an access point (profile).
use Rattle.std.specs.Prelude.{◌==◌, ◌||◌, ℕ, Bool, cond, List, Option, Some, None, is_some, unwrap_or}
use Rattle.std.specs.Map.{lookup}
use Rattle.std.specs.BTreeMap.{is_at}
use Rattle.std.specs.Ordering.{nat_cmp}
use Rattle.ccmp_guard.specs.Held.{Held}
use Rattle.group_key.specs.declared.news.News.{News}
use Rattle.group_key.specs.Keys.{Pairs}
use Rattle.group_key.specs.News.{newest_news}
use Rattle.authenticator.specs.Kinds.{abandoned}
use Rattle.authenticator.specs.State.{State as Part}
use Rattle.authenticator.specs.declared.attempt.Attempt.{Attempt}
use Rattle.authenticator.specs.declared.session.Session.{Session}
use Rattle.ft_exchange.specs.State.{TargetState}
use Rattle.targets.specs.declared.moves.Moves.{Moves}
use Rattle.ap_node.specs.declared.sending.Sending.{Sending}
use Rattle.ap_node.specs.declared.station.Station.{Station}
use Rattle.ap_node.specs.declared.station.Attempt.{Attempt as Trying}
use Rattle.ap_node.specs.declared.station.Attempt.TheVariants.{Association, Transition}
use Rattle.ap_node.specs.declared.station.Session.{Session as Kept}
use Rattle.ap_node.specs.InUse.{announced_in}

-- its place among the access points, the number of its next draw, its group keys, and the current ones in use. What it
-- has with stations, by their numbers and in their order, and how many of their sessions owe a G2 for the newest group
-- keys
pub record State : Type 0 where
  pub number : ℕ
  pub drawn : ℕ
  pub group : Pairs
  pub sending : Sending
  pub stations : List (ℕ × Station)
  pub owing : ℕ

-- neither an attempt nor a session
abbrev pub no_station : Station
no_station = record { attempt = None; session = None }

-- whether there is a place for that station
abbrev pub is_there : ℕ → List (ℕ × Station) → Bool
is_there station stations = is_some (lookup (is_at (nat_cmp station)) stations)

-- what it has with a station: nothing, where there is no place
abbrev pub station_at : List (ℕ × Station) → ℕ → Station
station_at stations station = unwrap_or (lookup (is_at (nat_cmp station)) stations) no_station

-- there is a session
abbrev pub has_session : Station → Bool
has_session x = is_some x.session

-- ---- the attempt

-- that which renews the key of the session: the part of the session has it
abbrev pub renewal_by : Option Kept → Option Attempt
renewal_by None = None
renewal_by (Some s) = s.part.attempt

-- by a four-way handshake: of the part of an attempt by association, and without an attempt beside the session that of
-- the session
abbrev pub attempt_by : Option Trying → Option Kept → Option Attempt
attempt_by None s = renewal_by s
attempt_by (Some (Association a)) s = a.attempt
attempt_by (Some (Transition t)) s = None

abbrev pub attempt_in : Station → Option Attempt
attempt_in x = attempt_by x.attempt x.session

-- an attempt is under way, of whatever kind
abbrev pub has_attempt : Station → Bool
has_attempt x = is_some x.attempt || is_some (renewal_by x.session)

-- the session without an attempt that renews its key
abbrev pub unrenewed : Option Kept → Option Kept
unrenewed None = None
unrenewed (Some s) = Some (record { part = abandoned s.part; key = s.key; came_of = s.came_of })

-- by fast transition
abbrev pub pending_by : Option Trying → Option TargetState
pending_by None = None
pending_by (Some (Association a)) = None
pending_by (Some (Transition t)) = Some t

-- without one by fast transition
abbrev pub associated : Option Trying → Option Trying
associated None = None
associated (Some (Association a)) = Some (Association a)
associated (Some (Transition t)) = None

-- one by fast transition takes the place of that
abbrev pub with_pending : Option TargetState → Option Trying → Option Trying
with_pending None o = o
with_pending (Some t) o = Some (Transition t)

-- ---- the session

abbrev pub session_by : Option Kept → Option Session
session_by None = None
session_by (Some s) = s.part.session

abbrev pub session_in : Station → Option Session
session_in x = session_by x.session

-- its key in use
abbrev pub key_by : Option Kept → Option Held
key_by None = None
key_by (Some s) = Some s.key

abbrev pub key_in : Station → Option Held
key_in x = key_by x.session

-- with that key in use
abbrev pub rekeyed : Option Held → Option Kept → Option Kept
rekeyed (Some k) (Some s) = Some (record { part = s.part; key = k; came_of = s.came_of })
rekeyed k o = o

abbrev pub with_key : Option Held → Station → Station
with_key k x = record { attempt = x.attempt; session = rekeyed k x.session }

-- the fast transition that it came of
abbrev pub held_by : Option Kept → Option TargetState
held_by None = None
held_by (Some s) = s.came_of

abbrev pub with_held : Option TargetState → Option Kept → Option Kept
with_held m None = None
with_held m (Some s) = Some (record { part = s.part; key = s.key; came_of = m })

abbrev pub without_held : Option Kept → Option Kept
without_held o = with_held None o

-- ---- both

-- the fast transitions
abbrev pub moves_in : Station → Moves
moves_in x = record { pending = pending_by x.attempt; held = held_by x.session }

abbrev pub without_moves : Station → Station
without_moves x = record { attempt = associated x.attempt; session = without_held x.session }

abbrev pub with_moves : Moves → Station → Station
with_moves m x = record { attempt = with_pending m.pending x.attempt; session = with_held m.held x.session }

-- with an attempt by association, whatever attempt there was
abbrev pub begun_over : Station → Part → Station
begun_over x part = record { attempt = Some (Association part); session = unrenewed x.session }

-- how many packet numbers were used under the newest GTK, and under the newest IGTK: none as long as others are current
abbrev pub newest_uses : State → ℕ
newest_uses s = cond (s.group.gtk.newest.place == s.group.gtk.current.place) s.sending.gtk.used 0

abbrev pub newest_announced : State → ℕ
newest_announced s = cond (s.group.gtk.newest.place == s.group.gtk.current.place) (announced_in s.sending.igtk) 0

-- the newest group keys, as messages carry them
abbrev pub newest_of : State → News
newest_of s = newest_news s.group (newest_uses s) (newest_announced s)
