-- Whom a station has an attempt and a session with (profile).
use Rattle.std.specs.Prelude.{◌≡◌, ◌≢◌, ℕ, ◌+◌, ◌<◌, ◌==◌, nat_le, nat_lt, Bool, true, false, cond, not, ◌&&◌, List, length, Option, Some, None, is_some, Result, Ok, Err, if◌then◌else◌}
use Rattle.domain_base.specs.declared.names.Node.{Node}
use Rattle.domain_base.specs.declared.names.Node.TheVariants.{Ap}
use Rattle.key_hierarchy.specs.Sizes.{IsR0khId}
use Rattle.run_journal.specs.declared.domain.Domain.{Domain}
use Rattle.run_journal.specs.declared.acts.Why.{Why}
use Rattle.run_journal.specs.declared.acts.Why.TheVariants as why
use Rattle.run_journal.specs.declared.acts.Outcome.{Outcome}
use Rattle.run_journal.specs.declared.acts.Outcome.TheVariants.{Accepted as IsAccepted}
use Rattle.run_journal.specs.Questions.{or_else}
use Rattle.domain_rules.specs.Network.{renews, nonce, draw_end}
use Rattle.eapol_key.specs.declared.messages.Message.{Message}
use Rattle.eapol_key.specs.declared.messages.Message.TheVariants.{M1}
use Rattle.supplicant.specs.State.{is_renewing}
use Rattle.supplicant.specs.Taken.{may_renew}
use Rattle.ft_exchange.specs.State.{OriginatorState}
use Rattle.station_node.specs.declared.attempt.Attempt.{Attempt}
use Rattle.station_node.specs.declared.attempt.Association.{Association}
use Rattle.station_node.specs.declared.attempt.Association.TheVariants.{Requested, Accepted, Moving}
use Rattle.station_node.specs.declared.session.Session.{Session}

-- with whom a station has an attempt
abbrev pub peer_of_attempt : Option Attempt → Option Node
peer_of_attempt None = None
peer_of_attempt (Some a) = Some (Ap a.ap)

-- with whom a station has a session
abbrev pub peer_of_session : Option Session → Option Node
peer_of_session None = None
peer_of_session (Some x) = Some (Ap x.ap)

-- with whom a station has an attempt that renews the key of its session
abbrev pub peer_of_renewal : Option Session → Option Node
peer_of_renewal None = None
peer_of_renewal (Some x) = cond (is_renewing x.supplicant) (Some (Ap x.ap)) None

-- with whom it has an attempt, of whatever kind
abbrev pub peer_pending : Option Attempt → Option Session → Option Node
peer_pending a x = or_else (peer_of_attempt a) (peer_of_renewal x)

-- the peer, if any, is not that access point
abbrev pub IsElsewhere : Option Node → ℕ → Type 0
IsElsewhere o ap = o ≢ Some (Ap ap)

-- association was not requested of that access point
abbrev pub IsNotRequested : Option Attempt → ℕ → Type 0
IsNotRequested a ap = (v : List ℕ) → a ≢ Some (record { ap = ap; association = Requested v })

-- no fast transition to it is under way
abbrev pub IsNotMoving : Option Attempt → ℕ → Type 0
IsNotMoving a ap = (o : OriginatorState) → a ≢ Some (record { ap = ap; association = Moving o })

-- whether there is neither
abbrev pub has_neither : Option Attempt → Option Session → Bool
has_neither None None = true
has_neither a x = false

-- beside an association there is no session, beside a fast transition one with another access point
abbrev pub IsBeside : ℕ → Association → Option Session → Type 0
IsBeside ap (Requested snonce) x = x ≡ None
IsBeside ap (Accepted s) x = x ≡ None
IsBeside ap (Moving o) x = (z : Session) × (x ≡ Some z) × (z.ap ≢ ap)

-- whom a station has an attempt and a session with: one of each at most
abbrev pub IsAlone : Option Attempt → Option Session → Type 0
IsAlone None x = Unit {0}
IsAlone (Some a) x = IsBeside a.ap a.association x

-- the session is with that access point
abbrev pub is_with : Option Session → ℕ → Bool
is_with None ap = false
is_with (Some x) ap = x.ap == ap

-- the session is with that access point, and its key may be renewed
abbrev pub is_ready : Option Session → ℕ → Bool
is_ready None ap = false
is_ready (Some x) ap = (x.ap == ap) && may_renew x.supplicant

-- it is message 1 of the four-way handshake (12.7.6.2)
abbrev pub is_m1 : Message → Bool
is_m1 M1 = true
is_m1 _ = false

-- the message of that access point is an M1 by which a station begins to renew the key of its session (12.7.6.2, profile)
abbrev pub opens_by : Domain → Option Attempt → Option Session → ℕ → Message → Bool
opens_by d a x ap m = is_m1 m && (renews d && (not (is_some a) && is_ready x ap))

-- the nonce that a node draws next, where it has drawn so often and draws one more
abbrev pub next_drawn : Domain → Node → ℕ → Option (List ℕ)
next_drawn d n drawn = if nat_lt drawn draw_end then Some (nonce d n drawn) else None

-- how often it has drawn after an M1 of which that came, by which it may begin to renew a key
abbrev pub drawn_after : Outcome → ℕ → ℕ
drawn_after IsAccepted drawn = if nat_lt drawn draw_end then drawn + 1 else drawn
drawn_after _ drawn = drawn

-- from whose session a station that has drawn so often roams to that access point, or why it does not
abbrev pub roams_from : Option Session → ℕ → ℕ → Result ℕ Why
roams_from None ap drawn = Err why.NoSession
roams_from (Some x) ap drawn =
    if ap == x.ap then Err why.SamePeer else if nat_le draw_end drawn then Err why.Spent else Ok x.ap

-- which it does where that one is listed, and its R0KH-ID is one
abbrev pub CanRoam : Domain → ℕ → List ℕ → Type 0
CanRoam d current id = (current < length d.aps) × IsR0khId id
