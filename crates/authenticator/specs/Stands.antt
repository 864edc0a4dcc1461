-- Which histories an authenticator stands for. The exchange is that of IEEE Std 802.11-2020, 12.7.6, its replay
-- counters those of 12.7.2 (IEEE Std 802.11-2020, 12.7.6, profile).
use Rattle.std.specs.Prelude.{◌≡◌, ◌≤◌, ◌+◌, ◌-◌, ◌*◌, ℕ, suc, Bool, true, false, cond, List, length, Option, Some, None, is_some}
use Rattle.domain_base.specs.declared.names.Node.{Node}
use Rattle.eapol_key.specs.declared.messages.Message.TheVariants.{M1, M2, M3, G1, G2}
use Rattle.run_journal.specs.declared.domain.Domain.{Domain}
use Rattle.run_journal.specs.declared.acts.Kind.TheVariants.{Key, AssocReq}
use Rattle.run_journal.specs.declared.acts.Act.{Act}
use Rattle.run_journal.specs.Questions.{attempt, own_nonce, derivation, session, heard, before_sent, group_keys, handshake, draws}
use Rattle.run_journal.specs.declared.acts.GroupKind.TheVariants as groups
use Rattle.domain_rules.specs.Frames.{m3_key_data}
use Rattle.eapol_key.specs.KeyData.{padded}
use Rattle.run_journal.specs.Acts.{Derivation}
use Rattle.domain_rules.specs.Counters.{sent_count, next_in_session}
use Rattle.domain_rules.specs.Asking.{by_connect, is_by_roam, is_by_renewal, offered, has_heard}
use Rattle.domain_rules.specs.AccessPointKeys.{HasRsne, session_origin, request as last_request}
use Rattle.domain_rules.specs.Replies.{Pair, key_by}
use Rattle.group_key.specs.News.{carried_news, IsNewest}
use Rattle.node_base.specs.Ends.{AreEnds}
use Rattle.authenticator.specs.Agreed.{Agreed}
use Rattle.authenticator.specs.Associated.{Associated}
use Rattle.authenticator.specs.Counters.{listed}
use Rattle.authenticator.specs.Groups.{offers_for, sent_for, is_answered_for}
use Rattle.authenticator.specs.Bases.{own_pair, IsBaseOf}
use Rattle.authenticator.specs.State.{State}
use Rattle.authenticator.specs.declared.attempt.Attempt.{Attempt}
use Rattle.authenticator.specs.declared.counters.Offers.{Offers}
use Rattle.authenticator.specs.declared.counters.Offers.TheVariants.{Zero}
use Rattle.authenticator.specs.declared.session.Session.{Session}

-- the association is that of the request, where there is one: its RSNE, and what the keys go back to (12.7.6, profile)
pub record IsAssociationOf (d : Domain) (n p : Node) (a : Associated) (o : Option (List ℕ)) : Type 0 where
  pub request : List ℕ
  pub heard_last : o ≡ Some request
  pub rsne : HasRsne d.akm request (Some a.rsne)
  pub base : IsBaseOf d n p a.base

-- as the first M3 to p since its Opened was sent, these group keys were those drawn last, the GTK with its place, and so
-- many packet numbers were used under them (12.7.6, 12.7.7, profile)
pub record IsFirstM3 (d : Domain) (p : Node) (y : Agreed) (h : List Act) : Type 0 where
  pub past : List Act
  pub is : before_sent p (Key M3) h ≡ Some past
  pub newest : IsNewest d y.news past

-- from M2 on the key was derived and M3 was sent, before it neither (12.7.6, 12.7.7, profile)
abbrev pub IsAgreed : Pair → Option Agreed → Offers → List Act → List Act → Type 0
IsAgreed w None m3s part h = (m3s ≡ Zero) × (before_sent w.peer (Key M3) h ≡ None)
IsAgreed w (Some y) m3s part h =
    (derivation w.peer part ≡ Some (key_by w.domain w.root w.node w.peer y.key)) × IsFirstM3 w.domain w.peer y h
    × (padded y.plain ≡ m3_key_data w.domain w.node (key_by w.domain w.root w.node w.peer y.key) (carried_news y.news))

-- the attempt began by association, or to renew the key of a session (12.7.6, profile)
abbrev pub is_begun_by : Bool → List Act → Bool
is_begun_by false part = by_connect part
is_begun_by true part = is_by_renewal part

-- an attempt that renews the key of a session stands beside it (12.7.6, profile)
abbrev pub IsBeside : Bool → Option Derivation → Type 0
IsBeside false o = Unit {0}
IsBeside true o = is_some o ≡ true

-- the attempt is under way (12.7.6, 12.7.7, profile)
pub record IsUnderWay (d : Domain) (n p : Node) (a : Attempt) (h : List Act) : Type 0 where
  pub part : List Act
  pub is : attempt p h ≡ Some part
  pub begun : is_begun_by a.renews part ≡ true
  pub beside : IsBeside a.renews (session p h)
  pub nonce : own_nonce part ≡ Some a.anonce
  -- the replay counters of M1 and those of M3
  pub m1_offers : offered p M1 part ≡ listed a.m1s
  pub m3_offers : offered p M3 part ≡ listed a.m3s
  pub answered : has_heard p (Key M2) part ≡ is_some a.agreed
  pub agreed : IsAgreed (own_pair d n p) a.agreed a.m3s part h
  -- the association that it goes back to
  pub associated : IsAssociationOf d n p a.association (last_request p h)

-- how many replay counters an attempt that renews a key may still take, and the handshake for a group key after it: four
-- M1, four M3 and four G1, less those that it took (12.7.2, profile)
abbrev pub left_in : Node → Option (List Act) → ℕ
left_in p None = 0
left_in p (Some part) = cond (is_by_renewal part) (12 - (sent_count p M1 part + sent_count p M3 part)) 0

-- the replay counters of a session, and its handshake for the newest group key, which has that place in the order of
-- drawing (12.7.2, profile)
pub record CountsAt (p : Node) (s : Session) (place : ℕ) (h : List Act) : Type 0 where
  pub next : next_in_session p h ≡ suc s.last
  pub newest : length (group_keys groups.Gtk h) ≡ suc place
  pub drawn : s.place ≤ place
  pub offers : offered p G1 (handshake groups.Gtk p h) ≡ listed (offers_for place s)
  pub answered : has_heard p (Key G2) (handshake groups.Gtk p h) ≡ is_answered_for place s
  -- at most twelve for each value that was drawn: a group key is sent four times, and a nonce for an attempt that renews
  -- the key eight times, after which the group key is sent four times
  pub low : s.last + (4 + left_in p (attempt p h)) ≤ 12 * draws h + sent_for place s

pub record Counts (p : Node) (s : Session) (h : List Act) : Type 0 where
  pub place : ℕ
  pub here : CountsAt p s place h

-- the association request that the session with p goes back to, through all attempts that renewed its key (12.7.6, profile)
abbrev pub session_request : Node → List Act → Option (List ℕ)
session_request p h = heard p AssocReq (session_origin p h)

-- the association that a session goes back to; one by fast transition goes back to none (12.7.6, profile)
abbrev pub IsAssociated : Domain → Node → Node → Option Associated → Option (List ℕ) → Type 0
IsAssociated d n p None o = Unit {0}
IsAssociated d n p (Some a) o = IsAssociationOf d n p a o

-- the session is held, beside an attempt or without one (12.7.6, 12.7.7, profile)
pub record IsHeld (d : Domain) (n p : Node) (s : Session) (h : List Act) : Type 0 where
  pub x : Derivation
  pub is : session p h ≡ Some x
  pub key : x.ptk ≡ s.ptk
  pub counts : Counts p s h
  pub associated : IsAssociated d n p s.association (session_request p h)

-- there is no attempt with a four-way handshake: there is none, or it began by fast transition (profile)
abbrev pub IsNoConnect : Option (List Act) → Type 0
IsNoConnect None = Unit {0}
IsNoConnect (Some part) = is_by_roam part ≡ true

-- there is that attempt with a four-way handshake, or none (profile)
abbrev pub HasAttempt : Domain → Node → Node → Option Attempt → List Act → Type 0
HasAttempt d n p None h = IsNoConnect (attempt p h)
HasAttempt d n p (Some a) h = IsUnderWay d n p a h

-- the history has that session, or none (profile)
abbrev pub HasSession : Domain → Node → Node → Option Session → List Act → Type 0
HasSession d n p None h = session p h ≡ None
HasSession d n p (Some s) h = IsHeld d n p s h

-- the authenticator of node n with its peer p stands for the history of n (12.7.6, 12.7.7, profile)
pub record AuthenticatorStands (d : Domain) (n p : Node) (s : State) (h : List Act) : Type 0 where
  pub ends : AreEnds d n p s.ends
  pub attempt_is : HasAttempt d n p s.attempt h
  pub session_is : HasSession d n p s.session h
