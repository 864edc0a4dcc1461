-- Which histories a station stands for (profile).
use Rattle.std.specs.Prelude.{◌≡◌, ℕ, ◌<◌, ◌+◌, true, false, List, length, Option, Some, None}
use Rattle.domain_base.specs.declared.names.Akm.TheVariants.{FtPsk}
use Rattle.domain_base.specs.declared.names.Node.{Node}
use Rattle.domain_base.specs.declared.names.Node.TheVariants.{Ap, Sta}
use Rattle.eapol_key.specs.declared.messages.Message.TheVariants.{M1}
use Rattle.run_journal.specs.declared.domain.Domain.{Domain}
use Rattle.run_journal.specs.declared.acts.Kind.TheVariants.{AssocResp, Key}
use Rattle.run_journal.specs.declared.acts.Act.{Act}
use Rattle.run_journal.specs.Questions.{attempt, since, own_nonce, derivation, session}
use Rattle.run_journal.specs.Questions.{pending, associated, draws}
use Rattle.run_journal.specs.Holders.{last_r0kh_id}
use Rattle.key_hierarchy.specs.Sizes.{IsR0khId}
use Rattle.domain_rules.specs.Asking.{by_connect, has_heard, kept_counter}
use Rattle.group_key.specs.Keys.{Memories}
use Rattle.group_key.specs.Holds.{RemembersAll}
use Rattle.ccmp_guard.specs.Held.{Held}
use Rattle.run_journal.specs.Acts.{Derivation}
use Rattle.data_frames.specs.Holding.{HoldsPairwise}
use Rattle.supplicant.specs.State.{State as SupplicantState}
use Rattle.supplicant.specs.Stands.{SupplicantStands}
use Rattle.supplicant.specs.Taken.{HaveGroupIds}
use Rattle.ft_exchange.specs.State.{OriginatorState}
use Rattle.ft_exchange.specs.Stands.{OriginatorStands}
use Rattle.station_node.specs.declared.attempt.Attempt.{Attempt}
use Rattle.station_node.specs.declared.attempt.Association.{Association}
use Rattle.station_node.specs.declared.attempt.Association.TheVariants.{Requested, Accepted, Moving}
use Rattle.station_node.specs.declared.session.Session.{Session}
use Rattle.station_node.specs.State.{State, memory_at}
use Rattle.station_node.specs.Parts.{peer_of_session, peer_pending, IsElsewhere, IsAlone}

-- association was requested of p in the attempt under that nonce, and not yet answered
pub record IsRequested (p : Node) (snonce : List ℕ) (h : List Act) : Type 0 where
  pub part : List Act
  pub is : attempt p h ≡ Some part
  pub begun : by_connect part ≡ true
  pub nonce : own_nonce part ≡ Some snonce
  pub hears : has_heard p AssocResp part ≡ false
  pub keeps : kept_counter p part ≡ None
  pub asked : has_heard p (Key M1) part ≡ false
  pub keyed : derivation p part ≡ None

-- with suite 4 it is an R0KH-ID
abbrev pub NamesHolder : Domain → List ℕ → Type 0
NamesHolder d id = d.akm ≡ FtPsk → IsR0khId id

-- association with access point ap was accepted
pub record IsAssociated (d : Domain) (n : Node) (ap : ℕ) (s : SupplicantState) (h : List Act) : Type 0 where
  pub stands : SupplicantStands d n (Ap ap) s h
  pub names : NamesHolder d s.base.r0kh_id

-- a fast transition to access point ap is under way, in which no M3 and no G1 was accepted or answered
pub record IsMoving (d : Domain) (n : Node) (ap : ℕ) (o : OriginatorState) (h : List Act) : Type 0 where
  pub stands : OriginatorStands d n (Ap ap) o h
  pub keeps : kept_counter (Ap ap) (since (Ap ap) h) ≡ None

-- an association that was requested, or one that was accepted
abbrev pub HasAssociation : Domain → Node → ℕ → Association → List Act → Type 0
HasAssociation d n ap (Requested snonce) h = IsRequested (Ap ap) snonce h
HasAssociation d n ap (Accepted s) h = IsAssociated d n ap s h
HasAssociation d n ap (Moving o) h = IsMoving d n ap o h

-- the history has that attempt, where there is one
abbrev pub HasAttempt : Domain → Node → Option Attempt → List Act → Type 0
HasAttempt d n None h = Unit {0}
HasAttempt d n (Some a) h = (a.ap < length d.aps) × HasAssociation d n a.ap a.association h

-- the pairwise key of the session with p is in use (IEEE Std 802.11-2020, 12.5.3, profile)
pub record IsKeyed (p : Node) (k : Held) (h : List Act) : Type 0 where
  pub key : Derivation
  pub is : session p h ≡ Some key
  pub holds : HoldsPairwise p key.ptk.tk k h

-- the session with access point ap (IEEE Std 802.11-2020, 12.5.3, profile)
pub record IsIn (d : Domain) (n : Node) (ap : ℕ) (s : SupplicantState) (k : Held) (h : List Act) : Type 0 where
  pub listed : ap < length d.aps
  pub stands : SupplicantStands d n (Ap ap) s h
  pub keyed : IsKeyed (Ap ap) k h

-- the history has that session, where there is one
abbrev pub HasSession : Domain → Node → Option Session → List Act → Type 0
HasSession d n None h = Unit {0}
HasSession d n (Some x) h = IsIn d n x.ap x.supplicant x.key h

-- with suite 4 the R0KH-ID of the last four-way handshake is kept in a session
abbrev pub IsHolder : Option Session → List ℕ → List Act → Type 0
IsHolder None id h = Unit {0}
IsHolder (Some x) id h = (last_r0kh_id h ≡ id) × IsR0khId id

-- the GTKs have key ids other than 0, which is that of pairwise keys
abbrev pub HaveIds : Memories → Type 0
HaveIds m = HaveGroupIds m.gtks

-- the station, which began to draw at number `first`, stands for the history
pub record Stands (d : Domain) (first : ℕ) (s : State) (h : List Act) : Type 0 where
  pub draws_are : s.drawn ≡ first + draws h
  pub pending_is : pending h ≡ peer_pending s.attempt s.session
  pub associated_is : associated h ≡ peer_of_session s.session
  pub alone : IsAlone s.attempt s.session
  pub attempt_is : HasAttempt d (Sta s.number) s.attempt h
  pub session_is : HasSession d (Sta s.number) s.session h
  pub no_attempt : (p : ℕ) → IsElsewhere (peer_pending s.attempt s.session) p → attempt (Ap p) h ≡ None
  pub no_session : (p : ℕ) → IsElsewhere (peer_of_session s.session) p → session (Ap p) h ≡ None
  pub remembers : (p : ℕ) → RemembersAll (Ap p) (memory_at s.memories p) h
  pub ids : (p : ℕ) → HaveIds (memory_at s.memories p)
  pub holder : d.akm ≡ FtPsk → IsHolder s.session s.r0kh_id h
