-- Which histories a supplicant stands for. The exchange is that of IEEE Std 802.11-2020, 12.7.6 (IEEE Std 802.11-2020,
-- 12.7.6, profile).
use Rattle.std.specs.Prelude.{◌≡◌, ℕ, true, List, Option, Some, None, option_map, is_some}
use Rattle.domain_base.specs.declared.names.Akm.{Akm}
use Rattle.domain_base.specs.declared.names.Akm.TheVariants.{FtPsk}
use Rattle.domain_base.specs.declared.names.Node.{Node}
use Rattle.rsn_elements.specs.Elements.{ElementFields}
use Rattle.eapol_key.specs.declared.messages.Message.TheVariants.{M1}
use Rattle.run_journal.specs.declared.domain.Domain.{Domain}
use Rattle.run_journal.specs.declared.acts.Kind.TheVariants.{AssocResp, Key}
use Rattle.run_journal.specs.declared.acts.Act.{Act}
use Rattle.run_journal.specs.declared.reply.Keyed.{Keyed}
use Rattle.run_journal.specs.Acts.{Derivation}
use Rattle.run_journal.specs.Questions.{attempt, since, chain, heard, own_nonce, derivation, session}
use Rattle.key_hierarchy.specs.declared.inputs.Ptk.{Ptk}
use Rattle.domain_rules.specs.Asking.{has_four_way, is_roam, by_connect, is_by_roam, is_by_renewal, session_start, has_heard, kept_counter}
use Rattle.domain_rules.specs.Replies.{key_by}
use Rattle.domain_rules.specs.Network.{renews, root_at, station_of}
use Rattle.domain_rules.specs.AccessPointKeys.{IsRequested}
use Rattle.domain_rules.specs.TransitionKeyData.{responded_fte, responded_r0kh_id}
use Rattle.node_base.specs.Ends.{AreEnds}
use Rattle.supplicant.specs.declared.base.Base.{Base}
use Rattle.supplicant.specs.declared.attempt.Attempt.{Attempt}
use Rattle.supplicant.specs.declared.session.Session.{Session}
use Rattle.supplicant.specs.declared.session.Session.TheVariants.{Connect, Ft}
use Rattle.supplicant.specs.Bases.{IsBaseOf, fte_in}
use Rattle.supplicant.specs.State.{State}

-- with suite 4 the association response said that FTE and that R0KH-ID (12.7.6, 13.4.2, profile)
abbrev pub Responds : Akm → Option (List ℕ) → Option ElementFields → Base → Type 0
Responds FtPsk octets says b =
    IsRequested FtPsk octets says × (responded_fte says ≡ Some (fte_in b)) × (b.r0kh_id ≡ responded_r0kh_id says)
Responds _ octets says b = says ≡ None

-- the base is that of the association whose history this part is (12.7.6, 13.4.2, profile)
pub record IsBased (d : Domain) (n p : Node) (b : Base) (part : List Act) : Type 0 where
  pub of : IsBaseOf d n p (fte_in b) b
  pub says : Option ElementFields
  pub responds : Responds d.akm (heard p AssocResp part) says b

-- the attempt is under way: it began by association, whose response was accepted, and in it no M3 and no G1 was
-- accepted or answered (12.7.6, 13.4.2, profile)
pub record IsUnderWay (d : Domain) (n p : Node) (b : Base) (snonce : List ℕ) (key : Option Keyed) (h : List Act) : Type 0 where
  pub part : List Act
  pub is : attempt p h ≡ Some part
  pub begun : by_connect part ≡ true
  pub nonce : own_nonce part ≡ Some snonce
  pub hears : has_heard p AssocResp part ≡ true
  pub based : IsBased d n p b part
  pub keeps : kept_counter p part ≡ None
  pub asked : has_heard p (Key M1) part ≡ is_some key
  pub keyed : derivation p part ≡ option_map (key_by d (root_at d (station_of n p) b.r0kh_id) n p) key

-- the attempt renews the key of a session, by an M1 that was accepted (12.7.6, profile)
pub record IsRenewing (d : Domain) (n p : Node) (b : Base) (snonce : List ℕ) (key : Option Keyed) (h : List Act) : Type 0 where
  pub part : List Act
  pub is : attempt p h ≡ Some part
  pub begun : is_by_renewal part ≡ true
  pub nonce : own_nonce part ≡ Some snonce
  pub has : is_some key ≡ true
  pub keyed : derivation p part ≡ option_map (key_by d (root_at d (station_of n p) b.r0kh_id) n p) key
  pub renewed : renews d ≡ true

-- the session is held: it began by a four-way handshake. Its counter is that of its chain of attempts and sessions
-- (12.7.6, 13.4.2, profile)
pub record IsHeld (d : Domain) (n p : Node) (b : Base) (key : Keyed) (counter : ℕ) (h : List Act) : Type 0 where
  pub is : session p h ≡ Some (key_by d (root_at d (station_of n p) b.r0kh_id) n p key)
  pub begun : has_four_way (session_start p h) ≡ true
  pub based : IsBased d n p b (since p h)
  pub keeps : kept_counter p (chain p h) ≡ Some counter

-- the session is held: it came of a fast transition, and no attempt was begun since (12.7.6, 13.4.2, profile)
pub record IsTransferred (p : Node) (ptk : Ptk) (counter : Option ℕ) (h : List Act) : Type 0 where
  pub x : Derivation
  pub is : session p h ≡ Some x
  pub key : x.ptk ≡ ptk
  pub begun : is_roam (session_start p h) ≡ true
  pub last : is_by_roam (since p h) ≡ true
  pub keeps : kept_counter p (since p h) ≡ counter

-- the history has that attempt: beside a session it renews the key of that (profile)
abbrev pub IsTrying : Domain → Node → Node → Base → Option Session → Attempt → List Act → Type 0
IsTrying d n p b None a h = IsUnderWay d n p b a.snonce a.key h
IsTrying d n p b (Some x) a h = IsRenewing d n p b a.snonce a.key h

-- or none (profile)
abbrev pub HasAttempt : Domain → Node → Node → Base → Option Session → Option Attempt → List Act → Type 0
HasAttempt d n p b x None h = attempt p h ≡ None
HasAttempt d n p b x (Some a) h = IsTrying d n p b x a h

-- the history has that session, however it came (profile)
abbrev pub Holds : Domain → Node → Node → Base → Session → List Act → Type 0
Holds d n p b (Connect key counter) h = IsHeld d n p b key counter h
Holds d n p b (Ft ptk counter) h = IsTransferred p ptk counter h

-- the history has that session, or none (profile)
abbrev pub HasSession : Domain → Node → Node → Base → Option Session → List Act → Type 0
HasSession d n p b None h = session p h ≡ None
HasSession d n p b (Some x) h = Holds d n p b x h

-- the supplicant of node n with its peer p stands for the history of n (12.7.6, 13.4.2, profile)
pub record SupplicantStands (d : Domain) (n p : Node) (s : State) (h : List Act) : Type 0 where
  pub ends : AreEnds d n p s.ends
  pub attempt_is : HasAttempt d n p s.base s.session s.attempt h
  pub session_is : HasSession d n p s.base s.session h
