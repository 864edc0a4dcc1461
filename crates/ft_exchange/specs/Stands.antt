-- Which histories the parts of a fast transition stand for. The exchange is that of IEEE Std 802.11-2020, 13.8 (IEEE
-- Std 802.11-2020, 13.8, profile).
use Rattle.std.specs.Prelude.{◌≡◌, ℕ, Bool, true, false, List, Option, Some, None, is_some}
use Rattle.domain_base.specs.declared.names.Akm.TheVariants.{FtPsk}
use Rattle.domain_base.specs.declared.names.Node.{Node}
use Rattle.key_hierarchy.specs.FastTransition.{pmk_r0}
use Rattle.run_journal.specs.declared.domain.Domain.{Domain}
use Rattle.run_journal.specs.Events.{protects}
use Rattle.run_journal.specs.declared.acts.Kind.TheVariants as kind
use Rattle.run_journal.specs.declared.acts.Act.{Act}
use Rattle.run_journal.specs.Questions.{attempt, own_nonce, derivation, associated}
use Rattle.run_journal.specs.Holders.{first_stored, since_finished, last_r0kh_id}
use Rattle.domain_rules.specs.Network.{mac, psk_of, root_at, station_of}
use Rattle.domain_rules.specs.Frames.{aid}
use Rattle.domain_rules.specs.Asking.{is_by_roam, has_heard}
use Rattle.domain_rules.specs.Replies.{inputs_by, key_by}
use Rattle.domain_rules.specs.FastTransition.{r1_name}
use Rattle.domain_rules.specs.TransitionKeys.{Transition, transition, session_transition}
use Rattle.ft_exchange.specs.State.{OriginatorState, TargetState}
use Rattle.ft_exchange.specs.Told.{sent_seal}
use Rattle.ft_exchange.specs.declared.originator.Stage.{Stage}
use Rattle.ft_exchange.specs.declared.originator.Stage.TheVariants as stage
use Rattle.ft_exchange.specs.declared.originator.Transit.{Transit}
use Rattle.ft_exchange.specs.declared.place.Place.{Place}

-- ---- at a station

-- the key derived last in the attempt, with the name of what it was derived from
abbrev pub IsKeyed : Domain → Node → Node → List ℕ → Option Transit → List Act → Type 0
IsKeyed d n p id None part = Unit {0}
IsKeyed d n p id (Some t) part =
    (derivation p part ≡ Some (key_by d (root_at d (station_of n p) id) n p t.key)) × (t.name ≡ r1_name (inputs_by d (root_at d (station_of n p) id) n p t.key))

-- the attempt with p is under way: it began by fast transition, from a session with another access point; a response was accepted in it
-- exactly where there is a key
pub record IsUnderWay (d : Domain) (n p : Node) (s : OriginatorState) (t : Option Transit) (h : List Act) : Type 0 where
  pub q : Node
  pub from : associated h ≡ Some q
  pub current : s.current ≡ mac d q
  pub part : List Act
  pub is : attempt p h ≡ Some part
  pub begun : is_by_roam part ≡ true
  pub nonce : own_nonce part ≡ Some s.snonce
  pub hears : has_heard p kind.FtResp part ≡ is_some t
  pub keyed : IsKeyed d n p s.r0kh_id t part

-- how far an attempt came: a response was accepted and a key derived, or not
abbrev pub HasStage : Domain → Node → Node → OriginatorState → Stage → List Act → Type 0
HasStage d n p s stage.Asked h = IsUnderWay d n p s None h
HasStage d n p s (stage.Keyed t) h = IsUnderWay d n p s (Some t) h
HasStage d n p s stage.Done h = attempt p h ≡ None

-- the originator of station n with access point p stands for the history of n
pub record OriginatorStands (d : Domain) (n p : Node) (s : OriginatorState) (h : List Act) : Type 0 where
  pub suite : d.akm ≡ FtPsk
  pub mfp_is : s.mfp ≡ protects d
  pub own : s.own ≡ mac d n
  pub peer : s.peer ≡ mac d p
  pub ssid : s.ssid ≡ d.ssid
  pub mdid : s.mdid ≡ d.mdid
  pub r0kh_id : last_r0kh_id h ≡ s.r0kh_id
  pub r0 : s.r0 ≡ pmk_r0 (psk_of d n) d.ssid d.mdid s.r0kh_id (mac d n)
  pub stage_is : HasStage d n p s s.stage h

-- ---- at an access point

-- where access point n stands with station p (profile)
pub record IsPlace (d : Domain) (n p : Node) (w : Place) : Type 0 where
  pub own : w.own ≡ mac d n
  pub peer : w.peer ≡ mac d p
  pub aid_is : w.aid ≡ aid p
  pub mdid : w.mdid ≡ d.mdid
  pub mfp_is : w.mfp ≡ protects d

-- its key, what the station asked for, and the name that the key holder gave
abbrev pub transition_of : Domain → Node → Node → TargetState → Transition
transition_of d n p s = record { key = key_by d (root_at d (station_of n p) s.r0kh_id) n p s.key; asked = s.asked; r1_name = s.name }

-- the first response in the attempt is the stored one
pub record IsPending (d : Domain) (n p : Node) (s : TargetState) (h : List Act) : Type 0 where
  pub is : transition p h ≡ Some (transition_of d n p s)
  pub part : List Act
  pub awaited : attempt p h ≡ Some part
  pub stored : first_stored p kind.FtResp part ≡ Some (record { octets = s.stored; seal = None })

-- a target stands for the session that came of it
pub record IsHeld (d : Domain) (n p : Node) (s : TargetState) (h : List Act) : Type 0 where
  pub is : session_transition p h ≡ Some (transition_of d n p s)
  pub stored : first_stored p kind.ReResp (since_finished p h)
      ≡ Some (record { octets = s.stored; seal = sent_seal d n p kind.ReResp (Some s.key.ptk.kck) s.stored })

-- a target stands for the pending attempt, or for the session that came of one
abbrev pub IsHeldOrPending : Bool → Domain → Node → Node → TargetState → List Act → Type 0
IsHeldOrPending false d n p s h = IsPending d n p s h
IsHeldOrPending true d n p s h = IsHeld d n p s h

-- the target of access point n with station p stands for the history of n
pub record TargetStands (d : Domain) (n p : Node) (s : TargetState) (h : List Act) : Type 0 where
  pub suite : d.akm ≡ FtPsk
  pub place : IsPlace d n p s.place
  pub holds : IsHeldOrPending s.is_installed d n p s h

-- the pending target, where there is one, is not installed; else no attempt by fast transition is under way
abbrev pub PendingStands : Domain → Node → Node → Option TargetState → List Act → Type 0
PendingStands d n p None h = transition p h ≡ None
PendingStands d n p (Some s) h = (s.is_installed ≡ false) × TargetStands d n p s h
