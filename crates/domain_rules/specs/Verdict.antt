-- What comes of a delivered frame: the first reason that applies, in the one order of reasons, or acceptance (profile).
use Rattle.std.specs.Prelude.{◌≡◌, ℕ, ◌+◌, Bool, true, false, not, ◌||◌, List, [], Option, Some, None, bytes_eq, if◌then◌else◌}
use Rattle.domain_base.specs.declared.names.Akm.{Akm}
use Rattle.domain_base.specs.declared.names.Akm.TheVariants.{FtPsk}
use Rattle.domain_base.specs.declared.names.Node.{Node}
use Rattle.domain_base.specs.declared.names.Node.TheVariants.{Ap, Sta}
use Rattle.air_frame.specs.Fields.{HeaderFields}
use Rattle.rsn_elements.specs.Elements.{ElementFields}
use Rattle.air_frame.specs.declared.frame.AirFault.{AirFault}
use Rattle.air_frame.specs.declared.frame.AirFault.TheVariants as air
use Rattle.eapol_key.specs.declared.messages.Message.{Message}
use Rattle.eapol_key.specs.declared.messages.Message.TheVariants.{M1, M2, M3, M4, G1, G2}
use Rattle.run_journal.specs.declared.domain.Domain.{Domain}
use Rattle.run_journal.specs.Events.{protects}
use Rattle.run_journal.specs.declared.acts.Kind.{Kind}
use Rattle.run_journal.specs.declared.acts.Kind.TheVariants as kind
use Rattle.run_journal.specs.declared.acts.Malformed.TheVariants as malformed
use Rattle.run_journal.specs.declared.acts.MalformedFrame.TheVariants as malformed_frame
use Rattle.run_journal.specs.declared.acts.Reason.{Reason}
use Rattle.run_journal.specs.declared.acts.Reason.TheVariants as reason
use Rattle.run_journal.specs.declared.acts.Outcome.{Outcome}
use Rattle.run_journal.specs.declared.acts.Outcome.TheVariants.{Accepted, Answered, Ignored, Refused}
use Rattle.run_journal.specs.declared.acts.Act.{Act}
use Rattle.run_journal.specs.declared.acts.GroupKind.TheVariants as groups
use Rattle.run_journal.specs.Acts.{Derivation, GroupKey}
use Rattle.run_journal.specs.Questions.{draws, session}
use Rattle.domain_rules.specs.Network.{address, bssid, peer_of, direction, goes_like, r0kh_id, inputs_at}
use Rattle.domain_rules.specs.Reading.{Management, KeyMessage, Reading, NoFrame, PassedOver, NoElements, Managed, NoKeyFrame, NoMessage, Keyed, Sealed, Acting}
use Rattle.domain_rules.specs.Facts.{Facts}
use Rattle.domain_rules.specs.PacketNumbers.{OpenKey}
use Rattle.run_journal.specs.Addresses.{is_group}
use Rattle.domain_rules.specs.DataVerdict.{opened_by, data_verdict, unsealed, IsOpened}
use Rattle.domain_rules.specs.ManagementFrames.{integrity_key, action_verdict, action_further}
use Rattle.domain_rules.specs.IntegrityKeys.{IsGot}
use Rattle.domain_rules.specs.Associating.{management_verdict}
use Rattle.domain_rules.specs.AccessPointKeys.{m2_verdict, m4_verdict, g2_verdict, requested_rsne, m2_key_data, IsRequested, KnowsM2}
use Rattle.domain_rules.specs.FastTransition.{r1_name, to_unwrap, igtk_to_unwrap}
use Rattle.domain_rules.specs.TransitionKeys.{ft_req_further, re_req_further, re_resp_keying, re_resp_further, KnowsGtk}
use Rattle.domain_rules.specs.TransitionKeyData.{response, ft_m2_key_data, ft_m3_wrapped}
use Rattle.domain_rules.specs.StationKeys.{m1_verdict, Keying, m3_keying, m3_verdict, m3_wrapped, g1_verdict, g1_wrapped, KnowsM3}

-- an EAPOL-Key message from p at a node that has drawn so often
abbrev pub key_verdict : Domain → ℕ → Node → List Act → Node → KeyMessage → Message → Outcome
key_verdict d drawn (Sta s) h p k M1 = m1_verdict d drawn h p k
key_verdict d drawn (Ap a) h p k M2 = m2_verdict d (Ap a) h p k
key_verdict d drawn (Sta s) h p k M3 = m3_verdict d h p k
key_verdict d drawn (Ap a) h p k M4 = m4_verdict d h p k
key_verdict d drawn (Sta s) h p k G1 = g1_verdict d h p k
key_verdict d drawn (Ap a) h p k G2 = g2_verdict d h p k
key_verdict d drawn n h p k _ = Refused reason.Unawaited

-- refused where the sender is no listed node of the other kind (IEEE Std 802.11-2020, 9.2.4.3, profile)
abbrev pub from_peer : Option Node → (Node → Outcome) → Outcome
from_peer None then_ = Refused reason.UnknownPeer
from_peer (Some p) then_ = then_ p

-- the sender of a management frame, where its A3 is the access point's address (IEEE Std 802.11-2020, 9.2.4.3, profile)
abbrev pub sender_in : Domain → Node → HeaderFields → Option Node → Option Node
sender_in d n h None = None
sender_in d n h (Some p) = if bytes_eq h.a3 (bssid d n p) then Some p else None

-- the sender of a management frame: a listed node of the other kind (IEEE Std 802.11-2020, 9.2.4.3, profile)
abbrev pub management_sender : Domain → Node → HeaderFields → Option Node
management_sender d n h = sender_in d n h (peer_of d n h.a2)

-- a frame is for this node (IEEE Std 802.11-2020, 9.2.4.3, profile)
abbrev pub is_mine : Domain → Node → HeaderFields → Bool
is_mine d n h = bytes_eq h.a1 (address d n)

-- protected data is for the node, or at a station for a group; so is an Action frame, which at an access point is never for
-- it (IEEE Std 802.11-2020, 9.2.4.3, profile)
abbrev pub is_mine_or_group : Domain → Node → HeaderFields → Bool
is_mine_or_group d (Ap a) h = is_mine d (Ap a) h
is_mine_or_group d (Sta s) h = is_mine d (Sta s) h || is_group h.a1

-- what the air reader's fault is refused as
abbrev pub air_reason : AirFault → Reason
air_reason (air.OutOfProfile code) = reason.OutOfProfile code
air_reason (air.Short place) = reason.Malformed (malformed.Air (malformed_frame.Short place))
air_reason air.Version = reason.Malformed (malformed.Air malformed_frame.Version)
air_reason (air.Body place) = reason.Malformed (malformed.Air (malformed_frame.Body place))

-- What comes of a frame at node n, which began to draw at number `first`, by its history h, as far as the frame alone
-- and the history decide.
abbrev pub first_verdict : Domain → ℕ → Node → List Act → Reading → Outcome
first_verdict d first n h (NoFrame fault) = Refused (air_reason fault)
first_verdict d first n h PassedOver = Ignored
first_verdict d first n h (NoElements b fault) = Refused (reason.Malformed (malformed.Elements fault))
first_verdict d first n h (NoKeyFrame header fault) = Refused (reason.Malformed (malformed.Key fault))
first_verdict d first n h (NoMessage header) = Refused (reason.OutOfProfile 19)
first_verdict d first n h (Managed b e) =
    if not (is_mine d n b.header) then Refused reason.NotForMe
    else from_peer (management_sender d n b.header) (λ p. management_verdict d (first + draws h) n h p b.kind b e)
first_verdict d first n h (Keyed k) =
    if not (is_mine d n k.header) || goes_like k.direction (direction n) then Refused reason.NotForMe
    else from_peer (peer_of d n k.header.a2) (λ p. key_verdict d (first + draws h) n h p k k.message)
first_verdict d first n h (Sealed header way tid body) =
    if not (is_mine_or_group d n header) || goes_like way (direction n) then Refused reason.NotForMe
    else from_peer (peer_of d n header.a2) (λ p. data_verdict n h p header tid body)
first_verdict d first n h (Acting header body) =
    if not (is_mine_or_group d n header) then Refused reason.NotForMe
    else from_peer (management_sender d n header) (λ p. action_verdict h p body)

-- PMKR1Name of an access point that is the R0KH of its station p (IEEE Std 802.11-2020, 13.4.2, profile)
abbrev pub own_r1_name : Domain → Node → Node → List ℕ
own_r1_name d n p = r1_name (inputs_at d n p (r0kh_id d n) [] [])

-- M2 by what reading further tells of it; with suite 4 by PMKR1Name too (IEEE Std 802.11-2020, 13.4.2, profile)
abbrev pub m2_further : Akm → Domain → Node → Node → Facts → Outcome
m2_further FtPsk d n p facts = ft_m2_key_data d n (own_r1_name d n p) facts.requested facts.data_
m2_further _ d n p facts = m2_key_data (requested_rsne facts.requested) facts.data_

-- M3, by the key under which it is judged (IEEE Std 802.11-2020, 13.4.2, profile)
abbrev pub m3_further : Akm → Domain → Option Keying → Facts → Outcome
m3_further FtPsk d (Some y) facts = ft_m3_wrapped d (r1_name y.key.inputs) facts.responded facts.unwrapped facts.data_
m3_further akm d y facts = m3_wrapped akm d facts.unwrapped facts.data_

-- what comes of a message from p by what reading further tells of it
abbrev pub key_further : Domain → Node → List Act → Node → KeyMessage → Message → Facts → Outcome
key_further d n h p k M2 facts = m2_further d.akm d n p facts
key_further d n h p k M3 facts = m3_further d.akm d (m3_keying p h k) facts
key_further d n h p k G1 facts = g1_wrapped d facts.unwrapped facts.data_
key_further d n h p k _ facts = Accepted

-- what further reading comes to of a management frame
abbrev pub management_further : Domain → ℕ → Node → List Act → Node → Management → ElementFields → Facts → Kind → Outcome
management_further d drawn (Ap a) h p b e facts kind.FtReq = ft_req_further drawn h p e facts.pulled
management_further d drawn (Ap a) h p b e facts kind.ReReq = re_req_further d (Ap a) h p e
management_further d drawn (Sta s) h p b e facts kind.ReResp = re_resp_further d (Sta s) h p b e facts.unwrapped facts.unwrapped_igtk
management_further d drawn n h p b e facts _ = Accepted

-- what further reading comes to, where the frame has a sender
abbrev pub further_from : Option Node → (Node → Outcome) → Outcome
further_from None then_ = Accepted
further_from (Some p) then_ = then_ p

-- what further reading comes to, by what the frame is
abbrev pub further : Domain → ℕ → Node → List Act → Reading → Facts → Outcome
further d first n h (Keyed k) facts = further_from (peer_of d n k.header.a2) (λ p. key_further d n h p k k.message facts)
further d first n h (Managed b e) facts =
    further_from (management_sender d n b.header) (λ p. management_further d (first + draws h) n h p b e facts b.kind)
further d first n h (Sealed header way tid body) facts = unsealed facts.opened
further d first n h (Acting header body) facts =
    further_from (management_sender d n header) (λ p. action_further h p header body facts.kept)
further d first n h _ facts = Accepted

-- an acceptance or an answer stands where further reading refuses nothing
abbrev pub unless_refused : Outcome → Outcome → Outcome
unless_refused outcome (Refused why) = Refused why
unless_refused outcome _ = outcome

-- further reading decides only where nothing before it refused the frame
abbrev pub and_then : Outcome → Outcome → Outcome
and_then Accepted then_ = unless_refused Accepted then_
and_then Answered then_ = unless_refused Answered then_
and_then outcome then_ = outcome

-- what comes of the frame: the first reason that applies
abbrev pub verdict : Domain → ℕ → Node → List Act → Reading → Facts → Outcome
verdict d first n h r facts = and_then (first_verdict d first n h r) (further d first n h r facts)

-- the facts are right, as far as the message needs them. What a key holder gives is free
abbrev pub KnowsOf : Akm → List Act → Node → Message → KeyMessage → Facts → Type 0
KnowsOf akm h p M2 k facts = KnowsM2 akm h p k facts
KnowsOf akm h p M3 k facts = (y : Keying) → m3_keying p h k ≡ Some y → KnowsM3 y.key.ptk.kek k facts
KnowsOf akm h p G1 k facts = (x : Derivation) → session p h ≡ Some x → KnowsM3 x.ptk.kek k facts
KnowsOf akm h p _ k facts = Unit {0}

-- with suite 4 what the association response says too, which M1 and M3 are taken by (IEEE Std 802.11-2020, 13.4.2,
-- profile)
abbrev pub KnowsResponse : Akm → List Act → Node → Message → Facts → Type 0
KnowsResponse FtPsk h p M1 facts = IsRequested FtPsk (response p h) facts.responded
KnowsResponse FtPsk h p M3 facts = IsRequested FtPsk (response p h) facts.responded
KnowsResponse akm h p m facts = Unit {0}

-- of a management frame, the group keys without their wraps (IEEE Std 802.11-2020, 13.8.5, profile)
abbrev pub KnowsManaged : Domain → Node → List Act → Node → ElementFields → Facts → Kind → Type 0
KnowsManaged d (Sta s) h p e facts kind.ReResp =
    KnowsGtk (re_resp_keying p h) (to_unwrap e.fte) facts.unwrapped × KnowsGtk (re_resp_keying p h) (igtk_to_unwrap (protects d) e.fte) facts.unwrapped_igtk
KnowsManaged d n h p e facts _ = Unit {0}

-- what further reading tells of a frame of a listed node of the other kind
abbrev pub KnowsFrom : Domain → Node → List Act → Reading → Facts → Type 0
KnowsFrom d n h (Keyed k) facts =
    (p : Node) → peer_of d n k.header.a2 ≡ Some p → KnowsOf d.akm h p k.message k facts × KnowsResponse d.akm h p k.message facts
KnowsFrom d n h (Managed b e) facts = (p : Node) → management_sender d n b.header ≡ Some p → KnowsManaged d n h p e facts b.kind
KnowsFrom d n h (Sealed header way tid body) facts = (p : Node) → peer_of d n header.a2 ≡ Some p → (k : OpenKey) → opened_by n h p header tid body ≡ Some k → IsOpened k.key k.id header.octets body facts.opened
KnowsFrom d n h (Acting header body) facts =
    (p : Node) → management_sender d n header ≡ Some p → (g : GroupKey) → integrity_key p h body ≡ Some g → IsGot groups.Igtk p g.key g.id h facts.kept
KnowsFrom d n h _ facts = Unit {0}

-- the frame comes so far that they are asked: all that is tried up to its MIC, or before its seal, holds
abbrev pub comes_so_far : Outcome → Bool
comes_so_far Accepted = true
comes_so_far Answered = true
comes_so_far _ = false

abbrev pub ComesSoFar : Outcome → Type 0
ComesSoFar Accepted = Unit {0}
ComesSoFar Answered = Unit {0}
ComesSoFar _ = ⊥

-- and are asked only where the frame comes so far
abbrev pub Knows : Domain → ℕ → Node → List Act → Reading → Facts → Type 0
Knows d first n h r facts = ComesSoFar (first_verdict d first n h r) → KnowsFrom d n h r facts
