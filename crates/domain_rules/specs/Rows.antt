-- What one event adds to the history of a node: its acts, in order. Frames are association request and response, M1 to
-- M4, G1 and G2, authentication and reassociation request and response of a fast transition, protected data, and Action
-- frames to a group. These are the rules of all three suites. A record for each row of the tables of events and of awaited messages; the acts
-- stand last (profile).
use Rattle.std.specs.Prelude.{◌≡◌, ℕ, cond, List, [], ◌∷◌, ◌++◌, Option, Some, None}
use Rattle.domain_base.specs.declared.names.Node.{Node}
use Rattle.domain_base.specs.declared.names.Node.TheVariants.{Ap, Sta}
use Rattle.domain_base.specs.declared.names.Peer.{Peer}
use Rattle.rsn_elements.specs.Elements.{ElementFields}
use Rattle.eapol_key.specs.declared.messages.Message.{Message}
use Rattle.eapol_key.specs.declared.messages.Message.TheVariants.{M2, M3, M4, G1, G2}
use Rattle.run_journal.specs.declared.domain.Domain.{Domain}
use Rattle.run_journal.specs.declared.acts.Kind.{Kind}
use Rattle.run_journal.specs.declared.acts.Kind.TheVariants as kind
use Rattle.run_journal.specs.declared.acts.Reason.{Reason}
use Rattle.run_journal.specs.declared.acts.Reason.TheVariants as reason
use Rattle.run_journal.specs.declared.acts.Outcome.{Outcome}
use Rattle.run_journal.specs.declared.acts.Outcome.TheVariants.{Ignored, Refused, Done}
use Rattle.run_journal.specs.declared.acts.Outcome.TheVariants.{Idle as IdleBy, GaveUp as GivenUp}
use Rattle.run_journal.specs.declared.acts.Seal.{Seal}
use Rattle.run_journal.specs.declared.acts.Act.{Act}
use Rattle.run_journal.specs.declared.acts.Act.TheVariants.{Took, GaveUp, Idle}
use Rattle.run_journal.specs.Questions.{attempt}
use Rattle.domain_rules.specs.Network.{peer_of}
use Rattle.domain_rules.specs.Reading.{Management, KeyMessage, Reading, Managed, Keyed, ReadsAt, kind_of}
use Rattle.domain_rules.specs.Frames.{sent_refusal}
use Rattle.domain_rules.specs.TransitionFrames.{sent_ft_refusal, sent_re_refusal}
use Rattle.domain_rules.specs.TransitionKeys.{re_req_seal, re_resp_seal}
use Rattle.domain_rules.specs.KeyHolders.{revoke_acts}
use Rattle.domain_rules.specs.ChangedKeys.{secret_acts}
use Rattle.domain_rules.specs.Facts.{Facts}
use Rattle.domain_rules.specs.Verdict.{Knows, management_sender, first_verdict, comes_so_far, verdict}
use Rattle.domain_rules.specs.AccessPointRows.{AssocReqRow, M2Row, M4Row, G2Row, m2_seal, m4_seal, g2_seal, retry_acts, RekeyRow, expire_acts}
use Rattle.domain_rules.specs.PairwiseRenewal.{RenewRow}
use Rattle.domain_rules.specs.ManagementFrames.{announce_acts}
use Rattle.domain_rules.specs.Owing.{and_switch}
use Rattle.domain_rules.specs.Closing.{sender}
use Rattle.domain_rules.specs.StationRows.{ConnectRow, AssocRespRow, M1Row, OpeningM1Row, M3Row, RepeatedM3Row, G1Row, m3_seal, g1_seal, leave_acts}
use Rattle.domain_rules.specs.TransitionRows.{RoamRow, FtReqRow, RepeatedFtReqRow, FtRespRow, ReReqRow, RepeatedReReqRow, ReRespRow, refused_look}
use Rattle.domain_rules.specs.DataRows.{send_acts, DataRow, ActionRow}
use Rattle.domain_rules.specs.Here.{Here}

-- what an event is to one node
pub data NodeEvent : Type 0 where
  -- these octets come
  Take : List ℕ → NodeEvent
  -- a station begins an attempt with that access point
  Begin : ℕ → NodeEvent
  -- an access point sends that station again what it waits to have answered
  Retry : ℕ → NodeEvent
  -- an access point draws new group keys and gives them to each session
  Rekey : NodeEvent
  -- a node sends that payload to a peer, or to all, with that TID
  Send : Peer → Option ℕ → List ℕ → NodeEvent
  -- an access point drops what it has with that station
  Expire : ℕ → NodeEvent
  -- a station drops what it has
  Leave : NodeEvent
  -- a station with a session begins a fast transition to that access point
  Roam : ℕ → NodeEvent
  -- an access point tells its key holder to hold the key of that station no longer
  Revoke : ℕ → NodeEvent
  -- the key of that station is changed to this, or that of all stations
  Secret : Option ℕ → List ℕ → NodeEvent
  -- an access point begins to renew the pairwise key of its session with that station
  Renew : ℕ → NodeEvent
  -- an access point sends that payload to all its stations, in a protected Action frame
  Announce : List ℕ → NodeEvent

-- a frame is passed over
pub record IgnoredRow (w : Here) (h : List Act) (octets : List ℕ) (r : Reading) (facts : Facts) (g : List Act) : Type 0 where
  pub ignored : verdict w.domain w.first w.node h r facts ≡ Ignored
  pub says : g ≡ Took None octets kind.Ignored Ignored None ∷ []

-- what the MIC of an EAPOL-Key message covers: M1 has none
abbrev pub message_seal : Domain → Node → List Act → KeyMessage → Message → Option Node → Option Seal
message_seal d n h k M2 (Some p) = m2_seal d n h k p
message_seal d n h k M3 (Some p) = m3_seal h k p
message_seal d n h k M4 (Some p) = m4_seal h k p
message_seal d n h k G1 (Some p) = g1_seal h k p
message_seal d n h k G2 (Some p) = g2_seal h k p
message_seal d n h k _ from = None

-- of management frames reassociation requests and responses have a MIC, in their FTE (IEEE Std 802.11-2020, 13.8.4,
-- 13.8.5)
abbrev pub management_seal : Domain → Node → List Act → Management → ElementFields → Kind → Option Node → Option Seal
management_seal d (Ap a) h b e kind.ReReq (Some p) = re_req_seal d (Ap a) h p e
management_seal d (Sta s) h b e kind.ReResp (Some p) = re_resp_seal d (Sta s) h p b e
management_seal d n h b e _ from = None

-- what the MIC or the seal of a frame covers, by what the frame is
abbrev pub seal_in : Domain → Node → List Act → Reading → Option Seal
seal_in d n h (Keyed k) = message_seal d n h k k.message (peer_of d n k.header.a2)
seal_in d n h (Managed b e) = management_seal d n h b e b.kind (management_sender d n b.header)
seal_in d n h _ = None

-- What a refused frame had sealed: something exactly where its MIC was tried and verified. The MIC is the last that is tried
-- before what the key data and the elements under it say, so that is where nothing up to it refused the frame. The seal of protected
-- data, and the MIC of an Action frame, are tried last.
abbrev pub refused_seal : Domain → ℕ → Node → List Act → Reading → Option Seal
refused_seal d first n h r = cond (comes_so_far (first_verdict d first n h r)) (seal_in d n h r) None

-- the status with which a request is refused for a reason, where it is answered (IEEE Std 802.11-2020, 9.4.1.9)
abbrev pub refused_status : Reason → Option ℕ
refused_status (reason.Status code) = Some code
refused_status reason.NoHolder = Some 28
refused_status reason.Name = Some 53
refused_status _ = None

-- a response with that status, by the kind of the request (IEEE Std 802.11-2020, 9.4.1.9, profile)
abbrev pub response_by : Domain → Node → Node → Kind → Option ℕ → List Act
response_by d n p kind.AssocReq (Some code) = sent_refusal d n p code ∷ []
response_by d n p kind.FtReq (Some code) = sent_ft_refusal d n p code ∷ []
response_by d n p kind.ReReq (Some code) = sent_re_refusal d n p code ∷ []
response_by d n p k code = []

-- an access point answers a request that is refused with a status with that status
abbrev pub response : Domain → Node → Option Node → Kind → Reason → List Act
response d (Ap a) (Some p) k why = response_by d (Ap a) p k (refused_status why)
response d n from k why = []

-- a frame is refused, with what it had sealed, the look, and the response
pub record RefusedRow (w : Here) (h : List Act) (octets : List ℕ) (r : Reading) (facts : Facts) (g : List Act) : Type 0 where
  pub why : Reason
  pub refused : verdict w.domain w.first w.node h r facts ≡ Refused why
  pub says : g ≡ Took (sender w.domain w.node r) octets (kind_of r) (Refused why) (refused_seal w.domain w.first w.node h r)
      ∷ refused_look w.node (sender w.domain w.node r) r facts.pulled why ++ response w.domain w.node (sender w.domain w.node r) (kind_of r) why

-- which of the rows it is
pub data TakeRows (w : Here) (h : List Act) (octets : List ℕ) (r : Reading) (facts : Facts) (g : List Act) : Type 0 where
  By_assoc_req : AssocReqRow w h octets r facts g → TakeRows w h octets r facts g
  By_assoc_resp : AssocRespRow w h octets r facts g → TakeRows w h octets r facts g
  By_m1 : M1Row w h octets r facts g → TakeRows w h octets r facts g
  By_opening_m1 : OpeningM1Row w h octets r facts g → TakeRows w h octets r facts g
  By_m2 : M2Row w h octets r facts g → TakeRows w h octets r facts g
  By_m3 : M3Row w h octets r facts g → TakeRows w h octets r facts g
  By_repeated_m3 : RepeatedM3Row w h octets r facts g → TakeRows w h octets r facts g
  By_m4 : M4Row w h octets r facts g → TakeRows w h octets r facts g
  By_g1 : G1Row w h octets r facts g → TakeRows w h octets r facts g
  By_g2 : G2Row w h octets r facts g → TakeRows w h octets r facts g
  By_ft_req : FtReqRow w h octets r facts g → TakeRows w h octets r facts g
  By_repeated_ft_req : RepeatedFtReqRow w h octets r facts g → TakeRows w h octets r facts g
  By_ft_resp : FtRespRow w h octets r facts g → TakeRows w h octets r facts g
  By_re_req : ReReqRow w h octets r facts g → TakeRows w h octets r facts g
  By_repeated_re_req : RepeatedReReqRow w h octets r facts g → TakeRows w h octets r facts g
  By_re_resp : ReRespRow w h octets r facts g → TakeRows w h octets r facts g
  By_data : DataRow w h octets r facts g → TakeRows w h octets r facts g
  By_action : ActionRow w h octets r facts g → TakeRows w h octets r facts g
  By_ignored : IgnoredRow w h octets r facts g → TakeRows w h octets r facts g
  By_refusal : RefusedRow w h octets r facts g → TakeRows w h octets r facts g

-- octets come: their acts, by what they read as, are one of the rows
pub record TakeRow (w : Here) (h : List Act) (octets : List ℕ) (g : List Act) : Type 0 where
  pub r : Reading
  pub reads : ReadsAt w.domain octets r
  pub facts : Facts
  pub knows : Knows w.domain w.first w.node h r facts
  pub row : TakeRows w h octets r facts g

-- the acts of the event itself
abbrev pub RowOf : Here → List Act → NodeEvent → List Act → Type 0
RowOf w h (Take octets) g = TakeRow w h octets g
RowOf w h (Begin a) g = ConnectRow w h (Ap a) g
RowOf w h (Retry s) g = g ≡ retry_acts w.domain w.node h (Sta s) (attempt (Sta s) h)
RowOf w h Rekey g = RekeyRow w h g
RowOf w h (Send q tid octets) g = g ≡ send_acts w h q tid octets
RowOf w h (Expire s) g = g ≡ expire_acts (Sta s) h
RowOf w h Leave g = g ≡ leave_acts h
RowOf w h (Roam a) g = RoamRow w h (Ap a) g
RowOf w h (Revoke s) g = g ≡ revoke_acts w.domain w.node h (Sta s)
RowOf w h (Secret named psk) g = g ≡ secret_acts w.domain w.node h named psk
RowOf w h (Renew s) g = RenewRow w h (Sta s) g
RowOf w h (Announce octets) g = g ≡ announce_acts w.domain w.node h octets

-- The event adds these acts, in order, to that history of node n, which began to draw at number `first`: its own, and at an access
-- point the switch to the newest group keys, where no session owes after them.
pub record Adds (w : Here) (h : List Act) (event : NodeEvent) (g : List Act) : Type 0 where
  pub acts : List Act
  pub row : RowOf w h event acts
  pub is : g ≡ and_switch w.domain w.node h acts

-- what came of the event, by the acts that it added
abbrev pub outcome_of : List Act → Outcome
outcome_of (Took from octets k outcome seal ∷ g) = outcome
outcome_of (Idle why_ ∷ g) = IdleBy why_
outcome_of (GaveUp p m ∷ g) = GivenUp m
outcome_of _ = Done
