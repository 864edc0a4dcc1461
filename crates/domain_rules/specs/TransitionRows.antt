-- What one event of a fast transition over the air adds to the history of a node: its acts, in order. A record for each
-- row of the tables of events and of awaited messages; the acts stand last (profile).
use Rattle.std.specs.Prelude.{◌≡◌, ℕ, ◌+◌, ◌<◌, ◌≤◌, true, false, List, [], ◌∷◌, ◌++◌, Option, Some, None, unwrap_or}
use Rattle.domain_base.specs.declared.names.Akm.TheVariants.{FtPsk}
use Rattle.domain_base.specs.declared.names.Node.{Node}
use Rattle.domain_base.specs.declared.names.Node.TheVariants.{Ap}
use Rattle.domain_base.specs.declared.names.Peer.TheVariants.{One}
use Rattle.key_hierarchy.specs.Keys.{ptk}
use Rattle.key_hierarchy.specs.FastTransition.{ft_ptk}
use Rattle.key_hierarchy.specs.declared.inputs.Inputs.{Inputs}
use Rattle.key_hierarchy.specs.declared.answers.PullAnswer.{PullAnswer}
use Rattle.key_hierarchy.specs.declared.answers.PullAnswer.TheVariants.{Found, NoHolder, Absent}
use Rattle.key_hierarchy.specs.declared.fast_transition.PmkR1.{PmkR1}
use Rattle.rsn_elements.specs.Transition.{WrappedGtkFields, WrappedIgtkFields, FteFields}
use Rattle.rsn_elements.specs.Elements.{ElementFields}
use Rattle.run_journal.specs.declared.domain.Domain.{Domain}
use Rattle.run_journal.specs.declared.acts.Start.TheVariants.{Roam}
use Rattle.run_journal.specs.declared.acts.Drawn.TheVariants.{Nonce}
use Rattle.run_journal.specs.declared.acts.Kind.{Kind}
use Rattle.run_journal.specs.declared.acts.Kind.TheVariants as kind
use Rattle.run_journal.specs.declared.acts.Reason.{Reason}
use Rattle.run_journal.specs.declared.acts.Reason.TheVariants as reason
use Rattle.run_journal.specs.declared.acts.Why.TheVariants as why
use Rattle.run_journal.specs.declared.acts.Outcome.TheVariants.{Accepted, Answered}
use Rattle.run_journal.specs.declared.acts.Key.TheVariants.{Pairwise}
use Rattle.run_journal.specs.declared.acts.Act.{Act}
use Rattle.run_journal.specs.declared.acts.Act.TheVariants.{Opened, Drew, Derived, Sent, Took, Installed, Finished, Looked, Idle}
use Rattle.run_journal.specs.Acts.{same, GroupKey, Derivation}
use Rattle.run_journal.specs.Questions.{attempt, pending, associated, session, draws}
use Rattle.run_journal.specs.Holders.{Stored, first_stored, since_finished, last_r0kh_id}
use Rattle.domain_rules.specs.Network.{mac, root_at, inputs_at, draw_end}
use Rattle.domain_rules.specs.Reading.{Management, Reading, Managed}
use Rattle.domain_rules.specs.Frames.{keyed_by}
use Rattle.domain_rules.specs.Facts.{Facts}
use Rattle.domain_rules.specs.Verdict.{verdict}
use Rattle.domain_rules.specs.Asking.{own}
use Rattle.domain_rules.specs.GroupKeys.{news, GivenKeys, give_all}
use Rattle.domain_rules.specs.FastTransition.{single, gtk_in, igtk_in, gtk_id}
use Rattle.domain_rules.specs.TransitionFrames.{sent_ft_req, sent_ft_resp, sent_re_req, re_resp_fte, sent_re_resp}
use Rattle.domain_rules.specs.TransitionKeys.{Asked, asked, given, Judged, judged, re_req_seal, re_resp_keying, re_resp_seal}
use Rattle.domain_rules.specs.Closing.{close_attempt, close_session, close_pending, close_associated, next_nonce, sender}
use Rattle.domain_rules.specs.Here.{Here}

-- a station drops its attempt, keeps its session, and asks the access point for a fast transition, with suite 4 alone
-- (IEEE Std 802.11-2020, 13.5.2, profile)
abbrev pub roam_acts : Domain → ℕ → Node → List Act → Node → List Act
roam_acts d first n h p =
    close_pending (pending h)
    ++ Opened p Roam ∷ Drew (Nonce (next_nonce d first n h)) ∷ sent_ft_req d n p (root_at d n (last_r0kh_id h)) (next_nonce d first n h) ∷ []

pub data RoamRow (w : Here) (h : List Act) (p : Node) (g : List Act) : Type 0 where
  NoSession : associated h ≡ None → g ≡ Idle why.NoSession ∷ [] → RoamRow w h p g
  SamePeer : (q : Node) → associated h ≡ Some q → same p q ≡ true → g ≡ Idle why.SamePeer ∷ [] → RoamRow w h p g
  Spent : (q : Node) → associated h ≡ Some q → same p q ≡ false → draw_end ≤ w.first + draws h → g ≡ Idle why.Spent ∷ [] → RoamRow w h p g
  Asks : w.domain.akm ≡ FtPsk → (q : Node) → associated h ≡ Some q → same p q ≡ false → w.first + draws h < draw_end → g ≡ roam_acts w.domain w.first w.node h p → RoamRow w h p g

-- a frame is sent to p as it was sent before (IEEE Std 802.11-2020, 13.8.3, profile)
abbrev pub sent_again : Node → Kind → Option Stored → List Act
sent_again p k None = []
sent_again p k (Some s) = Sent (One p) k s.octets s.seal ∷ []

-- the key that a PMK-R1 gives for the nonces and the ends of these inputs (IEEE Std 802.11-2020, 13.8.3, profile)
abbrev pub derived_from : PmkR1 → Inputs → Derivation
derived_from k i = record { inputs = i; ptk = ft_ptk k i.snonce i.anonce i.aa i.spa }

-- an access point that was given the PMK-R1 begins an attempt in place of the one that it has, derives the key, and
-- answers (IEEE Std 802.11-2020, 13.8.3, profile)
pub record FtReqRow (w : Here) (h : List Act) (octets : List ℕ) (r : Reading) (facts : Facts) (g : List Act) : Type 0 where
  pub b : Management
  pub e : ElementFields
  pub is : r ≡ Managed b e
  pub kind_is : b.kind ≡ kind.FtReq
  pub p : Node
  pub from : sender w.domain w.node r ≡ Some p
  pub accepted : verdict w.domain w.first w.node h r facts ≡ Accepted
  pub a : Asked
  pub asks : asked e ≡ Some a
  pub name : List ℕ
  pub named : single a.names ≡ Some name
  pub k : PmkR1
  pub pulled : facts.pulled ≡ Some k
  pub i : Inputs
  pub inputs_are : i ≡ inputs_at w.domain w.node p a.r0kh_id (next_nonce w.domain w.first w.node h) a.snonce
  pub says : g ≡ Took (Some p) octets kind.FtReq Accepted None ∷ Looked a.r0kh_id name p (Found k) ∷ close_attempt p (attempt p h)
      ++ Opened p Roam ∷ Drew (Nonce i.anonce) ∷ Derived p i (derived_from k i).ptk ∷ sent_ft_resp w.domain w.node p name i ∷ []

-- a repeated request is answered with the response of the attempt, without a look (IEEE Std 802.11-2020, 13.8.3,
-- profile)
pub record RepeatedFtReqRow (w : Here) (h : List Act) (octets : List ℕ) (r : Reading) (facts : Facts) (g : List Act) : Type 0 where
  pub b : Management
  pub e : ElementFields
  pub is : r ≡ Managed b e
  pub kind_is : b.kind ≡ kind.FtReq
  pub p : Node
  pub from : sender w.domain w.node r ≡ Some p
  pub answered : verdict w.domain w.first w.node h r facts ≡ Answered
  pub part : List Act
  pub awaited : attempt p h ≡ Some part
  pub says : g ≡ Took (Some p) octets kind.FtReq Answered None ∷ sent_again p kind.FtResp (first_stored p kind.FtResp part)

-- a station derives the key by the response, and asks for reassociation (IEEE Std 802.11-2020, 13.8.3, 13.8.4, profile)
pub record FtRespRow (w : Here) (h : List Act) (octets : List ℕ) (r : Reading) (facts : Facts) (g : List Act) : Type 0 where
  pub b : Management
  pub e : ElementFields
  pub is : r ≡ Managed b e
  pub kind_is : b.kind ≡ kind.FtResp
  pub p : Node
  pub from : sender w.domain w.node r ≡ Some p
  pub accepted : verdict w.domain w.first w.node h r facts ≡ Accepted
  pub part : List Act
  pub awaited : attempt p h ≡ Some part
  pub f : FteFields
  pub fte : e.fte ≡ Some f
  pub i : Inputs
  pub inputs_are : i ≡ inputs_at w.domain w.node p (last_r0kh_id h) (own part) f.anonce
  pub says : g ≡ Took (Some p) octets kind.FtResp Accepted None ∷ Derived p i (ptk i)
      ∷ sent_re_req w.domain w.node p (unwrap_or (associated h) p) (keyed_by i) ∷ []

-- an access point installs the pairwise key in place of the one in use, and answers with its newest group keys (IEEE Std
-- 802.11-2020, 13.8.4, profile)
pub record ReReqRow (w : Here) (h : List Act) (octets : List ℕ) (r : Reading) (facts : Facts) (g : List Act) : Type 0 where
  pub b : Management
  pub e : ElementFields
  pub is : r ≡ Managed b e
  pub kind_is : b.kind ≡ kind.ReReq
  pub p : Node
  pub from : sender w.domain w.node r ≡ Some p
  pub accepted : verdict w.domain w.first w.node h r facts ≡ Accepted
  pub y : Judged
  pub awaited : judged p h e ≡ Some y
  pub x : Derivation
  pub keyed : x ≡ y.by_.key
  pub says : g ≡ Took (Some p) octets kind.ReReq Accepted (re_req_seal w.domain w.node h p e) ∷ close_session p (session p h)
      ++ Installed (One p) (Pairwise x.ptk.tk x.inputs) ∷ Finished p x.inputs
      ∷ sent_re_resp w.domain w.node p y.by_.r1_name x (re_resp_fte w.domain w.node x (news w.domain h)) ∷ []

-- in a session that came of a fast transition it answers with the same octets again, and installs nothing (IEEE Std
-- 802.11-2020, 13.8.4, profile)
pub record RepeatedReReqRow (w : Here) (h : List Act) (octets : List ℕ) (r : Reading) (facts : Facts) (g : List Act) : Type 0 where
  pub b : Management
  pub e : ElementFields
  pub is : r ≡ Managed b e
  pub kind_is : b.kind ≡ kind.ReReq
  pub p : Node
  pub from : sender w.domain w.node r ≡ Some p
  pub answered : verdict w.domain w.first w.node h r facts ≡ Answered
  pub y : Judged
  pub awaited : judged p h e ≡ Some y
  pub says : g ≡ Took (Some p) octets kind.ReReq Answered (re_req_seal w.domain w.node h p e)
      ∷ sent_again p kind.ReResp (first_stored p kind.ReResp (since_finished p h))

-- the GTK that an FTE carries, where it was unwrapped (IEEE Std 802.11-2020, 13.8.4, 13.8.5, profile)
abbrev pub carried_by : Option WrappedGtkFields → Option (List ℕ) → GroupKey
carried_by None plain = record { key = []; id = 0 }
carried_by (Some g) plain = record { key = unwrap_or plain []; id = gtk_id g }

-- the IGTK that an FTE carries, where it was unwrapped (IEEE Std 802.11-2020, 13.8.5, profile)
abbrev pub carried_igtk_by : Option WrappedIgtkFields → Option (List ℕ) → GroupKey
carried_igtk_by None plain = record { key = []; id = 0 }
carried_igtk_by (Some g) plain = record { key = unwrap_or plain []; id = g.id }

-- all group keys that it carries (IEEE Std 802.11-2020, 13.8.5, profile)
abbrev pub keys_by : Option FteFields → Facts → GivenKeys
keys_by fte facts = record { gtk = carried_by (gtk_in fte) facts.unwrapped; igtk = carried_igtk_by (igtk_in fte) facts.unwrapped_igtk }

-- a station drops the session in use, and installs the pairwise key and the group keys (IEEE Std 802.11-2020, 13.8.5,
-- profile)
pub record ReRespRow (w : Here) (h : List Act) (octets : List ℕ) (r : Reading) (facts : Facts) (g : List Act) : Type 0 where
  pub b : Management
  pub e : ElementFields
  pub is : r ≡ Managed b e
  pub kind_is : b.kind ≡ kind.ReResp
  pub p : Node
  pub from : sender w.domain w.node r ≡ Some p
  pub accepted : verdict w.domain w.first w.node h r facts ≡ Accepted
  pub x : Derivation
  pub awaited : re_resp_keying p h ≡ Some x
  pub says : g ≡ Took (Some p) octets kind.ReResp Accepted (re_resp_seal w.domain w.node h p b e) ∷ close_associated (associated h)
      ++ Installed (One p) (Pairwise x.ptk.tk x.inputs)
      ∷ (give_all w.domain p (mac w.domain p) (keys_by e.fte facts) h ++ Finished p x.inputs ∷ [])

-- ---- a refused request that asked a key holder

-- what the key holder answered, where the request is refused for that reason after all that is tried before the holder
-- is asked
abbrev pub look_answer : Reason → Option PmkR1 → Option PullAnswer
look_answer reason.NoHolder pulled = Some NoHolder
look_answer reason.Name pulled = Some Absent
look_answer reason.Spent pulled = Some (given pulled)
look_answer _ pulled = None

-- the look of a refused request: a holder was asked where the request names one PMKID
abbrev pub looked_by : Node → Asked → Option (List ℕ) → Option PullAnswer → List Act
looked_by p a (Some name) (Some answer) = Looked a.r0kh_id name p answer ∷ []
looked_by p a name answer = []

-- the look for what a request asks for, where it asks for something
abbrev pub looked_for : Node → Option Asked → Option PullAnswer → List Act
looked_for p None answer = []
looked_for p (Some a) answer = looked_by p a (single a.names) answer

-- the look of an authentication request: no other frame has one
abbrev pub look_of_kind : Kind → Node → ElementFields → Option PullAnswer → List Act
look_of_kind kind.FtReq p e answer = looked_for p (asked e) answer
look_of_kind _ p e answer = []

-- the look of a refused frame, where a holder was asked
abbrev pub refused_look : Node → Option Node → Reading → Option PmkR1 → Reason → List Act
refused_look (Ap a) (Some p) (Managed b e) pulled why = look_of_kind b.kind p e (look_answer why pulled)
refused_look n from r pulled why = []
