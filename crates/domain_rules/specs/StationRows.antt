-- What one event adds to the history of a station: its acts, in order. A record for each row of the tables of events
-- and of awaited messages; the acts stand last (profile).
use Rattle.std.specs.Prelude.{◌≡◌, ℕ, ◌+◌, ◌<◌, ◌≤◌, Bool, true, false, List, [], ◌∷◌, ◌++◌, Option, Some, None, option_map, unwrap_or}
use Rattle.domain_base.specs.declared.names.Node.{Node}
use Rattle.domain_base.specs.declared.names.Peer.TheVariants.{One}
use Rattle.rsn_elements.specs.KeyData.{GtkKdeFields, IgtkKdeFields}
use Rattle.rsn_elements.specs.Elements.{ElementFields}
use Rattle.eapol_key.specs.declared.messages.Message.TheVariants.{M1, M3, G1}
use Rattle.key_hierarchy.specs.Keys.{ptk}
use Rattle.key_hierarchy.specs.declared.inputs.Inputs.{Inputs}
use Rattle.run_journal.specs.declared.domain.Domain.{Domain}
use Rattle.run_journal.specs.declared.acts.Start.TheVariants.{Connect, Renew}
use Rattle.run_journal.specs.declared.acts.Part.TheVariants.{Session}
use Rattle.run_journal.specs.declared.acts.Drawn.TheVariants.{Nonce}
use Rattle.run_journal.specs.declared.acts.Kind.TheVariants as kind
use Rattle.run_journal.specs.declared.acts.Why.TheVariants as why
use Rattle.run_journal.specs.declared.acts.Outcome.TheVariants.{Accepted, Answered}
use Rattle.run_journal.specs.declared.acts.Seal.{Seal}
use Rattle.run_journal.specs.declared.acts.Key.TheVariants.{Pairwise}
use Rattle.run_journal.specs.declared.acts.Act.{Act}
use Rattle.run_journal.specs.declared.acts.Act.TheVariants.{Opened, Closed, Drew, Derived, Took, Installed, Finished, Idle}
use Rattle.run_journal.specs.Questions.{attempt, pending, associated, session, draws}
use Rattle.run_journal.specs.Acts.{GroupKey, Derivation}
use Rattle.domain_rules.specs.Network.{mac, inputs_at, draw_end}
use Rattle.domain_rules.specs.Reading.{Management, KeyMessage, Reading, Managed, Keyed}
use Rattle.domain_rules.specs.Frames.{sent_assoc_req, sent_m2_by, sent_m4, sent_g2, frame_seal, keyed_by}
use Rattle.domain_rules.specs.Facts.{Facts}
use Rattle.domain_rules.specs.Verdict.{verdict}
use Rattle.domain_rules.specs.StationKeys.{Keying, m3_keying}
use Rattle.domain_rules.specs.TransitionKeyData.{responded_fte, responded_r0kh_id}
use Rattle.domain_rules.specs.Asking.{own, is_by_renewal, in_renewal}
use Rattle.domain_rules.specs.GroupKeys.{GivenKeys, give_all}
use Rattle.domain_rules.specs.Closing.{close_pending, close_associated, or_nothing, next_nonce, sender}
use Rattle.domain_rules.specs.Here.{Here}

-- a station drops what it has and asks the access point for association
abbrev pub connect_acts : Domain → ℕ → Node → List Act → Node → List Act
connect_acts d first n h p =
    close_pending (pending h) ++ close_associated (associated h)
    ++ Opened p Connect ∷ Drew (Nonce (next_nonce d first n h)) ∷ sent_assoc_req d n p ∷ []

-- a station connects: idle where no nonce can be drawn
pub data ConnectRow (w : Here) (h : List Act) (p : Node) (g : List Act) : Type 0 where
  Spent : draw_end ≤ w.first + draws h → g ≡ Idle why.Spent ∷ [] → ConnectRow w h p g
  Asks : w.first + draws h < draw_end → g ≡ connect_acts w.domain w.first w.node h p → ConnectRow w h p g

-- a station accepts an association response
pub record AssocRespRow (w : Here) (h : List Act) (octets : List ℕ) (r : Reading) (facts : Facts) (g : List Act) : Type 0 where
  pub b : Management
  pub e : ElementFields
  pub is : r ≡ Managed b e
  pub kind_is : b.kind ≡ kind.AssocResp
  pub p : Node
  pub from : sender w.domain w.node r ≡ Some p
  pub accepted : verdict w.domain w.first w.node h r facts ≡ Accepted
  pub says : g ≡ Took (Some p) octets kind.AssocResp Accepted None ∷ []

-- a station derives a key by M1 and answers with M2, with suite 4 by the association response too. In an attempt that
-- renews a key M2 is sent with Secure set (IEEE Std 802.11-2020, 12.7.6.2, profile)
pub record M1Row (w : Here) (h : List Act) (octets : List ℕ) (r : Reading) (facts : Facts) (g : List Act) : Type 0 where
  pub k : KeyMessage
  pub is : r ≡ Keyed k
  pub message_is : k.message ≡ M1
  pub p : Node
  pub from : sender w.domain w.node r ≡ Some p
  pub accepted : verdict w.domain w.first w.node h r facts ≡ Accepted
  pub part : List Act
  pub awaited : attempt p h ≡ Some part
  pub i : Inputs
  pub inputs_are : i ≡ inputs_at w.domain w.node p (responded_r0kh_id facts.responded) (own part) k.fields.nonce
  pub says : g ≡ Took (Some p) octets (kind.Key M1) Accepted None ∷ Derived p i (ptk i)
      ∷ sent_m2_by (is_by_renewal part) w.domain w.node p (keyed_by i) k.fields.counter (unwrap_or (responded_fte facts.responded) []) ∷ []

-- in a session a station begins by M1 to renew its key: it draws a nonce, derives a key and answers with M2, whose Secure
-- bit is set (IEEE Std 802.11-2020, 12.7.6.2, profile)
pub record OpeningM1Row (w : Here) (h : List Act) (octets : List ℕ) (r : Reading) (facts : Facts) (g : List Act) : Type 0 where
  pub k : KeyMessage
  pub is : r ≡ Keyed k
  pub message_is : k.message ≡ M1
  pub p : Node
  pub from : sender w.domain w.node r ≡ Some p
  pub accepted : verdict w.domain w.first w.node h r facts ≡ Accepted
  pub none : attempt p h ≡ None
  pub i : Inputs
  pub inputs_are : i ≡ inputs_at w.domain w.node p [] (next_nonce w.domain w.first w.node h) k.fields.nonce
  pub says : g ≡ Took (Some p) octets (kind.Key M1) Accepted None ∷ Opened p Renew ∷ Drew (Nonce (next_nonce w.domain w.first w.node h)) ∷ Derived p i (ptk i)
      ∷ sent_m2_by true w.domain w.node p (keyed_by i) k.fields.counter [] ∷ []

-- that GTK, where M3 carries one (IEEE Std 802.11-2020, 12.7.6.4, profile)
abbrev pub carried_in : Option GtkKdeFields → GroupKey
carried_in None = record { key = []; id = 0 }
carried_in (Some g) = record { key = g.key; id = g.id }

-- the GTK that key data carries (IEEE Std 802.11-2020, 12.7.6.4, profile)
abbrev pub carried : Option ElementFields → GroupKey
carried None = record { key = []; id = 0 }
carried (Some e) = carried_in e.gtk

-- that IGTK, where key data carries one (IEEE Std 802.11-2020, 12.7.6.4, profile)
abbrev pub carried_igtk_in : Option IgtkKdeFields → GroupKey
carried_igtk_in None = record { key = []; id = 0 }
carried_igtk_in (Some k) = record { key = k.key; id = k.id }

-- the IGTK that key data carries (IEEE Std 802.11-2020, 12.7.6.4, profile)
abbrev pub carried_igtk : Option ElementFields → GroupKey
carried_igtk None = record { key = []; id = 0 }
carried_igtk (Some e) = carried_igtk_in e.igtk

-- all group keys that key data carries (IEEE Std 802.11-2020, 12.7.6.4, 12.7.7.2, profile)
abbrev pub carried_keys : Option ElementFields → GivenKeys
carried_keys data_ = record { gtk = carried data_; igtk = carried_igtk data_ }

-- the session with p ends as its key is renewed (IEEE Std 802.11-2020, 12.7.6.4, profile)
abbrev pub replaced : Node → Bool → List Act
replaced p false = []
replaced p true = Closed p Session ∷ []

-- a station installs the pairwise key by M3, where it renews a key in place of that, and the group keys, and answers with
-- M4 (IEEE Std 802.11-2020, 12.7.6.4, profile)
pub record M3Row (w : Here) (h : List Act) (octets : List ℕ) (r : Reading) (facts : Facts) (g : List Act) : Type 0 where
  pub k : KeyMessage
  pub is : r ≡ Keyed k
  pub message_is : k.message ≡ M3
  pub p : Node
  pub from : sender w.domain w.node r ≡ Some p
  pub accepted : verdict w.domain w.first w.node h r facts ≡ Accepted
  pub y : Keying
  pub awaited : m3_keying p h k ≡ Some y
  pub says : g ≡ Took (Some p) octets (kind.Key M3) Accepted (Some (frame_seal y.key.ptk.kck k.octets))
      ∷ (replaced p (in_renewal (attempt p h)) ++ Installed (One p) (Pairwise y.key.ptk.tk y.key.inputs)
      ∷ (give_all w.domain p (mac w.domain p) (carried_keys facts.data_) h ++ Finished p y.key.inputs ∷ sent_m4 w.domain w.node p y.key k.fields.counter ∷ []))

-- in a session a station answers M3 again, and installs nothing (IEEE Std 802.11-2020, 12.7.6.4, profile)
pub record RepeatedM3Row (w : Here) (h : List Act) (octets : List ℕ) (r : Reading) (facts : Facts) (g : List Act) : Type 0 where
  pub k : KeyMessage
  pub is : r ≡ Keyed k
  pub message_is : k.message ≡ M3
  pub p : Node
  pub from : sender w.domain w.node r ≡ Some p
  pub answered : verdict w.domain w.first w.node h r facts ≡ Answered
  pub y : Keying
  pub awaited : m3_keying p h k ≡ Some y
  pub says : g ≡ Took (Some p) octets (kind.Key M3) Answered (Some (frame_seal y.key.ptk.kck k.octets)) ∷ sent_m4 w.domain w.node p y.key k.fields.counter ∷ []

-- what the MIC of M3 covers, under the key by which it is judged
abbrev pub m3_seal : List Act → KeyMessage → Node → Option Seal
m3_seal h k p = option_map (λ (y : Keying). frame_seal y.key.ptk.kck k.octets) (m3_keying p h k)

-- in a session a station installs or resumes the group keys by G1, and answers with G2 (IEEE Std 802.11-2020, 12.7.7.2,
-- profile)
pub record G1Row (w : Here) (h : List Act) (octets : List ℕ) (r : Reading) (facts : Facts) (g : List Act) : Type 0 where
  pub k : KeyMessage
  pub is : r ≡ Keyed k
  pub message_is : k.message ≡ G1
  pub p : Node
  pub from : sender w.domain w.node r ≡ Some p
  pub accepted : verdict w.domain w.first w.node h r facts ≡ Accepted
  pub x : Derivation
  pub awaited : session p h ≡ Some x
  pub says : g ≡ Took (Some p) octets (kind.Key G1) Accepted (Some (frame_seal x.ptk.kck k.octets))
      ∷ (give_all w.domain p (mac w.domain p) (carried_keys facts.data_) h ++ sent_g2 w.domain w.node p x k.fields.counter ∷ [])

-- what the MIC of G1 covers, under the key of the session
abbrev pub g1_seal : List Act → KeyMessage → Node → Option Seal
g1_seal h k p = option_map (λ (x : Derivation). frame_seal x.ptk.kck k.octets) (session p h)

-- a station drops what it has
abbrev pub leave_acts : List Act → List Act
leave_acts h = or_nothing (close_pending (pending h) ++ close_associated (associated h))
