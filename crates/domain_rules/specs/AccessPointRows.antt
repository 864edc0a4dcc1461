-- What one event adds to the history of an access point: its acts, in order. A record for each row of the tables of
-- events and of awaited messages; the acts stand last (profile).
use Rattle.std.specs.Prelude.{◌≡◌, ℕ, zero, suc, ◌+◌, ◌<◌, ◌≤◌, Bool, true, false, cond, List, [], ◌∷◌, ◌++◌, length, Option, Some, None, option_map, option_and_then, nat_lt, if◌then◌else◌}
use Rattle.domain_base.specs.declared.names.Node.{Node}
use Rattle.domain_base.specs.declared.names.Node.TheVariants.{Sta}
use Rattle.domain_base.specs.declared.names.Peer.TheVariants.{One}
use Rattle.rsn_elements.specs.Elements.{ElementFields}
use Rattle.eapol_key.specs.declared.messages.Message.{Message}
use Rattle.eapol_key.specs.declared.messages.Message.TheVariants.{M1, M2, M3, M4, G1, G2}
use Rattle.key_hierarchy.specs.Keys.{ptk}
use Rattle.key_hierarchy.specs.declared.inputs.Inputs.{Inputs}
use Rattle.run_journal.specs.declared.domain.Domain.{Domain}
use Rattle.run_journal.specs.Events.{protects}
use Rattle.run_journal.specs.declared.acts.Start.TheVariants.{Connect}
use Rattle.run_journal.specs.declared.acts.Part.TheVariants.{Attempt, Session}
use Rattle.run_journal.specs.declared.acts.Drawn.TheVariants as draw
use Rattle.run_journal.specs.declared.acts.Drawn.TheVariants.{Nonce}
use Rattle.run_journal.specs.declared.acts.Kind.TheVariants as kind
use Rattle.run_journal.specs.declared.acts.Why.TheVariants as why
use Rattle.run_journal.specs.declared.acts.Outcome.TheVariants.{Accepted}
use Rattle.run_journal.specs.declared.acts.Seal.{Seal}
use Rattle.run_journal.specs.declared.acts.Key.TheVariants.{Pairwise}
use Rattle.run_journal.specs.declared.acts.Act.{Act}
use Rattle.run_journal.specs.declared.acts.Act.TheVariants.{Opened, Closed, Drew, Derived, Took, Installed, Finished, GaveUp, Idle}
use Rattle.run_journal.specs.Questions.{attempt, derivation, session, before_sent, handshake, draws, add}
use Rattle.run_journal.specs.Acts.{Derivation}
use Rattle.domain_rules.specs.Network.{gtk, r0kh_id, inputs_at, is_ap, draw_end}
use Rattle.domain_rules.specs.Reading.{Management, KeyMessage, Reading, Managed, Keyed}
use Rattle.domain_rules.specs.Frames.{sent_assoc_resp, sent_m1, sent_m3, sent_g1, frame_seal, keyed_by}
use Rattle.domain_rules.specs.Facts.{Facts}
use Rattle.domain_rules.specs.Verdict.{verdict}
use Rattle.domain_rules.specs.AccessPointKeys.{m4_keying}
use Rattle.domain_rules.specs.Asking.{own, is_four_way, is_by_renewal, has_heard}
use Rattle.domain_rules.specs.Counters.{sent_count, next_counter, next_in_session}
use Rattle.domain_rules.specs.GroupKeys.{news, is_current}
use Rattle.domain_rules.specs.Owing.{owing, is_older, current_acts}
use Rattle.domain_rules.specs.KeyHolders.{put_acts}
use Rattle.run_journal.specs.declared.acts.GroupKind.TheVariants as groups
use Rattle.domain_rules.specs.Closing.{close_attempt, close_session, or_nothing, next_nonce, sender}
use Rattle.domain_rules.specs.Here.{Here}

-- an access point answers an association request with its response and M1
pub record AssocReqRow (w : Here) (h : List Act) (octets : List ℕ) (r : Reading) (facts : Facts) (g : List Act) : Type 0 where
  pub b : Management
  pub e : ElementFields
  pub is : r ≡ Managed b e
  pub kind_is : b.kind ≡ kind.AssocReq
  pub p : Node
  pub from : sender w.domain w.node r ≡ Some p
  pub accepted : verdict w.domain w.first w.node h r facts ≡ Accepted
  pub says : g ≡ Took (Some p) octets kind.AssocReq Accepted None ∷ close_attempt p (attempt p h)
      ++ Opened p Connect ∷ Drew (Nonce (next_nonce w.domain w.first w.node h)) ∷ sent_assoc_resp w.domain w.node p ∷ sent_m1 w.domain w.node p 1 (next_nonce w.domain w.first w.node h) ∷ []

-- an access point derives the same key by M2, and answers with M3 (IEEE Std 802.11-2020, 12.7.6.3, profile)
pub record M2Row (w : Here) (h : List Act) (octets : List ℕ) (r : Reading) (facts : Facts) (g : List Act) : Type 0 where
  pub k : KeyMessage
  pub is : r ≡ Keyed k
  pub message_is : k.message ≡ M2
  pub p : Node
  pub from : sender w.domain w.node r ≡ Some p
  pub accepted : verdict w.domain w.first w.node h r facts ≡ Accepted
  pub part : List Act
  pub awaited : attempt p h ≡ Some part
  pub i : Inputs
  pub inputs_are : i ≡ inputs_at w.domain w.node p (r0kh_id w.domain w.node) (own part) k.fields.nonce
  pub says : g ≡ Took (Some p) octets (kind.Key M2) Accepted (Some (frame_seal (ptk i).kck k.octets)) ∷ Derived p i (ptk i)
      ∷ sent_m3 w.domain w.node p (keyed_by i) (next_counter p h part) (news w.domain h) ∷ []

-- G1 to a session with p, after that history: the next replay counter, and the newest group keys (IEEE Std 802.11-2020,
-- 12.7.7, profile)
abbrev pub g1_to : Domain → Node → Node → List Act → Derivation → Act
g1_to d n p h x = sent_g1 d n p x (next_in_session p h) (news d h)

-- the GTK that the first M3 of the attempt with p carried is older than the newest (IEEE Std 802.11-2020,
-- 12.7.6.5, profile)
abbrev pub carried_older : Node → List Act → Option (List Act) → Bool
carried_older p h None = false
carried_older p h (Some past) = is_older groups.Gtk past h

-- the acts by which an access point takes M4 and installs the pairwise key, and what it puts with its key holder (IEEE
-- Std 802.11-2020, 12.7.6.5, profile)
abbrev pub m4_acts : List ℕ → KeyMessage → Node → Derivation → Option Derivation → List Act → List Act
m4_acts octets k p x old put =
    Took (Some p) octets (kind.Key M4) Accepted (Some (frame_seal x.ptk.kck k.octets)) ∷ close_session p old
    ++ Installed (One p) (Pairwise x.ptk.tk x.inputs) ∷ Finished p x.inputs ∷ put

-- after these acts G1 follows, where M3 carried older group keys (IEEE Std 802.11-2020, 12.7.6.5, profile)
abbrev pub newer_acts : Domain → Node → Node → List Act → Derivation → Bool → List Act
newer_acts d n p after x false = []
newer_acts d n p after x true = g1_to d n p after x ∷ []

-- an access point installs the pairwise key by M4, in place of the one in use, with suite 4 puts the PMK-R0, and sends
-- G1 where M3 carried older group keys (IEEE Std 802.11-2020, 12.7.6.5, profile)
pub record M4Row (w : Here) (h : List Act) (octets : List ℕ) (r : Reading) (facts : Facts) (g : List Act) : Type 0 where
  pub k : KeyMessage
  pub is : r ≡ Keyed k
  pub message_is : k.message ≡ M4
  pub p : Node
  pub from : sender w.domain w.node r ≡ Some p
  pub accepted : verdict w.domain w.first w.node h r facts ≡ Accepted
  pub part : List Act
  pub awaited : attempt p h ≡ Some part
  pub x : Derivation
  pub keyed : m4_keying p part ≡ Some x
  pub says : g ≡ m4_acts octets k p x (session p h) (put_acts w.domain w.node h p x)
      ++ newer_acts w.domain w.node p (add (m4_acts octets k p x (session p h) (put_acts w.domain w.node h p x)) h) x
      (carried_older p h (before_sent p (kind.Key M3) h))

-- an access point takes the answer to the group key handshake (IEEE Std 802.11-2020, 12.7.7.3)
pub record G2Row (w : Here) (h : List Act) (octets : List ℕ) (r : Reading) (facts : Facts) (g : List Act) : Type 0 where
  pub k : KeyMessage
  pub is : r ≡ Keyed k
  pub message_is : k.message ≡ G2
  pub p : Node
  pub from : sender w.domain w.node r ≡ Some p
  pub accepted : verdict w.domain w.first w.node h r facts ≡ Accepted
  pub x : Derivation
  pub awaited : owing groups.Gtk p h ≡ Some x
  pub says : g ≡ Took (Some p) octets (kind.Key G2) Accepted (Some (frame_seal x.ptk.kck k.octets)) ∷ []

-- what the MIC of M2, M4 and G2 covers, under the key by which the message is judged
abbrev pub m2_seal : Domain → Node → List Act → KeyMessage → Node → Option Seal
m2_seal d n h k p = option_map (λ (part : List Act). frame_seal (ptk (inputs_at d n p (r0kh_id d n) (own part) k.fields.nonce)).kck k.octets) (attempt p h)

abbrev pub m4_seal : List Act → KeyMessage → Node → Option Seal
m4_seal h k p = option_map (λ (x : Derivation). frame_seal x.ptk.kck k.octets) (option_and_then (λ (part : List Act). m4_keying p part) (attempt p h))

abbrev pub g2_seal : List Act → KeyMessage → Node → Option Seal
g2_seal h k p = option_map (λ (x : Derivation). frame_seal x.ptk.kck k.octets) (owing groups.Gtk p h)

-- at most four sends of M1, and of M3, in an attempt, and of G1 in a session for each group key (IEEE Std 802.11-2020,
-- 12.7.6.6, 12.7.7.4, profile)
abbrev pub most_sends : ℕ
most_sends = 4

-- a message of the attempt is sent again, or the attempt is given up (IEEE Std 802.11-2020, 12.7.6.6, profile)
abbrev pub again_or_give_up : Node → Message → ℕ → Act → List Act
again_or_give_up p m sends act = if nat_lt sends most_sends then act ∷ [] else GaveUp p m ∷ Closed p Attempt ∷ []

-- M3 again: with the group keys and the counts of numbers as when it was first sent, and in an attempt that renews a key,
-- beside which G1 may give newer group keys, as they are now (IEEE Std 802.11-2020, 12.7.6.6, profile)
abbrev pub m3_again : Domain → Node → List Act → Node → List Act → Option Derivation → Option (List Act) → Act
m3_again d n h p part (Some x) (Some past) = sent_m3 d n p x (next_counter p h part) (news d (cond (is_by_renewal part) h past))
m3_again d n h p part x past = Idle why.Nothing

-- M1 again, or from M2 on M3 (IEEE Std 802.11-2020, 12.7.6.6, profile)
abbrev pub retry_attempt : Domain → Node → List Act → Node → List Act → List Act
retry_attempt d n h p part =
    if has_heard p (kind.Key M2) part then again_or_give_up p M3 (sent_count p M3 part) (m3_again d n h p part (derivation p part) (before_sent p (kind.Key M3) h))
    else again_or_give_up p M1 (sent_count p M1 part) (sent_m1 d n p (next_counter p h part) (own part))

-- G1 again in a session that owes, or the session is given up (IEEE Std 802.11-2020, 12.7.7.4, profile)
abbrev pub again_or_close : Node → ℕ → Act → List Act
again_or_close p sends act = if nat_lt sends most_sends then act ∷ [] else GaveUp p G1 ∷ Closed p Session ∷ []

-- G1 again in the session, where there is one (IEEE Std 802.11-2020, 12.7.7.4, profile)
abbrev pub retry_session : Domain → Node → List Act → Node → Option Derivation → List Act
retry_session d n h p None = Idle why.Nothing ∷ []
retry_session d n h p (Some x) = again_or_close p (sent_count p G1 (handshake groups.Gtk p h)) (g1_to d n p h x)

-- in an attempt by a four-way handshake M1, or from M2 on M3; else in a session that owes G1 (IEEE Std 802.11-2020,
-- 12.7.6.6, 12.7.7.4, profile)
abbrev pub retry_acts : Domain → Node → List Act → Node → Option (List Act) → List Act
retry_acts d n h p None = retry_session d n h p (owing groups.Gtk p h)
retry_acts d n h p (Some part) = if is_four_way part then retry_attempt d n h p part else retry_session d n h p (owing groups.Gtk p h)

-- G1 to p, where there is a session (IEEE Std 802.11-2020, 12.7.7, profile)
abbrev pub to_session : Domain → Node → Node → List Act → Option Derivation → List Act
to_session d n p h None = []
to_session d n p h (Some x) = g1_to d n p h x ∷ []

-- G1 to each session with the first so many stations, in order, each after those before it (IEEE Std 802.11-2020,
-- 12.7.7, profile)
abbrev pub to_sessions : Domain → Node → ℕ → List Act → List Act
to_sessions d n zero h = []
to_sessions d n (suc k) h =
    to_sessions d n k h ++ to_session d n (Sta k) (add (to_sessions d n k h) h) (session (Sta k) (add (to_sessions d n k h) h))

-- an access point draws an IGTK under that draw number, where management frames are protected (IEEE Std 802.11-2020,
-- 12.7.7, profile)
abbrev pub draw_igtk : Bool → Domain → Node → ℕ → List Act
draw_igtk false d n number = []
draw_igtk true d n number = Drew (draw.Group groups.Igtk (gtk d n number)) ∷ []

-- an access point draws new group keys, the GTK under that draw number, and the IGTK under the next (IEEE Std
-- 802.11-2020, 12.7.7, profile)
abbrev pub draw_acts : Domain → Node → ℕ → List Act
draw_acts d n number = Drew (draw.Group groups.Gtk (gtk d n number)) ∷ draw_igtk (protects d) d n (suc number)

-- the draw number of the last of these keys, where the first has this one (IEEE Std 802.11-2020, 12.7.7, profile)
abbrev pub last_draw : Domain → ℕ → ℕ
last_draw d number = if protects d then suc number else number

-- the group keys after those of this history (IEEE Std 802.11-2020, 12.7.7, profile)
abbrev pub next_keys : Here → List Act → List Act
next_keys w h = draw_acts w.domain w.node (w.first + draws h)

-- they are drawn, and given to each session, in the order of the stations (IEEE Std 802.11-2020, 12.7.7, profile)
abbrev pub rekey_acts : Here → List Act → List Act
rekey_acts w h = next_keys w h ++ to_sessions w.domain w.node (length w.domain.stas) (add (next_keys w h) h)

-- an access point draws no new group keys as long as the last GTK is not current, with which the last IGTK becomes so, nor
-- where not all of them can be drawn (IEEE Std 802.11-2020, 12.7.7, profile)
pub data RekeyRow (w : Here) (h : List Act) (g : List Act) : Type 0 where
  Pending : is_current groups.Gtk h ≡ false → g ≡ Idle why.RekeyPending ∷ [] → RekeyRow w h g
  Spent : is_current groups.Gtk h ≡ true → draw_end ≤ last_draw w.domain (w.first + draws h) → g ≡ Idle why.Spent ∷ [] → RekeyRow w h g
  Renews : is_ap w.node ≡ true → is_current groups.Gtk h ≡ true → last_draw w.domain (w.first + draws h) < draw_end → g ≡ rekey_acts w h → RekeyRow w h g

-- an access point drops what it has with p
abbrev pub expire_acts : Node → List Act → List Act
expire_acts p h = or_nothing (close_attempt p (attempt p h) ++ close_session p (session p h))

-- an access point starts: it draws its first group keys, a GTK with key id 1 and where management frames are protected an
-- IGTK with key id 4, and installs them
abbrev pub start_acts : Domain → ℕ → Node → List Act
start_acts d first n = draw_acts d n first ++ current_acts d n (add (draw_acts d n first) [])
