-- An event adds one group of acts.
use Rattle.std.proofs.Common.{◌≡◌, ◌⊎◌, ℕ, Bool, true, false, true≢false, cond, length, List, [], ◌∷◌, ◌++◌, Option, Some, None, refl, sym, subst, ap, ◌∙◌, arith, inl, inr}
use Rattle.std.specs.Prelude.{unwrap_or, ◌||◌}
use Rattle.domain_base.specs.declared.names.Mac.{Mac}
use Rattle.domain_base.specs.declared.names.Node.{Node}
use Rattle.domain_base.specs.declared.names.Node.TheVariants.{Ap}
use Rattle.eapol_key.specs.declared.messages.Message.{Message}
use Rattle.eapol_key.specs.declared.messages.Message.TheVariants.{M1, M2, M3, M4, G1, G2}
use Rattle.key_hierarchy.specs.Keys.{ptk}
use Rattle.key_hierarchy.specs.declared.inputs.Inputs.{Inputs}
use Rattle.run_journal.specs.declared.domain.Domain.{Domain}
use Rattle.run_journal.specs.Events.{protects}
use Rattle.run_journal.specs.declared.acts.Start.TheVariants.{Connect, Roam, Renew}
use Rattle.run_journal.specs.declared.acts.Drawn.TheVariants.{Nonce}
use Rattle.run_journal.specs.declared.acts.Kind.{Kind}
use Rattle.run_journal.specs.declared.acts.Kind.TheVariants as kind
use Rattle.run_journal.specs.declared.acts.Reason.{Reason}
use Rattle.run_journal.specs.declared.acts.Outcome.{Outcome}
use Rattle.run_journal.specs.declared.acts.Outcome.TheVariants.{Accepted, Answered, Ignored, Refused}
use Rattle.run_journal.specs.declared.acts.Act.{Act}
use Rattle.run_journal.specs.declared.acts.Act.TheVariants.{Opened, Drew, Derived, Took, Installed, HandedUp, Finished, Looked}
use Rattle.run_journal.specs.declared.acts.Key.TheVariants.{Pairwise}
use Rattle.domain_base.specs.declared.names.Peer.TheVariants.{One}
use Rattle.run_journal.specs.Acts.{same, Derivation, GroupKey}
use Rattle.domain_rules.specs.Counters.{next_counter}
use Rattle.domain_rules.specs.GroupKeys.{give, GivenKeys, give_igtk, give_all, news}
use Rattle.rsn_elements.specs.Elements.{ElementFields}
use Rattle.run_journal.specs.Questions.{attempt, associated, session, before_sent, listed, add}
use Rattle.domain_rules.specs.Network.{mac, Root, r0kh_id, station_of, inputs, root_by, inputs_at}
use Rattle.domain_base.specs.declared.names.Akm.{Akm}
use Rattle.domain_base.specs.declared.names.Akm.TheVariants.{Psk, PskSha256, FtPsk}
use Rattle.domain_base.specs.declared.names.Node.TheVariants.{Sta}
use Rattle.key_hierarchy.specs.declared.answers.PullAnswer.{PullAnswer}
use Rattle.key_hierarchy.specs.declared.answers.PullAnswer.TheVariants.{Found}
use Rattle.key_hierarchy.specs.declared.fast_transition.PmkR1.{PmkR1}
use Rattle.rsn_elements.specs.Transition.{FteFields}
use Rattle.eapol_key.specs.Octets.{frame_octets}
use Rattle.eapol_key.specs.Sent.{sent_fields}
use Rattle.eapol_key.specs.Sealed.{sealed}
use Rattle.run_journal.specs.declared.acts.Seal.{Seal}
use Rattle.run_journal.specs.Holders.{answer_of, answers, first_stored, since_finished, last_r0kh_id}
use Rattle.domain_rules.specs.FastTransition.{single, gtk_in, igtk_in}
use Rattle.domain_rules.specs.TransitionKeyData.{responded_fte, responded_r0kh_id}
use Rattle.domain_rules.specs.TransitionKeys.{Asked, asked, Judged, judged, re_req_seal, re_resp_keying, re_resp_seal}
use Rattle.domain_rules.specs.TransitionFrames.{sent_ft_resp, sent_re_req, re_resp_fte, sent_re_resp}
use Rattle.domain_rules.specs.TransitionRows.{sent_again, derived_from, carried_by, carried_igtk_by, keys_by, refused_look, RoamRow, NoSession, SamePeer}
use Rattle.domain_rules.specs.TransitionRows as roam
use Rattle.domain_rules.specs.KeyHolders.{put_acts}
use Rattle.domain_rules.specs.GroupKeys.{is_current}
use Rattle.domain_rules.specs.Owing.{any_owes, current_act, current_igtk, current_acts, switch_acts}
use Rattle.std.proofs.lemmas.List.{append-nil}
use Rattle.domain_rules.specs.Reading.{Management, KeyMessage, Reading, PassedOver, Managed, Keyed, Sealed, Acting, kind_of}
use Rattle.domain_rules.specs.Frames.{sent_assoc_resp, sent_sealed, sent_m1, sent_m2_by, sent_m2_key_data, sent_m3, sent_m4, sent_g2, frame_seal, keyed_by}
use Rattle.domain_rules.specs.Facts.{Facts}
use Rattle.air_frame.specs.Fields.{HeaderFields}
use Rattle.air_frame.specs.declared.frame.Direction.{Direction}
use Rattle.ccmp_guard.specs.Ccmp.{packet_number}
use Rattle.bip_guard.specs.Bip.{ipn_in}
use Rattle.domain_rules.specs.PacketNumbers.{OpenKey}
use Rattle.domain_rules.specs.DataFrames.{data_seal}
use Rattle.domain_rules.specs.DataVerdict.{opened_by}
use Rattle.domain_rules.specs.ManagementFrames.{action_seal, integrity_key, before_mme, before_mic}
use Rattle.domain_rules.specs.Verdict.{Knows, verdict}
use Rattle.domain_rules.specs.StationKeys.{Keying, m3_keying}
use Rattle.domain_rules.specs.AccessPointKeys.{m4_keying}
use Rattle.domain_rules.specs.AccessPointRows.{carried_older, m4_acts, newer_acts, RekeyRow, Pending, Renews}
use Rattle.domain_rules.specs.AccessPointRows as rekey
use Rattle.domain_rules.specs.PairwiseRenewal.{RenewRow}
use Rattle.domain_rules.specs.PairwiseRenewal as renew
use Rattle.domain_rules.specs.Owing.{owing, and_switch}
use Rattle.domain_rules.specs.Asking.{own, is_by_renewal, in_renewal}
use Rattle.domain_rules.specs.Rows.{NodeEvent, Take, Begin, Retry, Rekey, Send, Expire, Leave, Roam as RoamEvent, Revoke, Secret, Renew as RenewEvent, Announce, refused_seal, response, TakeRows, By_assoc_req, By_assoc_resp, By_m1, By_opening_m1, By_m2, By_m3, By_repeated_m3, By_m4, By_g1, By_g2, By_data, By_action, By_ft_req, By_repeated_ft_req, By_ft_resp, By_re_req, By_repeated_re_req, By_re_resp, By_ignored, By_refusal, TakeRow, RowOf, Adds}
use Rattle.domain_rules.specs.Closing.{close_attempt, close_session, close_associated, next_nonce, sender}
use Rattle.domain_rules.specs.StationRows.{carried_keys, replaced, ConnectRow, Spent, Asks}
use Rattle.domain_rules.specs.Here.{here}
use Rattle.domain_rules.proofs.OneReading.{one_reading_at}
use Rattle.domain_rules.proofs.OneOutcome.{one_verdict, same_carried, same_carried_g1, same_payload, same_responded, same_unwrapped_key, same_unwrapped_igtk}
use Rattle.domain_rules.proofs.Pulled.{given_first, settled, freed}
use Rattle.run_journal.specs.declared.acts.GroupKind.TheVariants as groups

-- ---- the acts, as a function of the outcome

abbrev part_of : Node → List Act → List Act
part_of p h = unwrap_or (attempt p h) []

-- what reading further tells of a frame that was accepted: the group keys that it carries, and the payload; with suite 4 what the
-- association response says, the PMK-R1 that was given, and the group keys of a reassociation response
record Load : Type 0 where
  keys : GivenKeys
  plain : Option (List ℕ)
  responded : Option ElementFields
  pulled : Option PmkR1
  unwrapped : Option (List ℕ)
  unwrapped_igtk : Option (List ℕ)

abbrev load_of : Facts → Load
load_of facts = record { keys = carried_keys facts.data_; plain = facts.opened; responded = facts.responded; pulled = facts.pulled; unwrapped = facts.unwrapped; unwrapped_igtk = facts.unwrapped_igtk }

-- the group keys of a reassociation response
abbrev response_keys : Option FteFields → Load → GivenKeys
response_keys fte x = record { gtk = carried_by (gtk_in fte) x.unwrapped; igtk = carried_igtk_by (igtk_in fte) x.unwrapped_igtk }

abbrev ft_req_inputs : Domain → ℕ → Node → List Act → Node → Asked → Inputs
ft_req_inputs d first n h p a = inputs_at d n p a.r0kh_id (next_nonce d first n h) a.snonce

abbrev begun_acts : Domain → Node → List Act → List ℕ → Node → Asked → List ℕ → PmkR1 → Inputs → List Act
begun_acts d n h octets p a name k i =
    Took (Some p) octets kind.FtReq Accepted None ∷ Looked a.r0kh_id name p (Found k) ∷ close_attempt p (attempt p h)
    ++ Opened p Roam ∷ Drew (Nonce i.anonce) ∷ Derived p i (derived_from k i).ptk ∷ sent_ft_resp d n p name i ∷ []

abbrev ft_req_named : Domain → ℕ → Node → List Act → List ℕ → Node → Asked → Option (List ℕ) → Option PmkR1 → List Act
ft_req_named d first n h octets p a (Some name) (Some k) = begun_acts d n h octets p a name k (ft_req_inputs d first n h p a)
ft_req_named d first n h octets p a name k = []

abbrev ft_req_acts : Domain → ℕ → Node → List Act → List ℕ → Node → Option Asked → Option PmkR1 → List Act
ft_req_acts d first n h octets p None k = []
ft_req_acts d first n h octets p (Some a) k = ft_req_named d first n h octets p a (single a.names) k

abbrev ft_resp_acts : Domain → Node → List Act → List ℕ → Node → List Act → Option FteFields → List Act
ft_resp_acts d n h octets p part None = []
ft_resp_acts d n h octets p part (Some f) =
    Took (Some p) octets kind.FtResp Accepted None ∷ Derived p (inputs_at d n p (last_r0kh_id h) (own part) f.anonce) (ptk (inputs_at d n p (last_r0kh_id h) (own part) f.anonce))
    ∷ sent_re_req d n p (unwrap_or (associated h) p) (keyed_by (inputs_at d n p (last_r0kh_id h) (own part) f.anonce)) ∷ []

abbrev re_req_acts : Domain → Node → List Act → List ℕ → Node → Option Seal → Option Judged → List Act
re_req_acts d n h octets p seal None = []
re_req_acts d n h octets p seal (Some y) =
    Took (Some p) octets kind.ReReq Accepted seal ∷ close_session p (session p h)
    ++ Installed (One p) (Pairwise y.by_.key.ptk.tk y.by_.key.inputs) ∷ Finished p y.by_.key.inputs
    ∷ sent_re_resp d n p y.by_.r1_name y.by_.key (re_resp_fte d n y.by_.key (news d h)) ∷ []

-- with the acts that give these group keys
abbrev re_resp_given : List Act → List ℕ → Node → Option Seal → Derivation → List Act → List Act
re_resp_given h octets p seal x given_ =
    Took (Some p) octets kind.ReResp Accepted seal ∷ close_associated (associated h)
    ++ Installed (One p) (Pairwise x.ptk.tk x.inputs) ∷ (given_ ++ Finished p x.inputs ∷ [])

abbrev re_resp_acts : Domain → List Act → List ℕ → Node → Option Seal → GivenKeys → Option Derivation → List Act
re_resp_acts d h octets p seal keys None = []
re_resp_acts d h octets p seal keys (Some x) = re_resp_given h octets p seal x (give_all d p (mac d p) keys h)

abbrev managed_acts : Domain → ℕ → Node → List Act → List ℕ → Node → Management → ElementFields → Load → Kind → List Act
managed_acts d first n h octets p b e x kind.AssocReq =
    Took (Some p) octets kind.AssocReq Accepted None ∷ close_attempt p (attempt p h)
    ++ Opened p Connect ∷ Drew (Nonce (next_nonce d first n h)) ∷ sent_assoc_resp d n p ∷ sent_m1 d n p 1 (next_nonce d first n h) ∷ []
managed_acts d first n h octets p b e x kind.AssocResp = Took (Some p) octets kind.AssocResp Accepted None ∷ []
managed_acts d first n h octets p b e x kind.FtReq = ft_req_acts d first n h octets p (asked e) x.pulled
managed_acts d first n h octets p b e x kind.FtResp = ft_resp_acts d n h octets p (part_of p h) e.fte
managed_acts d first n h octets p b e x kind.ReReq = re_req_acts d n h octets p (re_req_seal d n h p e) (judged p h e)
managed_acts d first n h octets p b e x kind.ReResp = re_resp_acts d h octets p (re_resp_seal d n h p b e) (response_keys e.fte x) (re_resp_keying p h)
managed_acts d first n h octets p b e x _ = []

abbrev m1_inputs : Domain → Node → List Act → Node → KeyMessage → Option ElementFields → Inputs
m1_inputs d n part p k q = inputs_at d n p (responded_r0kh_id q) (own part) k.fields.nonce

abbrev m1_acts : Bool → Domain → Node → List ℕ → Node → KeyMessage → Inputs → List ℕ → List Act
m1_acts renewing d n octets p k i fte = Took (Some p) octets (kind.Key M1) Accepted None ∷ Derived p i (ptk i) ∷ sent_m2_by renewing d n p (keyed_by i) k.fields.counter fte ∷ []

abbrev opening_acts : Domain → ℕ → Node → List Act → List ℕ → Node → KeyMessage → Inputs → List Act
opening_acts d first n h octets p k i =
    Took (Some p) octets (kind.Key M1) Accepted None ∷ Opened p Renew ∷ Drew (Nonce (next_nonce d first n h)) ∷ Derived p i (ptk i) ∷ sent_m2_by true d n p (keyed_by i) k.fields.counter [] ∷ []

abbrev taken_m1 : Domain → ℕ → Node → List Act → List ℕ → Node → KeyMessage → Option ElementFields → Option (List Act) → List Act
taken_m1 d first n h octets p k q (Some part) = m1_acts (is_by_renewal part) d n octets p k (m1_inputs d n part p k q) (unwrap_or (responded_fte q) [])
taken_m1 d first n h octets p k q None = opening_acts d first n h octets p k (inputs_at d n p [] (next_nonce d first n h) k.fields.nonce)

abbrev m2_acts : Domain → Node → List Act → List Act → List ℕ → Node → KeyMessage → Inputs → List Act
m2_acts d n h part octets p k i =
    Took (Some p) octets (kind.Key M2) Accepted (Some (frame_seal (ptk i).kck k.octets)) ∷ Derived p i (ptk i) ∷ sent_m3 d n p (keyed_by i) (next_counter p h part) (news d h) ∷ []

abbrev taken_m2 : Domain → Node → List Act → List Act → List ℕ → Node → KeyMessage → List Act
taken_m2 d n h part octets p k = m2_acts d n h part octets p k (inputs_at d n p (r0kh_id d n) (own part) k.fields.nonce)

abbrev m3_acts : Domain → Node → List Act → List ℕ → Node → KeyMessage → GivenKeys → Option Keying → List Act
m3_acts d n h octets p k keys None = []
m3_acts d n h octets p k keys (Some y) =
    Took (Some p) octets (kind.Key M3) Accepted (Some (frame_seal y.key.ptk.kck k.octets)) ∷ (replaced p (in_renewal (attempt p h)) ++ Installed (One p) (Pairwise y.key.ptk.tk y.key.inputs)
    ∷ (give_all d p (mac d p) keys h ++ Finished p y.key.inputs ∷ sent_m4 d n p y.key k.fields.counter ∷ []))

abbrev repeated_acts : Domain → Node → List ℕ → Node → KeyMessage → Option Keying → List Act
repeated_acts d n octets p k None = []
repeated_acts d n octets p k (Some y) = Took (Some p) octets (kind.Key M3) Answered (Some (frame_seal y.key.ptk.kck k.octets)) ∷ sent_m4 d n p y.key k.fields.counter ∷ []

abbrev taken_m4 : Domain → Node → List Act → List ℕ → Node → KeyMessage → Option Derivation → List Act
taken_m4 d n h octets p k None = []
taken_m4 d n h octets p k (Some x) =
    m4_acts octets k p x (session p h) (put_acts d n h p x)
    ++ newer_acts d n p (add (m4_acts octets k p x (session p h) (put_acts d n h p x)) h) x (carried_older p h (before_sent p (kind.Key M3) h))

abbrev g1_acts : Domain → Node → List Act → List ℕ → Node → KeyMessage → GivenKeys → Option Derivation → List Act
g1_acts d n h octets p k keys None = []
g1_acts d n h octets p k keys (Some x) =
    Took (Some p) octets (kind.Key G1) Accepted (Some (frame_seal x.ptk.kck k.octets))
    ∷ (give_all d p (mac d p) keys h ++ sent_g2 d n p x k.fields.counter ∷ [])

abbrev g2_acts : List ℕ → Node → KeyMessage → Option Derivation → List Act
g2_acts octets p k None = []
g2_acts octets p k (Some x) = Took (Some p) octets (kind.Key G2) Accepted (Some (frame_seal x.ptk.kck k.octets)) ∷ []

abbrev keyed_acts : Domain → ℕ → Node → List Act → List ℕ → Node → KeyMessage → Load → Message → List Act
keyed_acts d first n h octets p k x M1 = taken_m1 d first n h octets p k x.responded (attempt p h)
keyed_acts d first n h octets p k x M2 = taken_m2 d n h (part_of p h) octets p k
keyed_acts d first n h octets p k x M3 = m3_acts d n h octets p k x.keys (m3_keying p h k)
keyed_acts d first n h octets p k x M4 = taken_m4 d n h octets p k (m4_keying p (part_of p h))
keyed_acts d first n h octets p k x G1 = g1_acts d n h octets p k x.keys (session p h)
keyed_acts d first n h octets p k x G2 = g2_acts octets p k (owing groups.Gtk p h)

abbrev data_acts : List ℕ → Node → HeaderFields → List ℕ → Option (List ℕ) → Option OpenKey → List Act
data_acts octets p header body (Some plain) (Some k) =
    Took (Some p) octets kind.Data Accepted (Some (data_seal k.key header.octets (packet_number body) plain))
    ∷ HandedUp p k.key k.id k.tid (packet_number body) plain ∷ []
data_acts octets p header body plain k = []

abbrev action_acts : List ℕ → Node → HeaderFields → List ℕ → Option GroupKey → List Act
action_acts octets p header body (Some k) =
    Took (Some p) octets kind.Action Accepted (Some (action_seal k.key header.octets (before_mic body))) ∷ HandedUp p k.key k.id 0 (ipn_in body) (before_mme body) ∷ []
action_acts octets p header body None = []

abbrev accepted_acts : Domain → ℕ → Node → List Act → List ℕ → Load → Option Node → Reading → List Act
accepted_acts d first n h octets g (Some p) (Managed b e) = managed_acts d first n h octets p b e g b.kind
accepted_acts d first n h octets g (Some p) (Keyed k) = keyed_acts d first n h octets p k g k.message
accepted_acts d first n h octets g (Some p) (Sealed header way tid body) = data_acts octets p header body g.plain (opened_by n h p header tid body)
accepted_acts d first n h octets g (Some p) (Acting header body) = action_acts octets p header body (integrity_key p h body)
accepted_acts d first n h octets g from r = []

abbrev answered_frame : Domain → Node → List Act → List ℕ → Node → ElementFields → Kind → List Act
answered_frame d n h octets p e kind.FtReq = Took (Some p) octets kind.FtReq Answered None ∷ sent_again p kind.FtResp (first_stored p kind.FtResp (part_of p h))
answered_frame d n h octets p e kind.ReReq = Took (Some p) octets kind.ReReq Answered (re_req_seal d n h p e) ∷ sent_again p kind.ReResp (first_stored p kind.ReResp (since_finished p h))
answered_frame d n h octets p e _ = []

abbrev answered_acts : Domain → Node → List Act → List ℕ → Option Node → Reading → List Act
answered_acts d n h octets (Some p) (Keyed k) = repeated_acts d n octets p k (m3_keying p h k)
answered_acts d n h octets (Some p) (Managed b e) = answered_frame d n h octets p e b.kind
answered_acts d n h octets from r = []

abbrev refused_acts : Domain → ℕ → Node → List Act → List ℕ → Reading → Option PmkR1 → Reason → List Act
refused_acts d first n h octets r pulled w =
    Took (sender d n r) octets (kind_of r) (Refused w) (refused_seal d first n h r) ∷ refused_look n (sender d n r) r pulled w ++ response d n (sender d n r) (kind_of r) w

abbrev acts_by : Domain → ℕ → Node → List Act → List ℕ → Reading → Load → Outcome → List Act
acts_by d first n h octets r g Accepted = accepted_acts d first n h octets g (sender d n r) r
acts_by d first n h octets r g Answered = answered_acts d n h octets (sender d n r) r
acts_by d first n h octets r g Ignored = Took None octets kind.Ignored Ignored None ∷ []
acts_by d first n h octets r g (Refused w) = refused_acts d first n h octets r g.pulled w
acts_by d first n h octets r g _ = []

part_is : (p : Node) (h part : List Act) → attempt p h ≡ Some part → part ≡ part_of p h
part_is p h part s = sym (ap (λ (o : Option (List Act)). unwrap_or o []) s)

-- the acts that follow the acceptance of a message
keyed_is : (d : Domain) (first : ℕ) (n : Node) (h : List Act) (octets : List ℕ) (r : Reading) (o : Outcome) (k : KeyMessage) (m : Message) (p : Node) (x : Load) → o ≡ Accepted → sender d n r ≡ Some p → r ≡ Keyed k → k.message ≡ m
    → acts_by d first n h octets r x o ≡ keyed_acts d first n h octets p k x m
keyed_is d first n h octets r o k m p x accepted from is message_is =
    ap (acts_by d first n h octets r x) accepted ∙ ap (λ (o : Option Node). accepted_acts d first n h octets x o r) from
    ∙ ap (accepted_acts d first n h octets x (Some p)) is ∙ ap (keyed_acts d first n h octets p k x) message_is

managed_is : (d : Domain) (first : ℕ) (n : Node) (h : List Act) (octets : List ℕ) (r : Reading) (o : Outcome) (b : Management) (e : ElementFields) (m : Kind) (p : Node) (x : Load) → o ≡ Accepted → sender d n r ≡ Some p → r ≡ Managed b e → b.kind ≡ m
    → acts_by d first n h octets r x o ≡ managed_acts d first n h octets p b e x m
managed_is d first n h octets r o b e m p x accepted from is kind_is =
    ap (acts_by d first n h octets r x) accepted ∙ ap (λ (o : Option Node). accepted_acts d first n h octets x o r) from
    ∙ ap (accepted_acts d first n h octets x (Some p)) is ∙ ap (managed_acts d first n h octets p b e x) kind_is

answered_is : (d : Domain) (first : ℕ) (n : Node) (h : List Act) (octets : List ℕ) (r : Reading) (o : Outcome) (k : KeyMessage) (p : Node) (x : Load) → o ≡ Answered → sender d n r ≡ Some p → r ≡ Keyed k
    → acts_by d first n h octets r x o ≡ repeated_acts d n octets p k (m3_keying p h k)
answered_is d first n h octets r o k p x answered from is =
    ap (acts_by d first n h octets r x) answered ∙ ap (λ (o : Option Node). answered_acts d n h octets o r) from ∙ ap (answered_acts d n h octets (Some p)) is

repeated_is : (d : Domain) (first : ℕ) (n : Node) (h : List Act) (octets : List ℕ) (r : Reading) (o : Outcome) (b : Management) (e : ElementFields) (m : Kind) (p : Node) (x : Load) → o ≡ Answered → sender d n r ≡ Some p → r ≡ Managed b e → b.kind ≡ m
    → acts_by d first n h octets r x o ≡ answered_frame d n h octets p e m
repeated_is d first n h octets r o b e m p x answered from is kind_is =
    ap (acts_by d first n h octets r x) answered ∙ ap (λ (o : Option Node). answered_acts d n h octets o r) from ∙ ap (answered_acts d n h octets (Some p)) is ∙ ap (answered_frame d n h octets p e) kind_is

data_is : (d : Domain) (first : ℕ) (n : Node) (h : List Act) (octets : List ℕ) (r : Reading) (o : Outcome) (header : HeaderFields) (way : Direction) (tid : Option ℕ) (body : List ℕ) (p : Node) (x : Load) → o ≡ Accepted → sender d n r ≡ Some p → r ≡ Sealed header way tid body
    → acts_by d first n h octets r x o ≡ data_acts octets p header body x.plain (opened_by n h p header tid body)
data_is d first n h octets r o header way tid body p x accepted from is =
    ap (acts_by d first n h octets r x) accepted ∙ ap (λ (o : Option Node). accepted_acts d first n h octets x o r) from
    ∙ ap (accepted_acts d first n h octets x (Some p)) is

action_is : (d : Domain) (first : ℕ) (n : Node) (h : List Act) (octets : List ℕ) (r : Reading) (o : Outcome) (header : HeaderFields) (body : List ℕ) (p : Node) (x : Load) → o ≡ Accepted → sender d n r ≡ Some p → r ≡ Acting header body
    → acts_by d first n h octets r x o ≡ action_acts octets p header body (integrity_key p h body)
action_is d first n h octets r o header body p x accepted from is =
    ap (acts_by d first n h octets r x) accepted ∙ ap (λ (o : Option Node). accepted_acts d first n h octets x o r) from
    ∙ ap (accepted_acts d first n h octets x (Some p)) is

-- what an accepted M3 or G1 carries is this, and so is the payload of accepted data, and what is known with suite 4
record Carries (d : Domain) (first : ℕ) (n : Node) (h : List Act) (r : Reading) (facts : Facts) (x : Load) : Type 0 where
  keys : (k : KeyMessage) → r ≡ Keyed k → (k.message ≡ M3) ⊎ (k.message ≡ G1) → verdict d first n h r facts ≡ Accepted → carried_keys facts.data_ ≡ x.keys
  plain : (header : HeaderFields) (way : Direction) (tid : Option ℕ) (body : List ℕ) → r ≡ Sealed header way tid body → verdict d first n h r facts ≡ Accepted → facts.opened ≡ x.plain
  responded : (k : KeyMessage) → r ≡ Keyed k → k.message ≡ M1 → verdict d first n h r facts ≡ Accepted → d.akm ≡ FtPsk → facts.responded ≡ x.responded
  pulled : facts.pulled ≡ x.pulled
  unwrapped : (b : Management) (e : ElementFields) → r ≡ Managed b e → b.kind ≡ kind.ReResp → verdict d first n h r facts ≡ Accepted → facts.unwrapped ≡ x.unwrapped
  unwrapped_igtk : (b : Management) (e : ElementFields) → r ≡ Managed b e → b.kind ≡ kind.ReResp → verdict d first n h r facts ≡ Accepted → protects d ≡ true → facts.unwrapped_igtk ≡ x.unwrapped_igtk

-- keys are given alike, where the IGTKs are the same or management frames are not protected
same_igtk : (b : Bool) (p : Node) (m : Mac) (j k : GroupKey) (h : List Act) → (b ≡ true → j ≡ k) → give_igtk b p m j h ≡ give_igtk b p m k h
same_igtk false p m j k h same = refl
same_igtk true p m j k h same = ap (λ (v : GroupKey). give groups.Igtk p m v h ∷ []) (same refl)

same_given : (d : Domain) (p : Node) (m : Mac) (j k : GivenKeys) (h : List Act) → j.gtk ≡ k.gtk → (protects d ≡ true → j.igtk ≡ k.igtk) → give_all d p m j h ≡ give_all d p m k h
same_given d p m j k h gtk igtk =
    ap (λ (v : GroupKey). give groups.Gtk p m v h ∷ give_igtk (protects d) p m j.igtk h) gtk
    ∙ ap (λ (l : List Act). give groups.Gtk p m k.gtk h ∷ l) (same_igtk (protects d) p m j.igtk k.igtk h igtk)

-- M2 with that key data
abbrev m2_with : Domain → Node → Node → Derivation → ℕ → List ℕ → Act
m2_with d n p x counter plain = sent_sealed d n p M2 x.ptk.kck (sealed d.akm x.ptk.kck (frame_octets (sent_fields M2 d.akm counter x.inputs.snonce 0 plain)))

-- what M1 comes to goes by the association response with suite 4 alone
same_fte : (akm : Akm) (d : Domain) (x : Derivation) (q r : Option ElementFields) → (akm ≡ FtPsk → q ≡ r) → sent_m2_key_data akm d x (unwrap_or (responded_fte q) []) ≡ sent_m2_key_data akm d x (unwrap_or (responded_fte r) [])
same_fte Psk d x q r same = refl
same_fte PskSha256 d x q r same = refl
same_fte FtPsk d x q r same = ap (λ (o : Option ElementFields). sent_m2_key_data FtPsk d x (unwrap_or (responded_fte o) [])) (same refl)

same_root : (akm : Akm) (d : Domain) (s : Node) (q r : Option ElementFields) → (akm ≡ FtPsk → q ≡ r) → root_by akm d s (responded_r0kh_id q) ≡ root_by akm d s (responded_r0kh_id r)
same_root Psk d s q r same = refl
same_root PskSha256 d s q r same = refl
same_root FtPsk d s q r same = ap (λ (o : Option ElementFields). root_by FtPsk d s (responded_r0kh_id o)) (same refl)

same_m1 : (b : Bool) (d : Domain) (n : Node) (part : List Act) (octets : List ℕ) (p : Node) (k : KeyMessage) (q r : Option ElementFields) → (d.akm ≡ FtPsk → q ≡ r)
    → m1_acts b d n octets p k (m1_inputs d n part p k q) (unwrap_or (responded_fte q) []) ≡ m1_acts b d n octets p k (m1_inputs d n part p k r) (unwrap_or (responded_fte r) [])
same_m1 true d n part octets p k q r same =
    ap (λ (x : Root). m1_acts true d n octets p k (inputs d x n p (own part) k.fields.nonce) []) (same_root d.akm d (station_of n p) q r same)
same_m1 false d n part octets p k q r same =
    ap (λ (x : Root). m1_acts false d n octets p k (inputs d x n p (own part) k.fields.nonce) (unwrap_or (responded_fte q) [])) (same_root d.akm d (station_of n p) q r same)
    ∙ ap (λ (plain : List ℕ). Took (Some p) octets (kind.Key M1) Accepted None ∷ Derived p (m1_inputs d n part p k r) (ptk (m1_inputs d n part p k r)) ∷ m2_with d n p (keyed_by (m1_inputs d n part p k r)) k.fields.counter plain ∷ [])
    (same_fte d.akm d (keyed_by (m1_inputs d n part p k r)) q r same)

-- the acts of a row are these
row_is : (d : Domain) (first : ℕ) (n : Node) (h : List Act) (octets : List ℕ) (r : Reading) (facts : Facts) (g : List Act) (x : Load) → Carries d first n h r facts x → TakeRows (here d first n) h octets r facts g
    → g ≡ acts_by d first n h octets r x (verdict d first n h r facts)
row_is d first n h octets r facts g x carries (By_assoc_req row) = row.says ∙ sym (managed_is d first n h octets r _ row.b row.e kind.AssocReq row.p x row.accepted row.from row.is row.kind_is)
row_is d first n h octets r facts g x carries (By_assoc_resp row) = row.says ∙ sym (managed_is d first n h octets r _ row.b row.e kind.AssocResp row.p x row.accepted row.from row.is row.kind_is)
row_is d first n h octets r facts g x carries (By_m1 row) =
    row.says ∙ ap (λ (i : Inputs). m1_acts (is_by_renewal row.part) d n octets row.p row.k i (unwrap_or (responded_fte facts.responded) [])) row.inputs_are
    ∙ same_m1 (is_by_renewal row.part) d n row.part octets row.p row.k facts.responded x.responded (carries.responded row.k row.is row.message_is row.accepted)
    ∙ ap (λ (o : Option (List Act)). taken_m1 d first n h octets row.p row.k x.responded o) (sym row.awaited)
    ∙ sym (keyed_is d first n h octets r _ row.k M1 row.p x row.accepted row.from row.is row.message_is)
row_is d first n h octets r facts g x carries (By_opening_m1 row) =
    row.says ∙ ap (opening_acts d first n h octets row.p row.k) row.inputs_are
    ∙ ap (λ (o : Option (List Act)). taken_m1 d first n h octets row.p row.k x.responded o) (sym row.none)
    ∙ sym (keyed_is d first n h octets r _ row.k M1 row.p x row.accepted row.from row.is row.message_is)
row_is d first n h octets r facts g x carries (By_m2 row) =
    row.says ∙ ap (m2_acts d n h row.part octets row.p row.k) row.inputs_are ∙ ap (λ (part : List Act). taken_m2 d n h part octets row.p row.k) (part_is row.p h row.part row.awaited)
    ∙ sym (keyed_is d first n h octets r _ row.k M2 row.p x row.accepted row.from row.is row.message_is)
row_is d first n h octets r facts g x carries (By_m3 row) =
    row.says ∙ ap (λ (v : GivenKeys). m3_acts d n h octets row.p row.k v (Some row.y)) (carries.keys row.k row.is (inl row.message_is) row.accepted)
    ∙ ap (m3_acts d n h octets row.p row.k x.keys) (sym row.awaited)
    ∙ sym (keyed_is d first n h octets r _ row.k M3 row.p x row.accepted row.from row.is row.message_is)
row_is d first n h octets r facts g x carries (By_repeated_m3 row) =
    row.says ∙ ap (repeated_acts d n octets row.p row.k) (sym row.awaited) ∙ sym (answered_is d first n h octets r _ row.k row.p x row.answered row.from row.is)
row_is d first n h octets r facts g x carries (By_m4 row) =
    row.says ∙ ap (taken_m4 d n h octets row.p row.k) (sym row.keyed ∙ ap (m4_keying row.p) (part_is row.p h row.part row.awaited))
    ∙ sym (keyed_is d first n h octets r _ row.k M4 row.p x row.accepted row.from row.is row.message_is)
row_is d first n h octets r facts g x carries (By_g1 row) =
    row.says ∙ ap (λ (v : GivenKeys). g1_acts d n h octets row.p row.k v (Some row.x)) (carries.keys row.k row.is (inr row.message_is) row.accepted)
    ∙ ap (g1_acts d n h octets row.p row.k x.keys) (sym row.awaited)
    ∙ sym (keyed_is d first n h octets r _ row.k G1 row.p x row.accepted row.from row.is row.message_is)
row_is d first n h octets r facts g x carries (By_g2 row) =
    row.says ∙ ap (g2_acts octets row.p row.k) (sym row.awaited)
    ∙ sym (keyed_is d first n h octets r _ row.k G2 row.p x row.accepted row.from row.is row.message_is)
row_is d first n h octets r facts g x carries (By_data row) =
    row.says ∙ ap (λ (v : Option (List ℕ)). data_acts octets row.p row.header row.body v (Some row.k)) (sym row.opened ∙ carries.plain row.header row.way row.tid row.body row.is row.accepted)
    ∙ ap (data_acts octets row.p row.header row.body x.plain) (sym row.under)
    ∙ sym (data_is d first n h octets r _ row.header row.way row.tid row.body row.p x row.accepted row.from row.is)
row_is d first n h octets r facts g x carries (By_action row) =
    row.says ∙ ap (action_acts octets row.p row.header row.body) (sym row.under)
    ∙ sym (action_is d first n h octets r _ row.header row.body row.p x row.accepted row.from row.is)
row_is d first n h octets r facts g x carries (By_ft_req row) =
    row.says ∙ ap (begun_acts d n h octets row.p row.a row.name row.k) row.inputs_are
    ∙ ap (λ (o : Option PmkR1). ft_req_named d first n h octets row.p row.a (Some row.name) o) (sym row.pulled ∙ carries.pulled)
    ∙ ap (λ (o : Option (List ℕ)). ft_req_named d first n h octets row.p row.a o x.pulled) (sym row.named)
    ∙ ap (λ (o : Option Asked). ft_req_acts d first n h octets row.p o x.pulled) (sym row.asks)
    ∙ sym (managed_is d first n h octets r _ row.b row.e kind.FtReq row.p x row.accepted row.from row.is row.kind_is)
row_is d first n h octets r facts g x carries (By_repeated_ft_req row) =
    row.says ∙ ap (λ (part : List Act). Took (Some row.p) octets kind.FtReq Answered None ∷ sent_again row.p kind.FtResp (first_stored row.p kind.FtResp part)) (part_is row.p h row.part row.awaited)
    ∙ sym (repeated_is d first n h octets r _ row.b row.e kind.FtReq row.p x row.answered row.from row.is row.kind_is)
row_is d first n h octets r facts g x carries (By_ft_resp row) =
    row.says
    ∙ ap (λ (i : Inputs). Took (Some row.p) octets kind.FtResp Accepted None ∷ Derived row.p i (ptk i) ∷ sent_re_req d n row.p (unwrap_or (associated h) row.p) (keyed_by i) ∷ []) row.inputs_are
    ∙ ap (λ (part : List Act). ft_resp_acts d n h octets row.p part (Some row.f)) (part_is row.p h row.part row.awaited)
    ∙ ap (ft_resp_acts d n h octets row.p (part_of row.p h)) (sym row.fte)
    ∙ sym (managed_is d first n h octets r _ row.b row.e kind.FtResp row.p x row.accepted row.from row.is row.kind_is)
row_is d first n h octets r facts g x carries (By_re_req row) =
    row.says
    ∙ ap (λ (z : Derivation). Took (Some row.p) octets kind.ReReq Accepted (re_req_seal d n h row.p row.e) ∷ close_session row.p (session row.p h)
    ++ Installed (One row.p) (Pairwise z.ptk.tk z.inputs) ∷ Finished row.p z.inputs
    ∷ sent_re_resp d n row.p row.y.by_.r1_name z (re_resp_fte d n z (news d h)) ∷ []) row.keyed
    ∙ ap (re_req_acts d n h octets row.p (re_req_seal d n h row.p row.e)) (sym row.awaited)
    ∙ sym (managed_is d first n h octets r _ row.b row.e kind.ReReq row.p x row.accepted row.from row.is row.kind_is)
row_is d first n h octets r facts g x carries (By_repeated_re_req row) =
    row.says ∙ sym (repeated_is d first n h octets r _ row.b row.e kind.ReReq row.p x row.answered row.from row.is row.kind_is)
row_is d first n h octets r facts g x carries (By_re_resp row) =
    row.says
    ∙ ap (re_resp_given h octets row.p (re_resp_seal d n h row.p row.b row.e) row.x)
    (same_given d row.p (mac d row.p) (keys_by row.e.fte facts) (response_keys row.e.fte x) h
    (ap (λ (o : Option (List ℕ)). carried_by (gtk_in row.e.fte) o) (carries.unwrapped row.b row.e row.is row.kind_is row.accepted))
    (λ on. ap (λ (o : Option (List ℕ)). carried_igtk_by (igtk_in row.e.fte) o) (carries.unwrapped_igtk row.b row.e row.is row.kind_is row.accepted on)))
    ∙ ap (re_resp_acts d h octets row.p (re_resp_seal d n h row.p row.b row.e) (response_keys row.e.fte x)) (sym row.awaited)
    ∙ sym (managed_is d first n h octets r _ row.b row.e kind.ReResp row.p x row.accepted row.from row.is row.kind_is)
row_is d first n h octets r facts g x carries (By_ignored row) = row.says ∙ sym (ap (acts_by d first n h octets r x) row.ignored)
row_is d first n h octets r facts g x carries (By_refusal row) =
    row.says ∙ ap (λ (o : Option PmkR1). refused_acts d first n h octets r o row.why) carries.pulled ∙ sym (ap (acts_by d first n h octets r x) row.refused)

same_keys : (d : Domain) (first : ℕ) (n : Node) (h : List Act) (r : Reading) (f g : Facts) → Knows d first n h r f → Knows d first n h r g
    → (k : KeyMessage) → r ≡ Keyed k → (k.message ≡ M3) ⊎ (k.message ≡ G1) → verdict d first n h r f ≡ Accepted → carried_keys f.data_ ≡ carried_keys g.data_
same_keys d first n h r f g s t k is (inr m) accepted =
    ap carried_keys (same_carried_g1 d first n h k f g m (subst (λ (v : Reading). Knows d first n h v f) is s) (subst (λ (v : Reading). Knows d first n h v g) is t) (subst (λ (v : Reading). verdict d first n h v f ≡ Accepted) is accepted))
same_keys d first n h r f g s t k is (inl m) accepted =
    ap carried_keys (same_carried d first n h k f g m (subst (λ (v : Reading). Knows d first n h v f) is s) (subst (λ (v : Reading). Knows d first n h v g) is t) (subst (λ (v : Reading). verdict d first n h v f ≡ Accepted) is accepted))

same_carries : (d : Domain) (first : ℕ) (n : Node) (h : List Act) (r : Reading) (f g : Facts) → f.pulled ≡ g.pulled → Knows d first n h r f → Knows d first n h r g → Carries d first n h r f (load_of g)
same_carries d first n h r f g pulled s t = record {
  keys = same_keys d first n h r f g s t;
  plain = λ header way tid body is accepted. same_payload d first n h header way tid body f g (subst (λ (v : Reading). Knows d first n h v f) is s) (subst (λ (v : Reading). Knows d first n h v g) is t)
      (subst (λ (v : Reading). verdict d first n h v f ≡ Accepted) is accepted);
  responded = λ k is m accepted suite. same_responded d first n h k f g m suite (subst (λ (v : Reading). Knows d first n h v f) is s) (subst (λ (v : Reading). Knows d first n h v g) is t)
      (subst (λ (v : Reading). verdict d first n h v f ≡ Accepted) is accepted);
  pulled = pulled;
  unwrapped = λ b e is k accepted. same_unwrapped_key d first n h b e f g k (subst (λ (v : Reading). Knows d first n h v f) is s) (subst (λ (v : Reading). Knows d first n h v g) is t)
      (subst (λ (v : Reading). verdict d first n h v f ≡ Accepted) is accepted);
  unwrapped_igtk = λ b e is k accepted on. same_unwrapped_igtk d first n h b e f g k (subst (λ (v : Reading). Knows d first n h v f) is s) (subst (λ (v : Reading). Knows d first n h v g) is t)
      (subst (λ (v : Reading). verdict d first n h v f ≡ Accepted) is accepted) on;
}

own_carries : (d : Domain) (first : ℕ) (n : Node) (h : List Act) (r : Reading) (f : Facts) → Carries d first n h r f (load_of f)
own_carries d first n h r f = record {
  keys = λ k is m accepted. refl;
  plain = λ header way tid body is accepted. refl;
  responded = λ k is m accepted suite. refl;
  pulled = refl;
  unwrapped = λ b e is k accepted. refl;
  unwrapped_igtk = λ b e is k accepted on. refl;
}

-- what is passed over adds one act
pub passed_over : (d : Domain) (first : ℕ) (n : Node) (h : List Act) (octets : List ℕ) (facts : Facts) (g : List Act) → TakeRows (here d first n) h octets PassedOver facts g → g ≡ Took None octets kind.Ignored Ignored None ∷ []
passed_over d first n h octets facts g rows = row_is d first n h octets PassedOver facts g (load_of facts) (own_carries d first n h PassedOver facts) rows

-- where the key holder gave the same
pub take_by : (d : Domain) (first : ℕ) (n : Node) (h : List Act) (octets : List ℕ) (f g : List Act) (s : TakeRow (here d first n) h octets f) (t : TakeRow (here d first n) h octets g) → s.facts.pulled ≡ t.facts.pulled → f ≡ g
take_by d first n h octets f g s t pulled =
    let same : s.r ≡ t.r = one_reading_at d octets s.r t.r s.reads t.reads in
    let knows : Knows d first n h s.r t.facts = subst (λ (v : Reading). Knows d first n h v t.facts) (sym same) t.knows in
    row_is d first n h octets s.r s.facts f (load_of t.facts) (same_carries d first n h s.r s.facts t.facts pulled s.knows knows) s.row
    ∙ ap (acts_by d first n h octets s.r (load_of t.facts)) (one_verdict d first n h octets s.r t.r s.facts t.facts pulled s.reads t.reads s.knows t.knows)
    ∙ ap (λ (r : Reading). acts_by d first n h octets r (load_of t.facts) (verdict d first n h t.r t.facts)) same
    ∙ sym (row_is d first n h octets t.r t.facts g (load_of t.facts) (own_carries d first n h t.r t.facts) t.row)

pub one_take : (d : Domain) (first : ℕ) (n : Node) (h : List Act) (octets : List ℕ) (f g : List Act) → TakeRow (here d first n) h octets f → TakeRow (here d first n) h octets g → answers f ≡ answers g → f ≡ g
one_take d first n h octets f g s t same =
    let u = settled d first n h octets f s in
    let v = settled d first n h octets g t in
    take_by d first n h octets f g u.0 v.0 (u.1 ∙ ap given_first same ∙ sym v.1)

-- two groups of acts that each have one look, or one group
abbrev pub OrLooks : List Act → List Act → Type 0
OrLooks f g = (f ≡ g) ⊎ ((a : PullAnswer) × ((b : PullAnswer) × ((answers f ≡ a ∷ []) × (answers g ≡ b ∷ []))))

take_looks : (d : Domain) (first : ℕ) (n : Node) (h : List Act) (octets : List ℕ) (f g : List Act) → TakeRow (here d first n) h octets f → TakeRow (here d first n) h octets g → OrLooks f g
take_looks d first n h octets f g s t = elim (freed d first n h octets f s) [
  | inr free ↦ (let u = free t.facts.pulled in inl (take_by d first n h octets f g u.0 t u.1))
  | inl once ↦ elim (freed d first n h octets g t) [
    | inr free ↦ (let u = free s.facts.pulled in inl (take_by d first n h octets f g s u.0 (sym u.1)))
    | inl other ↦ inr (once.0, (other.0, (once.1.0, other.1.0)))
  ]
]

apart_peers : (p q r : Node) (o : Option Node) → o ≡ Some q → o ≡ Some r → same p q ≡ true → same p r ≡ false → ⊥
apart_peers p q r o some too is other = let one : q ≡ r = cc (some, too) in true≢false (sym is ∙ ap (same p) one ∙ other)

pub one_connect : (d : Domain) (first : ℕ) (n : Node) (h : List Act) (p : Node) (f g : List Act) → ConnectRow (here d first n) h p f → ConnectRow (here d first n) h p g → f ≡ g
one_connect d first n h p f g (Spent many is) (Spent too also) = is ∙ sym also
one_connect d first n h p f g (Spent many is) (Asks few also) = absurd (omega arith)
one_connect d first n h p f g (Asks few is) (Spent many also) = absurd (omega arith)
one_connect d first n h p f g (Asks few is) (Asks too also) = is ∙ sym also

pub one_rekey : (d : Domain) (first : ℕ) (n : Node) (h f g : List Act) → RekeyRow (here d first n) h f → RekeyRow (here d first n) h g → f ≡ g
one_rekey d first n h f g (Pending late is) (Pending too also) = is ∙ sym also
one_rekey d first n h f g (Pending late is) (rekey.Spent all many also) = cc (late, all)
one_rekey d first n h f g (Pending late is) (Renews role all few also) = cc (late, all)
one_rekey d first n h f g (rekey.Spent all many is) (Pending late also) = cc (late, all)
one_rekey d first n h f g (rekey.Spent all many is) (rekey.Spent too more also) = is ∙ sym also
one_rekey d first n h f g (rekey.Spent all many is) (Renews role too few also) = absurd (omega (arith, many, few))
one_rekey d first n h f g (Renews role all few is) (Pending late also) = cc (late, all)
one_rekey d first n h f g (Renews role all few is) (rekey.Spent too many also) = absurd (omega (arith, many, few))
one_rekey d first n h f g (Renews role all few is) (Renews too yet low also) = is ∙ sym also

pub one_roam : (d : Domain) (first : ℕ) (n : Node) (h : List Act) (p : Node) (f g : List Act) → RoamRow (here d first n) h p f → RoamRow (here d first n) h p g → f ≡ g
one_roam d first n h p f g (NoSession none is) (NoSession too also) = is ∙ sym also
one_roam d first n h p f g (NoSession none is) (SamePeer q some same also) = cc (none, some)
one_roam d first n h p f g (NoSession none is) (roam.Spent q some other many also) = cc (none, some)
one_roam d first n h p f g (NoSession none is) (roam.Asks suite q some other few also) = cc (none, some)
one_roam d first n h p f g (SamePeer q some same is) (NoSession none also) = cc (none, some)
one_roam d first n h p f g (SamePeer q some same is) (SamePeer r too alike also) = is ∙ sym also
one_roam d first n h p f g (SamePeer q some same is) (roam.Spent r too other many also) = absurd (apart_peers p q r (associated h) some too same other)
one_roam d first n h p f g (SamePeer q some same is) (roam.Asks suited r too other few also) = absurd (apart_peers p q r (associated h) some too same other)
one_roam d first n h p f g (roam.Spent q some other many is) (NoSession none also) = cc (none, some)
one_roam d first n h p f g (roam.Spent q some other many is) (SamePeer r too same also) = absurd (apart_peers p r q (associated h) too some same other)
one_roam d first n h p f g (roam.Spent q some other many is) (roam.Spent r too unlike more also) = is ∙ sym also
one_roam d first n h p f g (roam.Spent q some other many is) (roam.Asks suited r too unlike few also) = absurd (omega (arith, many, few))
one_roam d first n h p f g (roam.Asks suite q some other few is) (NoSession none also) = cc (none, some)
one_roam d first n h p f g (roam.Asks suite q some other few is) (SamePeer r too same also) = absurd (apart_peers p r q (associated h) too some same other)
one_roam d first n h p f g (roam.Asks suite q some other few is) (roam.Spent r too unlike many also) = absurd (omega (arith, many, few))
one_roam d first n h p f g (roam.Asks suite q some other few is) (roam.Asks suited r too unlike low also) = is ∙ sym also

pub one_renew : (d : Domain) (first : ℕ) (n : Node) (h : List Act) (p : Node) (f g : List Act) → RenewRow (here d first n) h p f → RenewRow (here d first n) h p g → f ≡ g
one_renew d first n h p f g (renew.NoSession none is) (renew.NoSession too also) = is ∙ sym also
one_renew d first n h p f g (renew.NoSession none is) (renew.Nothing x some part going also) = cc (none, some)
one_renew d first n h p f g (renew.NoSession none is) (renew.Spent x some free many also) = cc (none, some)
one_renew d first n h p f g (renew.NoSession none is) (renew.Begins role on x some free few also) = cc (none, some)
one_renew d first n h p f g (renew.Nothing x some part going is) (renew.NoSession none also) = cc (none, some)
one_renew d first n h p f g (renew.Nothing x some part going is) (renew.Nothing y too other goes also) = is ∙ sym also
one_renew d first n h p f g (renew.Nothing x some part going is) (renew.Spent y too free many also) = cc (going, free)
one_renew d first n h p f g (renew.Nothing x some part going is) (renew.Begins role on y too free few also) = cc (going, free)
one_renew d first n h p f g (renew.Spent x some free many is) (renew.NoSession none also) = cc (none, some)
one_renew d first n h p f g (renew.Spent x some free many is) (renew.Nothing y too part going also) = cc (going, free)
one_renew d first n h p f g (renew.Spent x some free many is) (renew.Spent y too yet more also) = is ∙ sym also
one_renew d first n h p f g (renew.Spent x some free many is) (renew.Begins role on y too yet few also) = absurd (omega (arith, many, few))
one_renew d first n h p f g (renew.Begins role on x some free few is) (renew.NoSession none also) = cc (none, some)
one_renew d first n h p f g (renew.Begins role on x some free few is) (renew.Nothing y too part going also) = cc (going, free)
one_renew d first n h p f g (renew.Begins role on x some free few is) (renew.Spent y too yet many also) = absurd (omega (arith, many, few))
one_renew d first n h p f g (renew.Begins role on x some free few is) (renew.Begins side yet y too alone low also) = is ∙ sym also

row_looks : (d : Domain) (first : ℕ) (n : Node) (h : List Act) (event : NodeEvent) (f g : List Act) → RowOf (here d first n) h event f → RowOf (here d first n) h event g → OrLooks f g
row_looks d first n h (Take octets) f g s t = take_looks d first n h octets f g s t
row_looks d first n h (Begin a) f g s t = inl (one_connect d first n h (Ap a) f g s t)
row_looks d first n h (Retry p) f g s t = inl (s ∙ sym t)
row_looks d first n h Rekey f g s t = inl (one_rekey d first n h f g s t)
row_looks d first n h (Send q tid octets) f g s t = inl (s ∙ sym t)
row_looks d first n h (Expire p) f g s t = inl (s ∙ sym t)
row_looks d first n h Leave f g s t = inl (s ∙ sym t)
row_looks d first n h (RoamEvent a) f g s t = inl (one_roam d first n h (Ap a) f g s t)
row_looks d first n h (Revoke p) f g s t = inl (s ∙ sym t)
row_looks d first n h (Secret named psk) f g s t = inl (s ∙ sym t)
row_looks d first n h (RenewEvent p) f g s t = inl (one_renew d first n h (Sta p) f g s t)
row_looks d first n h (Announce octets) f g s t = inl (s ∙ sym t)

one_row : (d : Domain) (first : ℕ) (n : Node) (h : List Act) (event : NodeEvent) (f g : List Act) → RowOf (here d first n) h event f → RowOf (here d first n) h event g → answers f ≡ answers g → f ≡ g
one_row d first n h (Take octets) f g s t same = one_take d first n h octets f g s t same
one_row d first n h (Begin a) f g s t same = one_connect d first n h (Ap a) f g s t
one_row d first n h (Retry p) f g s t same = s ∙ sym t
one_row d first n h Rekey f g s t same = one_rekey d first n h f g s t
one_row d first n h (Send q tid octets) f g s t same = s ∙ sym t
one_row d first n h (Expire p) f g s t same = s ∙ sym t
one_row d first n h Leave f g s t same = s ∙ sym t
one_row d first n h (RoamEvent a) f g s t same = one_roam d first n h (Ap a) f g s t
one_row d first n h (Revoke p) f g s t same = s ∙ sym t
one_row d first n h (Secret named psk) f g s t same = s ∙ sym t
one_row d first n h (RenewEvent p) f g s t same = one_renew d first n h (Sta p) f g s t
one_row d first n h (Announce octets) f g s t same = s ∙ sym t

-- the switch asks no key holder
answers_one : (o : Option PullAnswer) (l m k : List PullAnswer) → l ≡ m ++ k → listed o l ≡ listed o m ++ k
answers_one None l m k is = is
answers_one (Some x) l m k is = ap (λ (v : List PullAnswer). x ∷ v) is

pub answers_append : (f g : List Act) → answers (f ++ g) ≡ answers f ++ answers g
answers_append [] g = refl
answers_append (e ∷ f) g = answers_one (answer_of e) (answers (f ++ g)) (answers f) (answers g) (answers_append f g)

current_silent : (b : Bool) (d : Domain) (n : Node) (h : List Act) → answers (current_act groups.Gtk d n h ∷ current_igtk b d n h) ≡ []
current_silent false d n h = refl
current_silent true d n h = refl

switch_silent_by : (b : Bool) (d : Domain) (a : ℕ) (h : List Act) → answers (cond b [] (current_acts d (Ap a) h)) ≡ []
switch_silent_by true d a h = refl
switch_silent_by false d a h = current_silent (protects d) d (Ap a) h

pub switched_answers : (d : Domain) (n : Node) (h g : List Act) → answers (and_switch d n h g) ≡ answers g
switched_answers d (Sta s) h g = refl
switched_answers d (Ap a) h g =
    answers_append g (switch_acts d a (add g h)) ∙ ap (λ (l : List PullAnswer). answers g ++ l) (switch_silent_by (is_current groups.Gtk (add g h) || any_owes groups.Gtk (length d.stas) (add g h)) d a (add g h)) ∙ append-nil (answers g)

pub one_group : (d : Domain) (first : ℕ) (n : Node) (h : List Act) (event : NodeEvent) (f g : List Act) → Adds (here d first n) h event f → Adds (here d first n) h event g → answers f ≡ answers g → f ≡ g
one_group d first n h event f g s t same =
    let asked : answers s.acts ≡ answers t.acts = sym (ap answers s.is ∙ switched_answers d n h s.acts) ∙ same ∙ ap answers t.is ∙ switched_answers d n h t.acts in
    s.is ∙ ap (and_switch d n h) (one_row d first n h event s.acts t.acts s.row t.row asked) ∙ sym t.is

pub group_looks : (d : Domain) (first : ℕ) (n : Node) (h : List Act) (event : NodeEvent) (f g : List Act) → Adds (here d first n) h event f → Adds (here d first n) h event g → OrLooks f g
group_looks d first n h event f g s t = elim (row_looks d first n h event s.acts t.acts s.row t.row) [
  | inl same ↦ inl (s.is ∙ ap (and_switch d n h) same ∙ sym t.is)
  | inr looks ↦ inr (looks.0, (looks.1.0, (ap answers s.is ∙ switched_answers d n h s.acts ∙ looks.1.1.0, ap answers t.is ∙ switched_answers d n h t.acts ∙ looks.1.1.1)))
]
