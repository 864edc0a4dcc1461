-- What comes of a frame has a line.
use Rattle.std.proofs.Common.{ℕ, ◌+◌, Bool, true, false, cond, List, Option, Some, None, is_some}
use Rattle.std.specs.Prelude.{if◌then◌else◌, not, nat_lt, ◌||◌, ◌&&◌, ◌==◌, bytes_eq}
use Rattle.std.specs.List.{list_any}
use Rattle.domain_base.specs.declared.names.Node.{Node}
use Rattle.domain_base.specs.declared.names.Node.TheVariants.{Ap, Sta}
use Rattle.rsn_elements.specs.Transition.{FteFields}
use Rattle.rsn_elements.specs.Elements.{ElementFields}
use Rattle.rsn_elements.specs.KeyData.{IgtkKdeFields}
use Rattle.rsn_elements.specs.Sent.{fte_octets}
use Rattle.air_frame.specs.Fields.{HeaderFields}
use Rattle.domain_base.specs.declared.names.Akm.{Akm}
use Rattle.domain_base.specs.declared.names.Akm.TheVariants.{Psk, PskSha256, FtPsk}
use Rattle.eapol_key.specs.declared.messages.Message.{Message}
use Rattle.eapol_key.specs.declared.messages.Message.TheVariants.{M1, M2, M3, M4, G1, G2}
use Rattle.run_journal.specs.declared.domain.Domain.{Domain}
use Rattle.run_journal.specs.declared.acts.Kind.{Kind}
use Rattle.run_journal.specs.declared.acts.Kind.TheVariants as kind
use Rattle.run_journal.specs.declared.acts.Malformed.TheVariants as malformed
use Rattle.run_journal.specs.declared.acts.Reason.{Reason}
use Rattle.run_journal.specs.declared.acts.Reason.TheVariants as reason
use Rattle.run_journal.specs.declared.acts.KeyDataFault.TheVariants as key_data
use Rattle.run_journal.specs.declared.acts.Outcome.{Outcome}
use Rattle.run_journal.specs.declared.acts.Outcome.TheVariants.{Accepted, Answered, Ignored, Refused}
use Rattle.run_journal.specs.declared.acts.Act.{Act}
use Rattle.run_journal.specs.declared.acts.GroupKind.TheVariants as groups
use Rattle.run_journal.specs.Questions.{attempt, session, draws, chain, handshake}
use Rattle.run_journal.specs.Acts.{Derivation, GroupKey}
use Rattle.run_journal.specs.Events.{protects}
use Rattle.domain_rules.specs.Network.{address, direction, goes_like, peer_of, draw_end, holder_of, root_at}
use Rattle.domain_rules.specs.Reading.{Management, KeyMessage, Reading, NoFrame, PassedOver, NoElements, Managed, NoKeyFrame, NoMessage, Keyed, Sealed, Acting}
use Rattle.domain_rules.specs.ManagementFrames.{integrity_key, action_verdict_by, action_further_by}
use Rattle.domain_rules.specs.Facts.{Facts, is_same}
use Rattle.domain_rules.specs.Verdict.{unless_refused, first_verdict, further, further_from, m2_further, m3_further, key_further, management_further, and_then, verdict, from_peer, management_sender, is_mine, is_mine_or_group, air_reason, key_verdict}
use Rattle.domain_rules.specs.StationKeys.{awaits_m1, opens_renewal, m1_verdict_in, Keying, m3_keying, m3_verdict_by, taken_in, m3_key_data, m3_wrapped, g1_verdict_by, g1_key_data, g1_wrapped, is_group_key, is_integrity_key, igtk_data, group_keys_data}
use Rattle.domain_rules.specs.Owing.{owing}
use Rattle.ccmp_guard.specs.Ccmp.{packet_number}
use Rattle.bip_guard.specs.Bip.{ipn_in, mic_verifies}
use Rattle.domain_rules.specs.PacketNumbers.{OpenKey}
use Rattle.domain_rules.specs.DataVerdict.{opened_by, data_verdict_by, unsealed}
use Rattle.domain_rules.specs.AccessPointKeys.{is_secured_rightly, g2_verdict_by, m4_keying, m4_verdict_by, m2_key_data, requested_rsne}
use Rattle.domain_rules.specs.Asking.{in_attempt, above, start_of, by_connect, is_four_way, is_by_roam, has_heard, kept_counter, offered, own}
use Rattle.domain_rules.specs.Associating.{response_fields, management_verdict}
use Rattle.domain_rules.specs.FastTransition.{r1_name, assoc_fte, is_named, mobility_status, mde_status, fte_status, names_r1kh, names_both, counts_three, gtk_in, is_wrapped_gtk, to_unwrap, igtk_to_unwrap, has_igtk, root_name, fte_verified, named, single}
use Rattle.domain_rules.specs.TransitionKeyData.{ft_m2_key_data, ft_m3_key_data, ft_m3_wrapped, has_same_suites, requested_suites, responded_fte, is_domain}
use Rattle.domain_rules.specs.TransitionKeys.{ft_req_further, re_resp_further, re_resp_keying, re_resp_names, unwraps, Transition, transition, session_transition, Asked, asked, repeats, asked_verdict, ft_req_asked, ft_req_verdict_by, ft_req_verdict, pulled_verdict, ft_req_pulled, ft_resp_fields, own_nonce_in, ft_resp_verdict, has_nonces, Judged, judged, re_req_covered, re_req_mic, re_req_verdict, re_req_names, re_req_further, re_resp_covered, re_resp_mic, re_resp_verdict_by, re_resp_verdict}
use Rattle.key_hierarchy.specs.declared.fast_transition.PmkR1.{PmkR1}
use Rattle.mac_prf.specs.Cmac.{cmac}
use Rattle.run_journal.specs.Holders.{last_r0kh_id}
use Rattle.domain_rules.specs.Suites.{network_rsne_by, rsne_status, without_status}
use Rattle.entry_lines.specs.Entries.{HasOutcomeLine}

-- ---- outcomes that have a line, put together of tests

-- as the type of facts, so that a proof tells which outcome it is of
pub record IsLined (o : Outcome) : Type 0 where
  pub has : HasOutcomeLine o

accepted : IsLined Accepted
accepted = record { has = tt }

answered : IsLined Answered
answered = record { has = tt }

ignored : IsLined Ignored
ignored = record { has = tt }

refused : (why : Reason) → IsLined (Refused why)
refused why = record { has = tt }

counted : (kept : ℕ) → IsLined (Refused (reason.Counter kept))
counted kept = refused (reason.Counter kept)

lined_if : (c : Bool) (a b : Outcome) → IsLined a → IsLined b → IsLined (if c then a else b)
lined_if true a b x y = x
lined_if false a b x y = y

lined_attempt : (o : Option (List Act)) (f : List Act → Outcome) → ((part : List Act) → IsLined (f part)) → IsLined (in_attempt o f)
lined_attempt None f all = refused reason.Unawaited
lined_attempt (Some part) f all = all part

lined_status : (o : Option ℕ) (a : Outcome) → IsLined a → IsLined (without_status o a)
lined_status None a x = x
lined_status (Some status) a x = refused (reason.Status status)

-- ---- what comes of the frames of a fast transition

lined_taken : (b : Bool) → IsLined (taken_in b)
lined_taken false = accepted
lined_taken true = answered

lined_mic : (kck : List ℕ) (f : Option FteFields) (input : Option (List ℕ)) (a : Outcome) → IsLined a → IsLined (fte_verified kck f input a)
lined_mic kck (Some f) (Some input) a x = lined_if (bytes_eq f.mic (cmac kck input)) _ _ x (refused reason.Mic)
lined_mic kck (Some f) None a x = x
lined_mic kck None (Some input) a x = x
lined_mic kck None None a x = x

lined_named : (name : List ℕ) (e : ElementFields) → IsLined (named name e Accepted)
lined_named name e = lined_if (is_named name e) _ _ accepted (refused reason.Name)

lined_asked : (d : Domain) (a : Asked) (b : Bool) → IsLined (asked_verdict d a b)
lined_asked d a b =
    lined_if b _ _ answered
    (lined_if (not (is_some (holder_of d a.r0kh_id))) _ _ (refused reason.NoHolder) (lined_if (is_some (single a.names)) _ _ accepted (refused reason.Name)))

lined_request : (d : Domain) (a : Option Asked) (y : Option Transition) → IsLined (ft_req_asked d a y)
lined_request d None y = refused (reason.Status fte_status)
lined_request d (Some a) y = lined_asked d a (repeats a y)

lined_ft_req_by : (akm : Akm) (d : Domain) (y : Option Transition) (e : ElementFields) → IsLined (ft_req_verdict_by akm d y e)
lined_ft_req_by FtPsk d y e = lined_status (rsne_status d e.rsne) _ (lined_status (mde_status d e.mde) _ (lined_request d (asked e) y))
lined_ft_req_by Psk d y e = refused reason.Unawaited
lined_ft_req_by PskSha256 d y e = refused reason.Unawaited

lined_ft_req : (d : Domain) (h : List Act) (p : Node) (e : ElementFields) → IsLined (ft_req_verdict d h p e)
lined_ft_req d h p e = lined_ft_req_by d.akm d (transition p h) e

lined_pulled : (drawn : ℕ) (k : Option PmkR1) → IsLined (pulled_verdict drawn k)
lined_pulled drawn None = refused reason.Name
lined_pulled drawn (Some k) = lined_if (nat_lt drawn draw_end) _ _ accepted (refused reason.Spent)

lined_repeat : (b : Bool) (o : Outcome) → IsLined o → IsLined (cond b Accepted o)
lined_repeat true o x = accepted
lined_repeat false o x = x

lined_given : (drawn : ℕ) (a : Option Asked) (y : Option Transition) (k : Option PmkR1) → IsLined (ft_req_pulled drawn a y k)
lined_given drawn None y k = accepted
lined_given drawn (Some a) y k = lined_repeat (repeats a y) _ (lined_pulled drawn k)

lined_ft_req_further : (drawn : ℕ) (h : List Act) (p : Node) (e : ElementFields) (k : Option PmkR1) → IsLined (ft_req_further drawn h p e k)
lined_ft_req_further drawn h p e k = lined_given drawn (asked e) (transition p h) k

lined_ft_fields : (d : Domain) (n : Node) (h : List Act) (p : Node) (e : ElementFields) → IsLined (ft_resp_fields d n h p e)
lined_ft_fields d n h p e =
    lined_status (rsne_status d e.rsne) _ (lined_status (mde_status d e.mde) _
    (lined_if (names_both (address d p) (last_r0kh_id h) e.fte) _ _ (lined_named (root_name d (root_at d n (last_r0kh_id h)) n) e) (refused (reason.Status fte_status))))

lined_own : (snonce : List ℕ) (f : Option FteFields) (a : Outcome) → IsLined a → IsLined (own_nonce_in snonce f a)
lined_own snonce None a x = x
lined_own snonce (Some f) a x = lined_if (bytes_eq f.snonce snonce) _ _ x (refused reason.Nonce)

lined_ft_resp : (d : Domain) (n : Node) (h : List Act) (p : Node) (b : Management) (e : ElementFields) → IsLined (ft_resp_verdict d n h p b e)
lined_ft_resp d n h p b e =
    lined_attempt (attempt p h) _ (λ part. lined_if (not (is_by_roam part) || has_heard p kind.FtResp part) _ _ (refused reason.Unawaited)
    (lined_if (not (b.status == 0)) _ _ (refused (reason.Status b.status)) (lined_own (own part) e.fte _ (lined_ft_fields d n h p e))))

lined_nonces : (b : Bool) → IsLined (cond b (Refused reason.Nonce) Accepted)
lined_nonces true = refused reason.Nonce
lined_nonces false = accepted

lined_judged : (d : Domain) (n p : Node) (e : ElementFields) (o : Option Judged) → IsLined (re_req_mic d n p e o)
lined_judged d n p e None = lined_nonces (is_some e.fte)
lined_judged d n p e (Some y) = lined_mic y.by_.key.ptk.kck e.fte (re_req_covered d n p e) _ (lined_taken y.is_session)

lined_re_req : (d : Domain) (n : Node) (h : List Act) (p : Node) (e : ElementFields) → IsLined (re_req_verdict d n h p e)
lined_re_req d n h p e = lined_if (is_some (transition p h) || is_some (session_transition p h)) _ _ (lined_judged d n p e (judged p h e)) (refused reason.Unawaited)

lined_names : (d : Domain) (n : Node) (e : ElementFields) (o : Option Judged) → IsLined (re_req_names d n e o)
lined_names d n e None = refused (reason.Status fte_status)
lined_names d n e (Some y) =
    lined_if (counts_three e.fte && names_both (address d n) y.by_.key.inputs.r0kh_id e.fte) _ _ (lined_named y.by_.r1_name e) (refused (reason.Status fte_status))

lined_re_req_further : (d : Domain) (n : Node) (h : List Act) (p : Node) (e : ElementFields) → IsLined (re_req_further d n h p e)
lined_re_req_further d n h p e = lined_status (rsne_status d e.rsne) _ (lined_status (mde_status d e.mde) _ (lined_names d n e (judged p h e)))

lined_resp_mic : (d : Domain) (n p : Node) (e : ElementFields) (x : Derivation) (f : Option FteFields) → IsLined (re_resp_mic d n p e x f)
lined_resp_mic d n p e x None = accepted
lined_resp_mic d n p e x (Some f) =
    lined_if (has_nonces f x) _ _ (lined_mic x.ptk.kck e.fte (re_resp_covered d n p e) _ accepted) (refused reason.Nonce)

lined_resp_by : (d : Domain) (n p : Node) (b : Management) (e : ElementFields) (o : Option Derivation) → IsLined (re_resp_verdict_by d n p b e o)
lined_resp_by d n p b e None = refused reason.Unawaited
lined_resp_by d n p b e (Some x) = lined_if (b.status == 0) _ _ (lined_resp_mic d n p e x e.fte) accepted

lined_re_resp : (d : Domain) (n : Node) (h : List Act) (p : Node) (b : Management) (e : ElementFields) → IsLined (re_resp_verdict d n h p b e)
lined_re_resp d n h p b e = lined_resp_by d n p b e (re_resp_keying p h)

lined_unwraps : (octets plain : Option (List ℕ)) (a : Outcome) → IsLined a → IsLined (unwraps octets plain a)
lined_unwraps (Some octets) None a x = refused reason.Wrap
lined_unwraps (Some octets) (Some plain) a x = x
lined_unwraps None plain a x = x

lined_resp_names : (d : Domain) (n p : Node) (e : ElementFields) (o : Option Derivation) → IsLined (re_resp_names d n p e o)
lined_resp_names d n p e None = refused reason.Unawaited
lined_resp_names d n p e (Some x) =
    lined_status (rsne_status d e.rsne) _ (lined_status (mde_status d e.mde) _
    (lined_if (counts_three e.fte && names_both (address d p) x.inputs.r0kh_id e.fte && is_wrapped_gtk (gtk_in e.fte) && has_igtk (protects d) e.fte) _ _ (lined_named (r1_name x.inputs) e) (refused (reason.Status fte_status))))

lined_re_resp_further : (d : Domain) (n : Node) (h : List Act) (p : Node) (b : Management) (e : ElementFields) (u v : Option (List ℕ)) → IsLined (re_resp_further d n h p b e u v)
lined_re_resp_further d n h p b e u v =
    lined_unwraps (to_unwrap e.fte) u _ (lined_unwraps (igtk_to_unwrap (protects d) e.fte) v _
    (lined_if (b.status == 0) _ _ (lined_resp_names d n p e (re_resp_keying p h)) (refused (reason.Status b.status))))

-- ---- what comes of a frame

lined_peer : (o : Option Node) (f : Node → Outcome) → ((p : Node) → IsLined (f p)) → IsLined (from_peer o f)
lined_peer None f all = refused reason.UnknownPeer
lined_peer (Some p) f all = all p

lined_above : (o : Option ℕ) (counter : ℕ) (a : Outcome) → IsLined a → IsLined (above o counter a)
lined_above None counter a x = x
lined_above (Some kept) counter a x = lined_if (nat_lt kept counter) a _ x (counted kept)

lined_key_data : (requested : Option (List ℕ)) (o : Option ElementFields) → IsLined (m2_key_data requested o)
lined_key_data requested None = refused (reason.KeyData key_data.Unreadable)
lined_key_data requested (Some e) = lined_if (is_same e.rsne_octets requested) _ _ accepted (refused (reason.KeyData key_data.Rsne))

lined_ft_m2 : (d : Domain) (n : Node) (name : List ℕ) (requested o : Option ElementFields) → IsLined (ft_m2_key_data d n name requested o)
lined_ft_m2 d n name requested None = refused (reason.KeyData key_data.Unreadable)
lined_ft_m2 d n name requested (Some e) =
    lined_if (not (has_same_suites e.rsne (requested_suites requested) && is_named name e)) _ _ (refused (reason.KeyData key_data.Rsne))
    (lined_if (not (is_domain d e.mde)) _ _ (refused (reason.KeyData key_data.Mde))
    (lined_if (is_same e.fte_octets (Some (fte_octets (assoc_fte d n)))) _ _ accepted (refused (reason.KeyData key_data.Fte))))

lined_igtk : (on : Bool) (k : Option IgtkKdeFields) → IsLined (igtk_data on k)
lined_igtk false k = accepted
lined_igtk true k = lined_if (is_integrity_key k) _ _ accepted (refused (reason.KeyData key_data.Igtk))

lined_group_keys : (d : Domain) (e : ElementFields) → IsLined (group_keys_data d e)
lined_group_keys d e = lined_if (is_group_key e.gtk) _ _ (lined_igtk (protects d) e.igtk) (refused (reason.KeyData key_data.Gtk))

lined_ft_m3 : (d : Domain) (name : List ℕ) (responded o : Option ElementFields) → IsLined (ft_m3_key_data d name responded o)
lined_ft_m3 d name responded None = refused (reason.KeyData key_data.Unreadable)
lined_ft_m3 d name responded (Some e) =
    lined_if (not (is_same e.rsne_octets (Some (network_rsne_by FtPsk d (Some name))))) _ _ (refused (reason.KeyData key_data.Rsne))
    (lined_if (not (is_domain d e.mde)) _ _ (refused (reason.KeyData key_data.Mde))
    (lined_if (not (is_same e.fte_octets (responded_fte responded))) _ _ (refused (reason.KeyData key_data.Fte)) (lined_group_keys d e)))

lined_ft_wrapped : (d : Domain) (name : List ℕ) (responded : Option ElementFields) (u : Option (List ℕ)) (o : Option ElementFields) → IsLined (ft_m3_wrapped d name responded u o)
lined_ft_wrapped d name responded None o = refused reason.Wrap
lined_ft_wrapped d name responded (Some plain) o = lined_ft_m3 d name responded o

lined_group_key : (akm : Akm) (d : Domain) (o : Option ElementFields) → IsLined (m3_key_data akm d o)
lined_group_key akm d None = refused (reason.KeyData key_data.Unreadable)
lined_group_key akm d (Some e) =
    lined_if (not (is_same e.rsne_octets (Some (network_rsne_by akm d None)))) _ _ (refused (reason.KeyData key_data.Rsne)) (lined_group_keys d e)

lined_wrapped : (akm : Akm) (d : Domain) (u : Option (List ℕ)) (o : Option ElementFields) → IsLined (m3_wrapped akm d u o)
lined_wrapped akm d None o = refused reason.Wrap
lined_wrapped akm d (Some plain) o = lined_group_key akm d o

lined_g1_data : (d : Domain) (o : Option ElementFields) → IsLined (g1_key_data d o)
lined_g1_data d None = refused (reason.KeyData key_data.Unreadable)
lined_g1_data d (Some e) = lined_group_keys d e

lined_g1_wrapped : (d : Domain) (u : Option (List ℕ)) (o : Option ElementFields) → IsLined (g1_wrapped d u o)
lined_g1_wrapped d None o = refused reason.Wrap
lined_g1_wrapped d (Some plain) o = lined_g1_data d o

lined_m1 : (d : Domain) (drawn : ℕ) (h : List Act) (p : Node) (k : KeyMessage) (o : Option (List Act)) → IsLined (m1_verdict_in d drawn h p k o)
lined_m1 d drawn h p k None =
    lined_if (opens_renewal d h p) _ _ (lined_above (kept_counter p (chain p h)) k.fields.counter _ (lined_if (nat_lt drawn draw_end) _ _ accepted (refused reason.Spent))) (refused reason.Unawaited)
lined_m1 d drawn h p k (Some part) =
    lined_if (awaits_m1 (start_of part) (has_heard p kind.AssocResp part)) _ _ (lined_above (kept_counter p (chain p h)) k.fields.counter Accepted accepted) (refused reason.Unawaited)

lined_m3 : (d : Domain) (kept : Option ℕ) (k : KeyMessage) (o : Option Keying) → IsLined (m3_verdict_by d kept k o)
lined_m3 d kept k None = refused reason.Unawaited
lined_m3 d kept k (Some y) =
    lined_above kept k.fields.counter _ (lined_if (bytes_eq k.fields.nonce y.key.inputs.anonce) _ _
    (lined_if (bytes_eq k.fields.mic _) _ _ (lined_taken y.is_session) (refused reason.Mic)) (refused reason.Nonce))

lined_m4 : (d : Domain) (p : Node) (k : KeyMessage) (part : List Act) (o : Option Derivation) → IsLined (m4_verdict_by d p k part o)
lined_m4 d p k part None = refused reason.Unawaited
lined_m4 d p k part (Some x) =
    lined_if (list_any (λ c. c == k.fields.counter) (offered p M3 part)) _ _ (lined_if (bytes_eq k.fields.mic _) _ _ accepted (refused reason.Mic)) (counted _)

lined_g1 : (d : Domain) (kept : Option ℕ) (k : KeyMessage) (o : Option Derivation) → IsLined (g1_verdict_by d kept k o)
lined_g1 d kept k None = refused reason.Unawaited
lined_g1 d kept k (Some x) =
    lined_above kept k.fields.counter _ (lined_if (bytes_eq k.fields.mic _) _ _ accepted (refused reason.Mic))

lined_g2 : (d : Domain) (h : List Act) (p : Node) (k : KeyMessage) (o : Option Derivation) → IsLined (g2_verdict_by d h p k o)
lined_g2 d h p k None = refused reason.Unawaited
lined_g2 d h p k (Some x) =
    lined_if (list_any (λ c. c == k.fields.counter) (offered p G1 (handshake groups.Gtk p h))) _ _
    (lined_if (bytes_eq k.fields.mic _) _ _ accepted (refused reason.Mic)) (counted _)

lined_data : (pn : ℕ) (o : Option OpenKey) → IsLined (data_verdict_by pn o)
lined_data pn None = refused reason.NoKey
lined_data pn (Some k) = lined_if (nat_lt k.kept pn) _ _ accepted (refused (reason.Replayed k.kept))

lined_unsealed : (o : Option (List ℕ)) → IsLined (unsealed o)
lined_unsealed None = refused reason.Seal
lined_unsealed (Some plain) = accepted

lined_action : (o : Option GroupKey) → IsLined (action_verdict_by o)
lined_action None = refused reason.NoKey
lined_action (Some g) = accepted

lined_opened : (header : HeaderFields) (body : List ℕ) (kept : ℕ) (o : Option GroupKey) → IsLined (action_further_by header body kept o)
lined_opened header body kept None = refused reason.NoKey
lined_opened header body kept (Some g) =
    lined_if (nat_lt kept (ipn_in body)) _ _ (lined_if (mic_verifies g.key header.octets body) _ _ accepted (refused reason.Seal)) (refused (reason.Replayed kept))

lined_response : (akm : Akm) (d : Domain) (p : Node) (e : ElementFields) → IsLined (response_fields akm d p e)
lined_response FtPsk d p e = lined_status (mde_status d e.mde) _ (lined_if (names_r1kh (address d p) e.fte) _ _ accepted (refused (reason.Status fte_status)))
lined_response Psk d p e = accepted
lined_response PskSha256 d p e = accepted

lined_management : (d : Domain) (drawn : ℕ) (n : Node) (h : List Act) (p : Node) (k : Kind) (b : Management) (e : ElementFields) → IsLined (management_verdict d drawn n h p k b e)
lined_management d drawn (Ap a) h p kind.AssocReq b e =
    lined_status (rsne_status d e.rsne) _ (lined_status (mobility_status d.akm d e.mde) _ (lined_if (nat_lt drawn draw_end) _ _ accepted (refused reason.Spent)))
lined_management d drawn (Sta s) h p kind.AssocResp b e =
    lined_attempt (attempt p h) _ (λ part. lined_if (not (by_connect part) || has_heard p kind.AssocResp part) _ _ (refused reason.Unawaited) (lined_if (b.status == 0) _ _ (lined_response d.akm d p e) (refused (reason.Status b.status))))
lined_management d drawn (Ap a) h p kind.FtReq b e = lined_ft_req d h p e
lined_management d drawn (Sta s) h p kind.FtResp b e = lined_ft_resp d (Sta s) h p b e
lined_management d drawn (Ap a) h p kind.ReReq b e = lined_re_req d (Ap a) h p e
lined_management d drawn (Sta s) h p kind.ReResp b e = lined_re_resp d (Sta s) h p b e
lined_management d drawn n h p _ b e = refused reason.Unawaited

lined_key : (d : Domain) (drawn : ℕ) (n : Node) (h : List Act) (p : Node) (k : KeyMessage) (m : Message) → IsLined (key_verdict d drawn n h p k m)
lined_key d drawn (Sta s) h p k M1 = lined_m1 d drawn h p k (attempt p h)
lined_key d drawn (Ap a) h p k M2 =
    lined_attempt (attempt p h) _ (λ part. lined_if (not (is_four_way part) || has_heard p (kind.Key M2) part) _ _ (refused reason.Unawaited)
    (lined_if (is_secured_rightly d part k) _ _
    (lined_if (list_any (λ c. c == k.fields.counter) (offered p M1 part)) _ _ (lined_if (bytes_eq k.fields.mic _) _ _ accepted (refused reason.Mic)) (counted _)) (refused reason.Unawaited)))
lined_key d drawn (Sta s) h p k M3 = lined_m3 d (kept_counter p (chain p h)) k (m3_keying p h k)
lined_key d drawn (Ap a) h p k M4 = lined_attempt (attempt p h) _ (λ part. lined_m4 d p k part (m4_keying p part))
lined_key d drawn (Sta s) h p k G1 = lined_g1 d (kept_counter p (chain p h)) k (session p h)
lined_key d drawn (Ap a) h p k G2 = lined_g2 d h p k (owing groups.Gtk p h)
lined_key d drawn n h p k _ = refused reason.Unawaited

lined_first : (d : Domain) (first : ℕ) (n : Node) (h : List Act) (r : Reading) → IsLined (first_verdict d first n h r)
lined_first d first n h (NoFrame fault) = refused (air_reason fault)
lined_first d first n h PassedOver = ignored
lined_first d first n h (NoElements b fault) = refused (reason.Malformed (malformed.Elements fault))
lined_first d first n h (NoKeyFrame header fault) = refused (reason.Malformed (malformed.Key fault))
lined_first d first n h (NoMessage header) = refused (reason.OutOfProfile 19)
lined_first d first n h (Managed b e) =
    lined_if (not (is_mine d n b.header)) _ _ (refused reason.NotForMe) (lined_peer (management_sender d n b.header) _ (λ p. lined_management d (first + draws h) n h p b.kind b e))
lined_first d first n h (Keyed k) =
    lined_if (not (is_mine d n k.header) || goes_like k.direction (direction n)) _ _ (refused reason.NotForMe) (lined_peer (peer_of d n k.header.a2) _ (λ p. lined_key d (first + draws h) n h p k k.message))
lined_first d first n h (Sealed header way tid body) =
    lined_if (not (is_mine_or_group d n header) || goes_like way (direction n)) _ _ (refused reason.NotForMe) (lined_peer (peer_of d n header.a2) _ (λ p. lined_data (packet_number body) (opened_by n h p header tid body)))
lined_first d first n h (Acting header body) =
    lined_if (not (is_mine_or_group d n header)) _ _ (refused reason.NotForMe) (lined_peer (management_sender d n header) _ (λ p. lined_action (integrity_key p h body)))

lined_m2_further : (akm : Akm) (d : Domain) (n p : Node) (facts : Facts) → IsLined (m2_further akm d n p facts)
lined_m2_further FtPsk d n p facts = lined_ft_m2 d n _ facts.requested facts.data_
lined_m2_further Psk d n p facts = lined_key_data (requested_rsne facts.requested) facts.data_
lined_m2_further PskSha256 d n p facts = lined_key_data (requested_rsne facts.requested) facts.data_

lined_m3_further : (akm : Akm) (d : Domain) (y : Option Keying) (facts : Facts) → IsLined (m3_further akm d y facts)
lined_m3_further FtPsk d (Some y) facts = lined_ft_wrapped d _ facts.responded facts.unwrapped facts.data_
lined_m3_further FtPsk d None facts = lined_wrapped FtPsk d facts.unwrapped facts.data_
lined_m3_further Psk d y facts = lined_wrapped Psk d facts.unwrapped facts.data_
lined_m3_further PskSha256 d y facts = lined_wrapped PskSha256 d facts.unwrapped facts.data_

lined_message : (d : Domain) (n : Node) (h : List Act) (p : Node) (k : KeyMessage) (m : Message) (facts : Facts) → IsLined (key_further d n h p k m facts)
lined_message d n h p k M2 facts = lined_m2_further d.akm d n p facts
lined_message d n h p k M3 facts = lined_m3_further d.akm d (m3_keying p h k) facts
lined_message d n h p k G1 facts = lined_g1_wrapped d facts.unwrapped facts.data_
lined_message d n h p k _ facts = accepted

lined_managed : (d : Domain) (drawn : ℕ) (n : Node) (h : List Act) (p : Node) (b : Management) (e : ElementFields) (facts : Facts) (k : Kind) → IsLined (management_further d drawn n h p b e facts k)
lined_managed d drawn (Ap a) h p b e facts kind.FtReq = lined_ft_req_further drawn h p e facts.pulled
lined_managed d drawn (Ap a) h p b e facts kind.ReReq = lined_re_req_further d (Ap a) h p e
lined_managed d drawn (Sta s) h p b e facts kind.ReResp = lined_re_resp_further d (Sta s) h p b e facts.unwrapped facts.unwrapped_igtk
lined_managed d drawn n h p b e facts _ = accepted

lined_from : (o : Option Node) (f : Node → Outcome) → ((p : Node) → IsLined (f p)) → IsLined (further_from o f)
lined_from None f all = accepted
lined_from (Some p) f all = all p

lined_further : (d : Domain) (first : ℕ) (n : Node) (h : List Act) (r : Reading) (facts : Facts) → IsLined (further d first n h r facts)
lined_further d first n h (Keyed k) facts = lined_from (peer_of d n k.header.a2) _ (λ p. lined_message d n h p k k.message facts)
lined_further d first n h (Managed b e) facts = lined_from (management_sender d n b.header) _ (λ p. lined_managed d (first + draws h) n h p b e facts b.kind)
lined_further d first n h (Sealed header way tid body) facts = lined_unsealed facts.opened
lined_further d first n h (Acting header body) facts = lined_from (management_sender d n header) _ (λ p. lined_opened header body facts.kept (integrity_key p h body))
lined_further d first n h _ facts = accepted

lined_unless : (a b : Outcome) → IsLined a → IsLined b → IsLined (unless_refused a b)
lined_unless a (Refused why) x y = y
lined_unless a _ x y = x

lined_then : (a b : Outcome) → IsLined a → IsLined b → IsLined (and_then a b)
lined_then Accepted b x y = lined_unless Accepted b x y
lined_then Answered b x y = lined_unless Answered b x y
lined_then _ b x y = x

-- whatever octets are to a node, what comes of them has a line
pub lined : (d : Domain) (first : ℕ) (n : Node) (h : List Act) (r : Reading) (facts : Facts) → HasOutcomeLine (verdict d first n h r facts)
lined d first n h r facts = (lined_then (first_verdict d first n h r) (further d first n h r facts) (lined_first d first n h r) (lined_further d first n h r facts)).has
