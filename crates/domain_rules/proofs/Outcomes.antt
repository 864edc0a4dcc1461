-- Each frame is accepted, answered, ignored or refused.
use Rattle.std.proofs.Common.{ℕ, ◌+◌, Bool, true, false, List, Option, Some, None, refl}
use Rattle.std.specs.Prelude.{not, nat_lt, ◌||◌, ◌&&◌, ◌==◌, bytes_eq}
use Rattle.std.specs.List.{list_any}
use Rattle.domain_base.specs.declared.names.Node.{Node}
use Rattle.domain_base.specs.declared.names.Node.TheVariants.{Ap, Sta}
use Rattle.air_frame.specs.Fields.{HeaderFields}
use Rattle.rsn_elements.specs.KeyData.{IgtkKdeFields}
use Rattle.rsn_elements.specs.Elements.{ElementFields}
use Rattle.rsn_elements.specs.Sent.{fte_octets}
use Rattle.domain_base.specs.declared.names.Akm.{Akm}
use Rattle.domain_base.specs.declared.names.Akm.TheVariants.{Psk, PskSha256, FtPsk}
use Rattle.eapol_key.specs.declared.messages.Message.{Message}
use Rattle.eapol_key.specs.declared.messages.Message.TheVariants.{M1, M2, M3, M4, G1, G2}
use Rattle.run_journal.specs.declared.domain.Domain.{Domain}
use Rattle.run_journal.specs.Events.{protects}
use Rattle.run_journal.specs.declared.acts.Kind.{Kind}
use Rattle.run_journal.specs.declared.acts.Kind.TheVariants as kind
use Rattle.run_journal.specs.declared.acts.Reason.TheVariants as reason
use Rattle.run_journal.specs.declared.acts.KeyDataFault.TheVariants as key_data
use Rattle.run_journal.specs.declared.acts.Outcome.{Outcome}
use Rattle.run_journal.specs.declared.acts.Outcome.TheVariants.{Accepted, Answered}
use Rattle.run_journal.specs.declared.acts.Act.{Act}
use Rattle.run_journal.specs.declared.acts.GroupKind.TheVariants as groups
use Rattle.run_journal.specs.Questions.{attempt, session, draws, chain, handshake}
use Rattle.run_journal.specs.Acts.{Derivation, GroupKey}
use Rattle.domain_rules.specs.Network.{address, direction, goes_like, peer_of, draw_end}
use Rattle.domain_rules.specs.Reading.{Management, KeyMessage, Reading, NoFrame, PassedOver, NoElements, Managed, NoKeyFrame, NoMessage, Keyed, Sealed, Acting}
use Rattle.domain_rules.specs.Facts.{Facts, is_same}
use Rattle.domain_rules.specs.Verdict.{unless_refused, first_verdict, further, further_from, m2_further, m3_further, key_further, management_further, and_then, verdict, from_peer, management_sender, is_mine, is_mine_or_group, air_reason, key_verdict}
use Rattle.domain_rules.specs.StationKeys.{awaits_m1, opens_renewal, m1_verdict_in, Keying, m3_keying, m3_verdict_by, taken_in, m3_key_data, m3_wrapped, g1_verdict_by, g1_key_data, g1_wrapped, is_group_key, is_integrity_key, igtk_data, group_keys_data}
use Rattle.domain_rules.specs.Owing.{owing}
use Rattle.ccmp_guard.specs.Ccmp.{packet_number}
use Rattle.domain_rules.specs.PacketNumbers.{OpenKey}
use Rattle.bip_guard.specs.Bip.{ipn_in, mic_verifies}
use Rattle.domain_rules.specs.ManagementFrames.{integrity_key, action_verdict_by, action_further_by}
use Rattle.domain_rules.specs.DataVerdict.{opened_by, data_verdict_by, unsealed}
use Rattle.domain_rules.specs.AccessPointKeys.{is_secured_rightly, g2_verdict_by, m4_keying, m4_verdict_by, m2_key_data, requested_rsne}
use Rattle.domain_rules.specs.Asking.{above, start_of, by_connect, is_four_way, has_heard, kept_counter, offered}
use Rattle.domain_rules.specs.Associating.{rsne_status, response_fields, management_verdict}
use Rattle.domain_rules.specs.FastTransition.{assoc_fte, is_named, mobility_status, mde_status, fte_status, names_r1kh}
use Rattle.domain_rules.specs.Suites.{network_rsne_by}
use Rattle.domain_rules.specs.TransitionKeyData.{ft_m2_key_data, ft_m3_key_data, ft_m3_wrapped, has_same_suites, requested_suites, responded_fte, is_domain}
use Rattle.domain_rules.proofs.Deciding.{Decided, Took_in, Repeated, Passed, Thrown}
use Rattle.domain_rules.proofs.Deciding.{decided_if, refused, decided_attempt, decided_status}
use Rattle.domain_rules.proofs.TransitionOutcome.{decided_ft_req, decided_ft_req_further, decided_ft_resp, decided_re_req, decided_re_req_further, decided_re_resp, decided_re_resp_further}

decided_peer : (o : Option Node) (f : Node → Outcome) → ((p : Node) → Decided (f p)) → Decided (from_peer o f)
decided_peer None f all = refused reason.UnknownPeer
decided_peer (Some p) f all = all p

decided_above : (o : Option ℕ) (counter : ℕ) (a : Outcome) → Decided a → Decided (above o counter a)
decided_above None counter a x = x
decided_above (Some kept) counter a x = decided_if (nat_lt kept counter) a _ x (refused (reason.Counter kept))

decided_key_data : (requested : Option (List ℕ)) (o : Option ElementFields) → Decided (m2_key_data requested o)
decided_key_data requested None = refused (reason.KeyData key_data.Unreadable)
decided_key_data requested (Some e) = decided_if (is_same e.rsne_octets requested) _ _ (Took_in refl) (refused (reason.KeyData key_data.Rsne))

decided_ft_m2 : (d : Domain) (n : Node) (name : List ℕ) (requested o : Option ElementFields) → Decided (ft_m2_key_data d n name requested o)
decided_ft_m2 d n name requested None = refused (reason.KeyData key_data.Unreadable)
decided_ft_m2 d n name requested (Some e) =
    decided_if (not (has_same_suites e.rsne (requested_suites requested) && is_named name e)) _ _ (refused (reason.KeyData key_data.Rsne))
    (decided_if (not (is_domain d e.mde)) _ _ (refused (reason.KeyData key_data.Mde))
    (decided_if (is_same e.fte_octets (Some (fte_octets (assoc_fte d n)))) _ _ (Took_in refl) (refused (reason.KeyData key_data.Fte))))

decided_igtk : (b : Bool) (k : Option IgtkKdeFields) → Decided (igtk_data b k)
decided_igtk false k = Took_in refl
decided_igtk true k = decided_if (is_integrity_key k) _ _ (Took_in refl) (refused (reason.KeyData key_data.Igtk))

decided_group_keys : (d : Domain) (e : ElementFields) → Decided (group_keys_data d e)
decided_group_keys d e = decided_if (is_group_key e.gtk) _ _ (decided_igtk (protects d) e.igtk) (refused (reason.KeyData key_data.Gtk))

decided_ft_m3 : (d : Domain) (name : List ℕ) (responded o : Option ElementFields) → Decided (ft_m3_key_data d name responded o)
decided_ft_m3 d name responded None = refused (reason.KeyData key_data.Unreadable)
decided_ft_m3 d name responded (Some e) =
    decided_if (not (is_same e.rsne_octets (Some (network_rsne_by FtPsk d (Some name))))) _ _ (refused (reason.KeyData key_data.Rsne))
    (decided_if (not (is_domain d e.mde)) _ _ (refused (reason.KeyData key_data.Mde))
    (decided_if (not (is_same e.fte_octets (responded_fte responded))) _ _ (refused (reason.KeyData key_data.Fte))
    (decided_group_keys d e)))

decided_ft_wrapped : (d : Domain) (name : List ℕ) (responded : Option ElementFields) (u : Option (List ℕ)) (o : Option ElementFields) → Decided (ft_m3_wrapped d name responded u o)
decided_ft_wrapped d name responded None o = refused reason.Wrap
decided_ft_wrapped d name responded (Some plain) o = decided_ft_m3 d name responded o

decided_group_key : (akm : Akm) (d : Domain) (o : Option ElementFields) → Decided (m3_key_data akm d o)
decided_group_key akm d None = refused (reason.KeyData key_data.Unreadable)
decided_group_key akm d (Some e) =
    decided_if (not (is_same e.rsne_octets (Some (network_rsne_by akm d None)))) _ _ (refused (reason.KeyData key_data.Rsne))
    (decided_group_keys d e)

decided_wrapped : (akm : Akm) (d : Domain) (u : Option (List ℕ)) (o : Option ElementFields) → Decided (m3_wrapped akm d u o)
decided_wrapped akm d None o = refused reason.Wrap
decided_wrapped akm d (Some plain) o = decided_group_key akm d o

decided_g1_data : (d : Domain) (o : Option ElementFields) → Decided (g1_key_data d o)
decided_g1_data d None = refused (reason.KeyData key_data.Unreadable)
decided_g1_data d (Some e) = decided_group_keys d e

decided_g1_wrapped : (d : Domain) (u : Option (List ℕ)) (o : Option ElementFields) → Decided (g1_wrapped d u o)
decided_g1_wrapped d None o = refused reason.Wrap
decided_g1_wrapped d (Some plain) o = decided_g1_data d o

decided_taken : (b : Bool) → Decided (taken_in b)
decided_taken false = Took_in refl
decided_taken true = Repeated refl

decided_m3 : (d : Domain) (kept : Option ℕ) (k : KeyMessage) (o : Option Keying) → Decided (m3_verdict_by d kept k o)
decided_m3 d kept k None = refused reason.Unawaited
decided_m3 d kept k (Some y) =
    decided_above kept k.fields.counter _ (decided_if (bytes_eq k.fields.nonce y.key.inputs.anonce) _ _
    (decided_if (bytes_eq k.fields.mic _) _ _ (decided_taken y.is_session) (refused reason.Mic)) (refused reason.Nonce))

decided_m4 : (d : Domain) (p : Node) (k : KeyMessage) (part : List Act) (o : Option Derivation) → Decided (m4_verdict_by d p k part o)
decided_m4 d p k part None = refused reason.Unawaited
decided_m4 d p k part (Some x) =
    decided_if (list_any (λ c. c == k.fields.counter) (offered p M3 part)) _ _ (decided_if (bytes_eq k.fields.mic _) _ _ (Took_in refl) (refused reason.Mic)) (refused _)

decided_g1 : (d : Domain) (kept : Option ℕ) (k : KeyMessage) (o : Option Derivation) → Decided (g1_verdict_by d kept k o)
decided_g1 d kept k None = refused reason.Unawaited
decided_g1 d kept k (Some x) =
    decided_above kept k.fields.counter _ (decided_if (bytes_eq k.fields.mic _) _ _ (Took_in refl) (refused reason.Mic))

decided_g2 : (d : Domain) (h : List Act) (p : Node) (k : KeyMessage) (o : Option Derivation) → Decided (g2_verdict_by d h p k o)
decided_g2 d h p k None = refused reason.Unawaited
decided_g2 d h p k (Some x) =
    decided_if (list_any (λ c. c == k.fields.counter) (offered p G1 (handshake groups.Gtk p h))) _ _
    (decided_if (bytes_eq k.fields.mic _) _ _ (Took_in refl) (refused reason.Mic)) (refused _)

decided_data : (pn : ℕ) (o : Option OpenKey) → Decided (data_verdict_by pn o)
decided_data pn None = refused reason.NoKey
decided_data pn (Some k) = decided_if (nat_lt k.kept pn) _ _ (Took_in refl) (refused (reason.Replayed k.kept))

decided_unsealed : (o : Option (List ℕ)) → Decided (unsealed o)
decided_unsealed None = refused reason.Seal
decided_unsealed (Some plain) = Took_in refl

decided_action : (o : Option GroupKey) → Decided (action_verdict_by o)
decided_action None = refused reason.NoKey
decided_action (Some g) = Took_in refl

decided_action_further : (header : HeaderFields) (body : List ℕ) (kept : ℕ) (o : Option GroupKey) → Decided (action_further_by header body kept o)
decided_action_further header body kept None = refused reason.NoKey
decided_action_further header body kept (Some g) =
    decided_if (nat_lt kept (ipn_in body)) _ _ (decided_if (mic_verifies g.key header.octets body) _ _ (Took_in refl) (refused reason.Seal)) (refused (reason.Replayed kept))

decided_response : (akm : Akm) (d : Domain) (p : Node) (e : ElementFields) → Decided (response_fields akm d p e)
decided_response FtPsk d p e = decided_status (mde_status d e.mde) _ (decided_if (names_r1kh (address d p) e.fte) _ _ (Took_in refl) (refused (reason.Status fte_status)))
decided_response Psk d p e = Took_in refl
decided_response PskSha256 d p e = Took_in refl

decided_management : (d : Domain) (drawn : ℕ) (n : Node) (h : List Act) (p : Node) (k : Kind) (b : Management) (e : ElementFields) → Decided (management_verdict d drawn n h p k b e)
decided_management d drawn (Ap a) h p kind.AssocReq b e =
    decided_status (rsne_status d e.rsne) _ (decided_status (mobility_status d.akm d e.mde) _ (decided_if (nat_lt drawn draw_end) _ _ (Took_in refl) (refused reason.Spent)))
decided_management d drawn (Sta s) h p kind.AssocResp b e =
    decided_attempt (attempt p h) _ (λ part. decided_if (not (by_connect part) || has_heard p kind.AssocResp part) _ _ (refused reason.Unawaited) (decided_if (b.status == 0) _ _ (decided_response d.akm d p e) (refused (reason.Status b.status))))
decided_management d drawn (Ap a) h p kind.FtReq b e = decided_ft_req d h p e
decided_management d drawn (Sta s) h p kind.FtResp b e = decided_ft_resp d (Sta s) h p b e
decided_management d drawn (Ap a) h p kind.ReReq b e = decided_re_req d (Ap a) h p e
decided_management d drawn (Sta s) h p kind.ReResp b e = decided_re_resp d (Sta s) h p b e
decided_management d drawn n h p _ b e = refused reason.Unawaited

decided_m1 : (d : Domain) (drawn : ℕ) (h : List Act) (p : Node) (k : KeyMessage) (o : Option (List Act)) → Decided (m1_verdict_in d drawn h p k o)
decided_m1 d drawn h p k None =
    decided_if (opens_renewal d h p) _ _ (decided_above (kept_counter p (chain p h)) k.fields.counter _ (decided_if (nat_lt drawn draw_end) _ _ (Took_in refl) (refused reason.Spent))) (refused reason.Unawaited)
decided_m1 d drawn h p k (Some part) =
    decided_if (awaits_m1 (start_of part) (has_heard p kind.AssocResp part)) _ _ (decided_above (kept_counter p (chain p h)) k.fields.counter Accepted (Took_in refl)) (refused reason.Unawaited)

decided_key : (d : Domain) (drawn : ℕ) (n : Node) (h : List Act) (p : Node) (k : KeyMessage) (m : Message) → Decided (key_verdict d drawn n h p k m)
decided_key d drawn (Sta s) h p k M1 = decided_m1 d drawn h p k (attempt p h)
decided_key d drawn (Ap a) h p k M2 =
    decided_attempt (attempt p h) _ (λ part. decided_if (not (is_four_way part) || has_heard p (kind.Key M2) part) _ _ (refused reason.Unawaited)
    (decided_if (is_secured_rightly d part k) _ _
    (decided_if (list_any (λ c. c == k.fields.counter) (offered p M1 part)) _ _ (decided_if (bytes_eq k.fields.mic _) _ _ (Took_in refl) (refused reason.Mic)) (refused _)) (refused reason.Unawaited)))
decided_key d drawn (Sta s) h p k M3 = decided_m3 d (kept_counter p (chain p h)) k (m3_keying p h k)
decided_key d drawn (Ap a) h p k M4 = decided_attempt (attempt p h) _ (λ part. decided_m4 d p k part (m4_keying p part))
decided_key d drawn (Sta s) h p k G1 = decided_g1 d (kept_counter p (chain p h)) k (session p h)
decided_key d drawn (Ap a) h p k G2 = decided_g2 d h p k (owing groups.Gtk p h)
decided_key d drawn n h p k _ = refused reason.Unawaited

pub decided_first : (d : Domain) (first : ℕ) (n : Node) (h : List Act) (r : Reading) → Decided (first_verdict d first n h r)
decided_first d first n h (NoFrame fault) = refused (air_reason fault)
decided_first d first n h PassedOver = Passed refl
decided_first d first n h (NoElements b fault) = refused _
decided_first d first n h (NoKeyFrame header fault) = refused _
decided_first d first n h (NoMessage header) = refused _
decided_first d first n h (Managed b e) =
    decided_if (not (is_mine d n b.header)) _ _ (refused reason.NotForMe) (decided_peer (management_sender d n b.header) _ (λ p. decided_management d (first + draws h) n h p b.kind b e))
decided_first d first n h (Keyed k) =
    decided_if (not (is_mine d n k.header) || goes_like k.direction (direction n)) _ _ (refused reason.NotForMe) (decided_peer (peer_of d n k.header.a2) _ (λ p. decided_key d (first + draws h) n h p k k.message))
decided_first d first n h (Sealed header way tid body) =
    decided_if (not (is_mine_or_group d n header) || goes_like way (direction n)) _ _ (refused reason.NotForMe) (decided_peer (peer_of d n header.a2) _ (λ p. decided_data (packet_number body) (opened_by n h p header tid body)))
decided_first d first n h (Acting header body) =
    decided_if (not (is_mine_or_group d n header)) _ _ (refused reason.NotForMe) (decided_peer (management_sender d n header) _ (λ p. decided_action (integrity_key p h body)))

decided_m2_further : (akm : Akm) (d : Domain) (n p : Node) (facts : Facts) → Decided (m2_further akm d n p facts)
decided_m2_further FtPsk d n p facts = decided_ft_m2 d n _ facts.requested facts.data_
decided_m2_further Psk d n p facts = decided_key_data (requested_rsne facts.requested) facts.data_
decided_m2_further PskSha256 d n p facts = decided_key_data (requested_rsne facts.requested) facts.data_

decided_m3_further : (akm : Akm) (d : Domain) (y : Option Keying) (facts : Facts) → Decided (m3_further akm d y facts)
decided_m3_further FtPsk d (Some y) facts = decided_ft_wrapped d _ facts.responded facts.unwrapped facts.data_
decided_m3_further FtPsk d None facts = decided_wrapped FtPsk d facts.unwrapped facts.data_
decided_m3_further Psk d y facts = decided_wrapped Psk d facts.unwrapped facts.data_
decided_m3_further PskSha256 d y facts = decided_wrapped PskSha256 d facts.unwrapped facts.data_

decided_message : (d : Domain) (n : Node) (h : List Act) (p : Node) (k : KeyMessage) (m : Message) (facts : Facts) → Decided (key_further d n h p k m facts)
decided_message d n h p k M2 facts = decided_m2_further d.akm d n p facts
decided_message d n h p k M3 facts = decided_m3_further d.akm d (m3_keying p h k) facts
decided_message d n h p k G1 facts = decided_g1_wrapped d facts.unwrapped facts.data_
decided_message d n h p k _ facts = Took_in refl

decided_managed : (d : Domain) (drawn : ℕ) (n : Node) (h : List Act) (p : Node) (b : Management) (e : ElementFields) (facts : Facts) (k : Kind) → Decided (management_further d drawn n h p b e facts k)
decided_managed d drawn (Ap a) h p b e facts kind.FtReq = decided_ft_req_further drawn h p e facts.pulled
decided_managed d drawn (Ap a) h p b e facts kind.ReReq = decided_re_req_further d (Ap a) h p e
decided_managed d drawn (Sta s) h p b e facts kind.ReResp = decided_re_resp_further d (Sta s) h p b e facts.unwrapped facts.unwrapped_igtk
decided_managed d drawn n h p b e facts _ = Took_in refl

decided_from : (o : Option Node) (f : Node → Outcome) → ((p : Node) → Decided (f p)) → Decided (further_from o f)
decided_from None f all = Took_in refl
decided_from (Some p) f all = all p

pub decided_further : (d : Domain) (first : ℕ) (n : Node) (h : List Act) (r : Reading) (facts : Facts) → Decided (further d first n h r facts)
decided_further d first n h (Keyed k) facts = decided_from (peer_of d n k.header.a2) _ (λ p. decided_message d n h p k k.message facts)
decided_further d first n h (Managed b e) facts = decided_from (management_sender d n b.header) _ (λ p. decided_managed d (first + draws h) n h p b e facts b.kind)
decided_further d first n h (Sealed header way tid body) facts = decided_unsealed facts.opened
decided_further d first n h (Acting header body) facts =
    decided_from (management_sender d n header) _ (λ p. decided_action_further header body facts.kept (integrity_key p h body))
decided_further d first n h _ facts = Took_in refl

decided_unless : (a b : Outcome) → Decided a → Decided b → Decided (unless_refused a b)
decided_unless a b x (Took_in s) = rw s x
decided_unless a b x (Repeated s) = rw s x
decided_unless a b x (Passed s) = rw s x
decided_unless a b x (Thrown why s) = rw s (refused why)

decided_then : (a b : Outcome) → Decided a → Decided b → Decided (and_then a b)
decided_then a b (Took_in s) y = rw s (decided_unless Accepted b (Took_in refl) y)
decided_then a b (Repeated s) y = rw s (decided_unless Answered b (Repeated refl) y)
decided_then a b (Passed s) y = rw s (Passed refl)
decided_then a b (Thrown why s) y = rw s (refused why)

pub decided : (d : Domain) (first : ℕ) (n : Node) (h : List Act) (r : Reading) (facts : Facts) → Decided (verdict d first n h r facts)
decided d first n h r facts = decided_then (first_verdict d first n h r) (further d first n h r facts) (decided_first d first n h r) (decided_further d first n h r facts)
