-- Each row of a fast transition adds a chain of legal acts.
use Rattle.std.proofs.Common.{ℕ, ◌≡◌, ◌<◌, ◌≤◌, inl, inr, Bool, true, false, cond, List, [], ◌∷◌, ◌++◌, length, Option, Some, None, refl, sym, ap, ◌∙◌, subst, arith}
use Rattle.std.specs.Prelude.{not, ◌==◌, option_map, unwrap_or}
use Rattle.domain_base.specs.declared.names.Akm.{Akm}
use Rattle.domain_base.specs.declared.names.Akm.TheVariants.{Psk, PskSha256, FtPsk}
use Rattle.domain_base.specs.declared.names.Mac.{Mac}
use Rattle.domain_base.specs.declared.names.Node.{Node}
use Rattle.domain_base.specs.declared.names.Node.TheVariants.{Ap, Sta}
use Rattle.domain_base.specs.declared.names.Peer.TheVariants.{One}
use Rattle.key_hierarchy.specs.Keys.{ptk_by, ptk}
use Rattle.key_hierarchy.specs.FastTransition.{pmk_r0, pmk_r1, ft_ptk}
use Rattle.key_hierarchy.specs.declared.inputs.Inputs.{Inputs}
use Rattle.key_hierarchy.specs.declared.inputs.Ptk.{Ptk}
use Rattle.key_hierarchy.specs.declared.answers.PullAnswer.{PullAnswer}
use Rattle.key_hierarchy.specs.declared.answers.PullAnswer.TheVariants.{Found}
use Rattle.key_hierarchy.specs.declared.fast_transition.PmkR1.{PmkR1}
use Rattle.key_hierarchy.proofs.Lengths.{length-pmk_r1_name}
use Rattle.key_wrap.specs.KeyWrap.{Wraps}
use Rattle.air_frame.specs.Sent.{IsAddress}
use Rattle.air_frame.specs.Fields.{HeaderFields}
use Rattle.air_frame.specs.declared.frame.Direction.{Direction}
use Rattle.rsn_elements.specs.Transition.{WrappedGtkFields, WrappedIgtkFields, FteFields}
use Rattle.rsn_elements.specs.Elements.{ElementFields}
use Rattle.eapol_key.specs.declared.messages.Message.TheVariants.{M1, M2, M3, M4, G1, G2}
use Rattle.run_journal.specs.declared.domain.Domain.{Domain}
use Rattle.run_journal.specs.declared.acts.Start.{Start}
use Rattle.run_journal.specs.declared.acts.Start.TheVariants.{Connect, Roam, Renew}
use Rattle.run_journal.specs.declared.acts.Part.TheVariants.{Session}
use Rattle.run_journal.specs.declared.acts.Drawn.TheVariants.{Nonce}
use Rattle.run_journal.specs.declared.acts.Kind.{Kind}
use Rattle.run_journal.specs.declared.acts.Kind.TheVariants as kind
use Rattle.run_journal.specs.declared.acts.Why.TheVariants as why
use Rattle.run_journal.specs.declared.acts.Outcome.{Outcome}
use Rattle.run_journal.specs.declared.acts.Outcome.TheVariants.{Accepted, Answered}
use Rattle.run_journal.specs.declared.acts.Seal.{Seal}
use Rattle.run_journal.specs.declared.acts.Key.TheVariants.{Pairwise, Group}
use Rattle.run_journal.specs.declared.acts.Act.{Act}
use Rattle.run_journal.specs.declared.acts.Act.TheVariants.{Opened, Closed, Drew, Derived, Sent, Took, Installed, Finished, Looked, Idle}
use Rattle.run_journal.specs.Acts.{Derivation, GroupKey, same, finishes, same_kind}
use Rattle.run_journal.specs.Questions.{or_else, attempt, since, own_nonce, derivation, session, pending, associated, before_sent, draws, add}
use Rattle.run_journal.specs.Holders.{Stored, stored, first_stored, since_finished, last_r0kh_id}
use Rattle.run_journal.specs.Premises.{In}
use Rattle.run_journal.specs.declared.acts.GroupKind.{GroupKind}
use Rattle.run_journal.specs.declared.acts.GroupKind.TheVariants as groups
use Rattle.domain_rules.specs.Network.{mac, psk_of, station_of, address, is_ap, root_at, root_by, Root, inputs, inputs_at, draw_end}
use Rattle.run_journal.specs.Events.{IsListed, protects}
use Rattle.domain_rules.specs.Reading.{Management, KeyMessage, Reading, Managed, Keyed, Sealed, Acting, Reads, ReadsAt}
use Rattle.domain_rules.specs.Facts.{Facts}
use Rattle.domain_rules.specs.Asking.{start_of, is_roam, is_by_roam, is_by_renewal, own}
use Rattle.domain_rules.specs.Frames.{keyed_by}
use Rattle.domain_rules.specs.GroupKeys.{newest, memory, GivenKeys, give_all, news}
use Rattle.domain_rules.specs.Closing.{close_attempt, close_session, close_pending, close_associated, next_nonce}
use Rattle.domain_rules.specs.FastTransition.{fte_seal, gtk_in, gtk_id, igtk_in}
use Rattle.domain_rules.specs.TransitionFrames.{sent_ft_req, sent_ft_resp, sent_re_req, re_resp_fte, sent_re_resp}
use Rattle.domain_rules.specs.TransitionKeys.{Transition, re_req_seal}
use Rattle.domain_rules.specs.TransitionRows.{RoamRow, NoSession, SamePeer, Spent, Asks, sent_again, derived_from, FtReqRow, RepeatedFtReqRow, FtRespRow, ReReqRow, RepeatedReReqRow, carried_by, carried_igtk_by, keys_by, ReRespRow}
use Rattle.domain_rules.specs.Verdict.{first_verdict, further, Knows, verdict}
use Rattle.domain_rules.specs.Rows.{TakeRows, By_assoc_req, By_assoc_resp, By_m1, By_opening_m1, By_m2, By_m3 as By_row_m3, By_repeated_m3, By_m4, By_g1 as By_row_g1, By_g2 as By_row_g2, By_ft_req, By_repeated_ft_req, By_ft_resp, By_re_req, By_repeated_re_req, By_re_resp, By_data, By_action, By_ignored, By_refusal}
use Rattle.domain_rules.specs.Here.{here}
use Rattle.domain_rules.proofs.Parts.{same-true, same-refl, same-false, Grows, Begins, Goes_on, grows, since_part, attempt_more, attempt_some, start_more, in_part, own_nonce_more}
use Rattle.domain_rules.proofs.OneOutcome.{and_accepted}
use Rattle.domain_rules.proofs.Peers.{listed-address}
use Rattle.domain_rules.proofs.Unprotected.{reads_here}
use Rattle.domain_rules.specs.InOctets.{InOctets}
use Rattle.journal_safety.proofs.Ends.{Tail, tail_refl, tail_trans, tail_rest, tail_in}
use Rattle.journal_safety.proofs.CoversFte.{fte_number, CoversFte, number_fte, took_fte, fte_raw, fte_nonces, fte_holder}
use Rattle.journal_safety.proofs.Legal.{Of_fte, nonce_of, own_address, peer_address, AreCommon, LegalKind, derives, Verified, Uninstalled, IsUsed, Built, wrapped_as, CarriesResponse, Carries, Of_response, is_framed, LegalSealed, With_mic, With_frame, In_response, Given, By_m3, LegalGroup, LegalOpened, LegalLook, Legal, LegalHistory, verified_more}
use Rattle.journal_safety.proofs.Histories.{LegalIn, legal_in, opens-is, keyed_as, Newest, Newests, newests_are}
use Rattle.journal_safety.proofs.Settled.{Settled, settled_quiet, Fine, fine_none, fine_quiet, fine_append, fine_opened}
use Rattle.journal_safety.proofs.SentLegal.{Moved, legal_re_req, legal_re_resp, sta_nonce, ap_nonce}
use Rattle.journal_safety.proofs.Transitions.{Came, came, Held, moving, look_in, found-is, request_suite, request_draws, named_holder, response_taken, req_taken, same_nonces, keying_moves, IgtkTaken, re_resp_taken}
use Rattle.domain_rules.proofs.Starts.{roam_no_renewal}
use Rattle.journal_safety.proofs.Sessions.{renewal_more}
use Rattle.journal_safety.proofs.Rows.{fine_attempt, fine_pending, fine_associated, few_pending, few_attempt, left_pending, not_station, size_nonce, RightLook, RightActs, legal_look, refused_fine, assoc_req_fine, assoc_resp_fine, m1_fine, opening_m1_fine, m2_fine, ignored_fine, Both, inputs_own, inputs_address, inputs_peer, inputs_common, alive_took, one_more, begun_alive, own_inputs, derived_by, installs}
use Rattle.journal_safety.proofs.RowsKeys.{m3_fine, repeated_m3_fine, m4_fine, g1_fine, g2_fine, Ready, ready_of, no_session, no_group, derivation_of, give_chain, station_end, m4_core}
use Rattle.journal_safety.proofs.RowsData.{data_fine, action_fine}

-- ---- with which suite a fast transition is begun

moved_by : (d : Domain) (n p : Node) (e : Act) (h part : List Act) → Legal d n h e → ((old : List Act) → attempt p h ≡ Some old → is_by_roam old ≡ true → d.akm ≡ FtPsk) → Grows p e h part → is_by_roam part ≡ true → d.akm ≡ FtPsk
moved_by d n p e h part legal more (Begins o is) moves =
    let w = opens-is p e o in
    let l : LegalOpened d n h p w.0 = subst (λ (y : Act). Legal d n h y) w.1 legal in
    let one : is_by_roam (Opened p w.0 ∷ []) ≡ true = subst (λ (y : Act). is_by_roam (y ∷ []) ≡ true) w.1 (subst (λ (y : List Act). is_by_roam y ≡ true) is moves) in
    l.mobile (by w.0 one)
  where
    by : (s : Start) → is_by_roam (Opened p s ∷ []) ≡ true → s ≡ Roam
    by Connect x = cc x
    by Roam x = refl
    by Renew x = cc x
moved_by d n p e h part legal more (Goes_on old o goes a is) moves =
    more old a (sym (ap is_roam (start_more e old (attempt_some p h old a))) ∙ subst (λ (y : List Act). is_by_roam y ≡ true) is moves)

mobile_suite : (d : Domain) (n p : Node) (h part : List Act) → LegalHistory d n h → attempt p h ≡ Some part → is_by_roam part ≡ true → d.akm ≡ FtPsk
mobile_suite d n p [] part legal a moves = cc a
mobile_suite d n p (e ∷ h) part legal a moves = moved_by d n p e h part legal.0 (λ old was. mobile_suite d n p h old legal.1 was) (grows p e h part a) moves

root_mobile : (akm : Akm) (d : Domain) (s : Node) (id : List ℕ) → akm ≡ FtPsk → (root_by akm d s id).r0kh_id ≡ id
root_mobile FtPsk d s id is = refl
root_mobile Psk d s id is = absurd (cc is)
root_mobile PskSha256 d s id is = absurd (cc is)

inputs_holder : (d : Domain) (id : List ℕ) (n p : Node) (v other : List ℕ) → d.akm ≡ FtPsk → (inputs_at d n p id v other).r0kh_id ≡ id
inputs_holder d id (Ap k) p v other is = root_mobile d.akm d p id is
inputs_holder d id (Sta k) p v other is = root_mobile d.akm d (Sta k) id is

both_of : (d : Domain) (first : ℕ) (n p : Node) (h : List Act) (b : Management) (e : ElementFields) (o : Outcome) → Came d first n p h b e o → Both d n p
both_of d first n p h b e o c = record { roles = c.roles; listed = c.listed; peer_listed = c.peer_listed }

address_six : (d : Domain) (n : Node) → InOctets d → IsListed d n → IsAddress (address d n)
address_six d n o low = listed-address d n o.ap_sizes o.sta_sizes low

-- ---- a roam

pub roam_fine : (d : Domain) (first : ℕ) (n : Node) (h : List Act) (p : Node) (g : List Act) → is_ap p ≡ true → Settled d n h → RoamRow (here d first n) h p g → Fine d n h g
roam_fine d first n h p g role s (NoSession none is) = subst (λ (x : List Act). Fine d n h x) (sym is) (fine_quiet d n h (Idle why.NoSession) [] tt refl s (fine_none d n _))
roam_fine d first n h p g role s (SamePeer q some alike is) = subst (λ (x : List Act). Fine d n h x) (sym is) (fine_quiet d n h (Idle why.SamePeer) [] tt refl s (fine_none d n _))
roam_fine d first n h p g role s (Spent q some other many is) = subst (λ (x : List Act). Fine d n h x) (sym is) (fine_quiet d n h (Idle why.Spent) [] tt refl s (fine_none d n _))
roam_fine d first n h p g role s (Asks suite q some other few is) =
    let a = fine_pending d n h (pending h) s in
    let stays : associated (add (close_pending (pending h)) h) ≡ Some q = left_pending h (pending h) ∙ some in
    subst (λ (x : List Act). Fine d n h x) (sym is)
    (fine_append d n h (close_pending (pending h)) (Opened p Roam ∷ Drew (Nonce (next_nonce d first n h)) ∷ sent_ft_req d n p (root_at d n (last_r0kh_id h)) (next_nonce d first n h) ∷ []) a
    (fine_opened d n _ p Roam (next_nonce d first n h) _ (record { none = λ connects. cc connects; alone = λ begins station with_p. same-false p q other (sym (cc (stays, with_p))); access = λ station. role; mobile = λ roams. suite; renewed = λ renews_. cc renews_; paid = a.settled.paid }) (size_nonce d n _)
    (few_pending h (pending h) (omega (arith, few))) a.settled
    (λ t. fine_quiet d n _ (sent_ft_req d n p (root_at d n (last_r0kh_id h)) (next_nonce d first n h)) [] (tt, tt) refl t (fine_none d n _))))

-- ---- authentication request

-- the key that a key holder gave is that of the inputs
found_key : (d : Domain) (id : List ℕ) (a : ℕ) (p : Node) (v other : List ℕ) (k : PmkR1) → d.akm ≡ FtPsk → k ≡ pmk_r1 (pmk_r0 (psk_of d p) d.ssid d.mdid id (mac d p)) (mac d (Ap a)) (mac d p)
    → ft_ptk k other v (mac d (Ap a)) (mac d p) ≡ ptk (inputs_at d (Ap a) p id v other)
unfolding ptk
found_key d id a p v other k suite is = ap (λ (x : PmkR1). ft_ptk x other v (mac d (Ap a)) (mac d p)) is ∙ by d.akm suite
  where
    by : (akm : Akm) → akm ≡ FtPsk → ft_ptk (pmk_r1 (pmk_r0 (psk_of d p) d.ssid d.mdid id (mac d p)) (mac d (Ap a)) (mac d p)) other v (mac d (Ap a)) (mac d p)
        ≡ ptk_by akm (record { akm = akm; psk = (root_by akm d p id).psk; ssid = d.ssid; mdid = (root_by akm d p id).mdid; r0kh_id = (root_by akm d p id).r0kh_id; aa = mac d (Ap a); spa = mac d p; anonce = v; snonce = other })
    by FtPsk w = refl
    by Psk w = absurd (cc w)
    by PskSha256 w = absurd (cc w)

key_found : (d : Domain) (id : List ℕ) (a : ℕ) (n p : Node) (v other : List ℕ) (k : PmkR1) (i : Inputs) → n ≡ Ap a → d.akm ≡ FtPsk → RightLook d n id p (Found k) → i ≡ inputs_at d n p id v other → (derived_from k i).ptk ≡ ptk i
key_found d id a n p v other k i at suite right is =
    let there : i ≡ inputs_at d (Ap a) p id v other = is ∙ ap (λ (x : Node). inputs_at d x p id v other) at in
    let given_ : RightLook d (Ap a) id p (Found k) = subst (λ (x : Node). RightLook d x id p (Found k)) at right in
    subst (λ (x : Inputs). (derived_from k x).ptk ≡ ptk x) (sym there) (found_key d id a p v other k suite (given_ suite))

-- in an attempt that has just begun
begun_none : (p : Node) (h : List Act) (s : Start) (v : List ℕ) (k : Kind) → before_sent p k (Drew (Nonce v) ∷ Opened p s ∷ h) ≡ None
begun_none p h s v k = rw (same-refl p) refl

ft_req_fine : (d : Domain) (first : ℕ) (n : Node) (h : List Act) (octets : List ℕ) (r : Reading) (facts : Facts) (g : List Act) → Reads d.akm octets r → RightActs d n g → Settled d n h → FtReqRow (here d first n) h octets r facts g → Fine d n h g
ft_req_fine d first n h octets r facts g reads right s row =
    let p : Node = row.p in
    let i : Inputs = row.i in
    let id : List ℕ = row.a.r0kh_id in
    let v : List ℕ = next_nonce d first n h in
    let c = came d first n p h octets r row.b row.e Accepted row.is reads row.from (inl refl) (and_accepted (first_verdict d first n h r) (further d first n h r facts) row.accepted) in
    let role = request_suite d first n p h row.b row.e Accepted (inl refl) row.kind_is c in
    let ours : is_ap n ≡ true = ap is_ap role.1.0 in
    let all = subst (λ (x : List Act). RightActs d n x) row.says right in
    let key : (derived_from row.k i).ptk ≡ ptk i = key_found d id role.0 n p v row.a.snonce row.k i role.1.0 role.1.1 all.1.0 row.inputs_are in
    let own : i.anonce ≡ nonce_of n i = ap_nonce n i ours in
    let size : length i.anonce ≡ 32 = ap length (own ∙ ap (nonce_of n) row.inputs_are ∙ inputs_own d id n p v row.a.snonce) ∙ size_nonce d n _ in
    let few : draws h < draw_end = request_draws d first n h row.b row.e facts row.a row.kind_is row.asks (subst (λ (x : Reading). verdict d first n h x facts ≡ Accepted) row.is row.accepted) in
    let took : Act = Took (Some p) octets kind.FtReq Accepted None in
    let looked_ : Act = Looked id row.name p (Found row.k) in
    subst (λ (x : List Act). Fine d n h x) (sym row.says)
    (fine_quiet d n h took _ tt refl s (λ t.
    fine_quiet d n (took ∷ h) looked_ _ (legal_look d n id p (Found row.k) all.1.0) refl t (λ u.
    let closed = fine_attempt d n (looked_ ∷ took ∷ h) p (attempt p h) u in
    fine_append d n (looked_ ∷ took ∷ h) (close_attempt p (attempt p h)) (Opened p Roam ∷ Drew (Nonce i.anonce) ∷ Derived p i (derived_from row.k i).ptk ∷ sent_ft_resp d n p row.name i ∷ []) closed
    (fine_opened d n _ p Roam i.anonce _ (record { none = λ connects. cc connects; alone = λ begins. not_station n ours; access = not_station n ours; mobile = λ roams. role.1.1; renewed = λ renews_. cc renews_; paid = closed.settled.paid }) size
    (few_attempt (looked_ ∷ took ∷ h) p (attempt p h) few) closed.settled (λ w.
    fine_quiet d n _ (Derived p i (derived_from row.k i).ptk) _
    (record {
      roles = c.roles;
      listed = c.listed;
      peer_listed = c.peer_listed;
      alive = begun_alive n p _ Roam i.anonce i own;
      address = ap (λ (x : Inputs). own_address n x) row.inputs_are ∙ inputs_address d id n p v row.a.snonce;
      peer = ap (λ (x : Inputs). peer_address n x) row.inputs_are ∙ inputs_peer d id n p v row.a.snonce;
      common = subst (λ (x : Inputs). AreCommon d x) (sym row.inputs_are) (inputs_common d id n p v row.a.snonce);
      key = key;
      no_m3 = λ ap_role. begun_none p (add (close_attempt p (attempt p h)) (looked_ ∷ took ∷ h)) Roam i.anonce (kind.Key M3);
    }) refl w (λ x. fine_quiet d n _ (sent_ft_resp d n p row.name i) [] (tt, tt) refl x (fine_none d n _)))))))

-- ---- what is sent once more

-- a frame of a fast transition that an access point sends
data IsAnswer (k : Kind) : Type 0 where
  Of_ft_resp : k ≡ kind.FtResp → IsAnswer k
  Of_re_resp : k ≡ kind.ReResp → IsAnswer k

is_ft_resp : (m : Kind) → same_kind kind.FtResp m ≡ true → m ≡ kind.FtResp
is_ft_resp kind.FtResp w = refl
is_ft_resp (kind.Key M1) w = cc
is_ft_resp (kind.Key M2) w = cc
is_ft_resp (kind.Key M3) w = cc
is_ft_resp (kind.Key M4) w = cc
is_ft_resp (kind.Key G1) w = cc
is_ft_resp (kind.Key G2) w = cc
is_ft_resp _ w = cc

is_re_resp : (m : Kind) → same_kind kind.ReResp m ≡ true → m ≡ kind.ReResp
is_re_resp kind.ReResp w = refl
is_re_resp (kind.Key M1) w = cc
is_re_resp (kind.Key M2) w = cc
is_re_resp (kind.Key M3) w = cc
is_re_resp (kind.Key M4) w = cc
is_re_resp (kind.Key G1) w = cc
is_re_resp (kind.Key G2) w = cc
is_re_resp _ w = cc

kind_of_answer : (k m : Kind) → IsAnswer k → same_kind k m ≡ true → m ≡ k
kind_of_answer k m (Of_ft_resp a) b = is_ft_resp m (subst (λ (x : Kind). same_kind x m ≡ true) a b) ∙ sym a
kind_of_answer k m (Of_re_resp a) b = is_re_resp m (subst (λ (x : Kind). same_kind x m ≡ true) a b) ∙ sym a

stored_same : (p q : Node) (k m : Kind) (octets : List ℕ) (seal : Option Seal) (s : Stored) → IsAnswer k → (b c : Bool) → same p q ≡ b → same_kind k m ≡ c → cond b (cond c (Some (record { octets = octets; seal = seal })) None) None ≡ Some s → Sent (One q) m octets seal ≡ Sent (One p) k s.octets s.seal
stored_same p q k m octets seal s answer true true one alike is =
    let w : record { octets = octets; seal = seal } ≡ s = cc is in
    ap (λ (x : Node). Sent (One x) m octets seal) (sym (same-true p q one)) ∙ ap (λ (x : Kind). Sent (One p) x octets seal) (kind_of_answer k m answer alike) ∙ ap (λ (x : Stored). Sent (One p) k x.octets x.seal) w
stored_same p q k m octets seal s answer true false one alike is = absurd (cc is)
stored_same p q k m octets seal s answer false c one alike is = absurd (cc is)

stored-is : (p : Node) (k : Kind) (e : Act) (s : Stored) → IsAnswer k → stored p k e ≡ Some s → e ≡ Sent (One p) k s.octets s.seal
stored-is p k (Sent (One q) m octets seal) s answer is = stored_same p q k m octets seal s answer (same p q) (same_kind k m) refl refl is
stored-is p k _ s answer is = cc

stored_by : (p : Node) (k : Kind) (e : Act) (h : List Act) (s : Stored) → IsAnswer k → (first_stored p k h ≡ Some s → In (Sent (One p) k s.octets s.seal) h) → (o : Option Stored) → first_stored p k h ≡ o → or_else o (stored p k e) ≡ Some s → In (Sent (One p) k s.octets s.seal) (e ∷ h)
stored_by p k e h s answer more None was is = inl (sym (stored-is p k e s answer is))
stored_by p k e h s answer more (Some x) was is = inr (more (was ∙ is))

stored_in : (p : Node) (k : Kind) (h : List Act) (s : Stored) → IsAnswer k → first_stored p k h ≡ Some s → In (Sent (One p) k s.octets s.seal) h
stored_in p k [] s answer is = absurd (cc is)
stored_in p k (e ∷ h) s answer is = stored_by p k e h s answer (stored_in p k h s answer) (first_stored p k h) refl is

carries_on : (d : Domain) (which : GroupKind) (n p : Node) (a h : List Act) (i : Inputs) (c : List ℕ) (k : Kind) → IsAnswer k → Tail a h → Carries d which n a p i c k → Carries d which n h p i c k
carries_on d which n p a h i c k (Of_ft_resp is) t w = subst (λ (x : Kind). Carries d which n h p i c x) (sym is) tt
carries_on d which n p a h i c k (Of_re_resp is) t w =
    let v : CarriesResponse which n a p i c = subst (λ (x : Kind). Carries d which n a p i c x) is w in
    subst (λ (x : Kind). Carries d which n h p i c x) (sym is)
    (record { key = v.key; gives = v.gives; built = record { past = v.built.past; tail = tail_trans v.built.past a h v.built.tail t; newest = v.built.newest; verified = v.built.verified; alive = v.built.alive } })

no_frame : (k : Kind) → IsAnswer k → is_framed k ≡ true → ⊥
no_frame k (Of_ft_resp is) other = let w : is_framed kind.FtResp ≡ true = subst (λ (x : Kind). is_framed x ≡ true) is other in absurd (cc w)
no_frame k (Of_re_resp is) other = let w : is_framed kind.ReResp ≡ true = subst (λ (x : Kind). is_framed x ≡ true) is other in absurd (cc w)

sealed_on : (d : Domain) (n p : Node) (a h : List Act) (k : Kind) (s : Option Seal) → IsAnswer k → Tail a h → LegalSealed d n a (One p) k s → LegalSealed d n h (One p) k s
sealed_on d n p a h k None answer t l = tt
sealed_on d n p a h k (Some s) answer t (With_frame framed l) = absurd (no_frame k answer framed)
sealed_on d n p a h k (Some s) answer t (With_mic q one mic l) = With_mic q one mic (record {
  i = l.i;
  there = tail_in a h (derives q l.i) t l.there;
  is = l.is;
  direction = l.direction;
  kind_is = l.kind_is;
  carries = λ which used. subst (λ (x : Kind). Carries d which n h q l.i s.octets x) l.kind_is (carries_on d which n q a h l.i s.octets k answer t (subst (λ (x : Kind). Carries d which n a q l.i s.octets x) (sym l.kind_is) (l.carries which used)));
})

answer_kind : (d : Domain) (n p : Node) (h : List Act) (k : Kind) → IsAnswer k → LegalKind d n h (One p) k
answer_kind d n p h k (Of_ft_resp is) = subst (λ (x : Kind). LegalKind d n h (One p) x) (sym is) tt
answer_kind d n p h k (Of_re_resp is) = subst (λ (x : Kind). LegalKind d n h (One p) x) (sym is) tt

again_legal : (d : Domain) (n p : Node) (h : List Act) (k : Kind) (s : Stored) → IsAnswer k → LegalHistory d n h → In (Sent (One p) k s.octets s.seal) h → Legal d n h (Sent (One p) k s.octets s.seal)
again_legal d n p h k s answer legal there =
    let w : LegalIn d n (Sent (One p) k s.octets s.seal) h = legal_in d n (Sent (One p) k s.octets s.seal) h legal there in
    let l : LegalSealed d n w.before (One p) k s.seal = w.legal.0 in
    (sealed_on d n p w.before h k s.seal answer (tail_rest (Sent (One p) k s.octets s.seal) w.before h w.tail) l, answer_kind d n p h k answer)

again_fine : (d : Domain) (n p : Node) (h : List Act) (k : Kind) (o : Option Stored) → IsAnswer k → LegalHistory d n h → Settled d n h → ((s : Stored) → o ≡ Some s → In (Sent (One p) k s.octets s.seal) h) → Fine d n h (sent_again p k o)
again_fine d n p h k None answer legal s there = fine_none d n h s
again_fine d n p h k (Some x) answer legal s there = fine_quiet d n h (Sent (One p) k x.octets x.seal) [] (again_legal d n p h k x answer legal (there x refl)) refl s (fine_none d n _)

repeated_ft_req_fine : (d : Domain) (first : ℕ) (n : Node) (h : List Act) (octets : List ℕ) (r : Reading) (facts : Facts) (g : List Act) → LegalHistory d n h → Settled d n h → RepeatedFtReqRow (here d first n) h octets r facts g → Fine d n h g
repeated_ft_req_fine d first n h octets r facts g legal s row =
    subst (λ (x : List Act). Fine d n h x) (sym row.says)
    (fine_quiet d n h (Took (Some row.p) octets kind.FtReq Answered None) _ tt refl s (λ t.
    again_fine d n row.p _ kind.FtResp (first_stored row.p kind.FtResp row.part) (Of_ft_resp refl) (tt, legal) t
    (λ x is. inr (in_part row.p h row.part (Sent (One row.p) kind.FtResp x.octets x.seal) row.awaited (stored_in row.p kind.FtResp row.part x (Of_ft_resp refl) is)))))

finished_in_by : (p : Node) (x e : Act) (h : List Act) → (In x (since_finished p h) → In x h) → (b : Bool) → In x (cond b [] (e ∷ since_finished p h)) → In x (e ∷ h)
finished_in_by p x e h more true there = absurd there
finished_in_by p x e h more false (inl here) = inl here
finished_in_by p x e h more false (inr later) = inr (more later)

finished_in : (p : Node) (x : Act) (h : List Act) → In x (since_finished p h) → In x h
finished_in p x [] there = there
finished_in p x (e ∷ h) there = finished_in_by p x e h (finished_in p x h) (finishes p e) there

repeated_re_req_fine : (d : Domain) (first : ℕ) (n : Node) (h : List Act) (octets : List ℕ) (r : Reading) (facts : Facts) (g : List Act) → LegalHistory d n h → Settled d n h → RepeatedReReqRow (here d first n) h octets r facts g → Fine d n h g
repeated_re_req_fine d first n h octets r facts g legal s row =
    subst (λ (x : List Act). Fine d n h x) (sym row.says)
    (fine_quiet d n h (Took (Some row.p) octets kind.ReReq Answered (re_req_seal d n h row.p row.e)) _ tt refl s (λ t.
    again_fine d n row.p _ kind.ReResp (first_stored row.p kind.ReResp (since_finished row.p h)) (Of_re_resp refl) (tt, legal) t
    (λ x is. inr (finished_in row.p (Sent (One row.p) kind.ReResp x.octets x.seal) h (stored_in row.p kind.ReResp (since_finished row.p h) x (Of_re_resp refl) is)))))

-- ---- authentication response

inputs_other : (d : Domain) (r : Root) (n p : Node) (v other : List ℕ) → is_ap n ≡ false → (inputs d r n p v other).anonce ≡ other
inputs_other d r (Sta k) p v other station = refl
inputs_other d r (Ap k) p v other station = absurd (cc station)

ft_resp_fine : (d : Domain) (first : ℕ) (n : Node) (h : List Act) (octets : List ℕ) (r : Reading) (facts : Facts) (g : List Act) → Reads d.akm octets r → LegalHistory d n h → Settled d n h → FtRespRow (here d first n) h octets r facts g → Fine d n h g
ft_resp_fine d first n h octets r facts g reads legal s row =
    let p : Node = row.p in
    let i : Inputs = row.i in
    let id : List ℕ = last_r0kh_id h in
    let c = came d first n p h octets r row.b row.e Accepted row.is reads row.from (inl refl) (and_accepted (first_verdict d first n h r) (further d first n h r facts) row.accepted) in
    let t = response_taken d first n p h row.b row.e row.part row.kind_is c row.awaited in
    let suite = mobile_suite d n p h row.part legal row.awaited t.moves in
    let o = s.ground.octets suite in
    let w = own_inputs d id n p h row.part i row.f.anonce legal s row.awaited row.inputs_are in
    let raw = fte_raw row.e row.f c.raw row.fte in
    let holder = fte_holder raw.0 row.f id raw.1 (named_holder (address d p) id row.e.fte row.f row.fte t.ids) in
    let id_is : i.r0kh_id ≡ id = ap (λ (x : Inputs). x.r0kh_id) row.inputs_are ∙ inputs_holder d id n p (own row.part) row.f.anonce suite in
    let moved : Moved d n p i = record {
      own = address_six d n o c.listed;
      theirs = address_six d p o c.peer_listed;
      mdid = o.mdid;
      anonce = ap length (ap (λ (x : Inputs). x.anonce) row.inputs_are ∙ inputs_other d (root_at d (station_of n p) id) n p (own row.part) row.f.anonce t.station) ∙ (fte_nonces raw.0 row.f raw.1).0;
      snonce = ap length (sta_nonce n i t.station) ∙ w.size;
      some = subst (λ (x : List ℕ). 1 ≤ length x) (sym id_is) holder.0;
      few = subst (λ (x : List ℕ). length x ≤ 48) (sym id_is) holder.1;
    } in
    let took : Act = Took (Some p) octets kind.FtResp Accepted None in
    subst (λ (x : List Act). Fine d n h x) (sym row.says)
    (fine_quiet d n h took _ tt refl s (λ u.
    fine_quiet d n (took ∷ h) (derives p i) _ (derived_by d id n p h row.part (Some p) octets kind.FtResp Accepted None i row.f.anonce (both_of d first n p h row.b row.e Accepted c) row.awaited w (λ ap_role. not_station n ap_role t.station)) refl u (λ v.
    fine_quiet d n _ (sent_re_req d n p (unwrap_or (associated h) p) (keyed_by i)) [] (legal_re_req d n p (unwrap_or (associated h) p) _ i t.station (inl refl) moved) refl v (fine_none d n _))))

-- ---- reassociation request

tail_add : (g h : List Act) → Tail h (add g h)
tail_add [] h = tail_refl h
tail_add (e ∷ g) h = tail_trans h (e ∷ h) (add g (e ∷ h)) (inr (tail_refl h)) (tail_add g (e ∷ h))

abbrev re_req_acts : Domain → Node → Node → List Act → List ℕ → Option Seal → Derivation → List ℕ → List Act
re_req_acts d n p h octets seal x name =
    Took (Some p) octets kind.ReReq Accepted seal ∷ close_session p (session p h)
    ++ Installed (One p) (Pairwise x.ptk.tk x.inputs) ∷ Finished p x.inputs ∷ sent_re_resp d n p name x (re_resp_fte d n x (news d h)) ∷ []

put_last : (p : Node) (o : Option Derivation) (a b c : Act) → close_session p o ++ a ∷ b ∷ c ∷ [] ≡ (close_session p o ++ a ∷ b ∷ []) ++ c ∷ []
put_last p None a b c = refl
put_last p (Some x) a b c = refl

-- a reassociation frame whose MIC verified
fte_now : (n p : Node) (h : List Act) (octets : List ℕ) (k : Kind) (number : ℕ) (i : Inputs) (input : List ℕ) (f : FteFields) → In (derives p i) h → CoversFte (2 ∷ input) number f → (number == 6) ≡ not (is_ap n) → Verified n (Took (Some p) octets k Accepted (Some (fte_seal (ptk i).kck input)) ∷ h) p i
fte_now n p h octets k number i input f there c way = record {
  derived = inr there;
  from = Some p;
  octets = octets;
  kind = k;
  outcome = Accepted;
  covered = 2 ∷ input;
  took = inl refl;
  form = Of_fte refl;
  direction = ap (λ (x : ℕ). x == 6) (number_fte (2 ∷ input) number f c) ∙ way;
}

re_req_core : (d : Domain) (n p : Node) (h part : List Act) (octets : List ℕ) (i : Inputs) (input name : List ℕ) (f : FteFields) → d.akm ≡ FtPsk → is_ap n ≡ true → LegalHistory d n h → Settled d n h → IsListed d n → attempt p h ≡ Some part → Ready d n p h part i → derivation p (since p h) ≡ Some (keyed_by i) → derivation p h ≡ Some (keyed_by i) → CoversFte (2 ∷ input) 5 f → Moved d n p i → length name ≡ 16
    → Fine d n h (re_req_acts d n p h octets (Some (fte_seal (ptk i).kck input)) (keyed_by i) name)
re_req_core d n p h part octets i input name f suite role legal s listed a r current last c moved size =
    let took : Act = Took (Some p) octets kind.ReReq Accepted (Some (fte_seal (ptk i).kck input)) in
    let v = fte_now n p h octets kind.ReReq 5 i input f r.there c (ap not (sym role)) in
    let alive = alive_took n p h part i (Some p) octets kind.ReReq Accepted (Some (fte_seal (ptk i).kck input)) a r.own in
    let new : Newests d h = newests_are d n h legal (s.started role listed) in
    let front : List Act = close_session p (session p h) ++ installs p i ∷ Finished p i ∷ [] in
    let response : Act = sent_re_resp d n p name (keyed_by i) (re_resp_fte d n (keyed_by i) (news d h)) in
    fine_quiet d n h took _ tt refl s (λ t.
    let core : Fine d n (took ∷ h) front = m4_core d n p (took ∷ h) i role t (record { verified = v; is = λ other. absurd (other suite) }) alive current last (session p h) refl in
    let tail : Tail (took ∷ h) (add front (took ∷ h)) = tail_add front (took ∷ h) in
    let built : (which : GroupKind) → IsUsed d which → Built which n (add front (took ∷ h)) p i (newest which h).key =
    λ which used. (let w : Newest which h = new which used in record { past = took ∷ h; tail = tail; newest = w.last; verified = v; alive = alive }) in
    subst (λ (x : List Act). Fine d n (took ∷ h) x) (sym (put_last p (session p h) (installs p i) (Finished p i) response))
    (fine_append d n (took ∷ h) front (response ∷ []) core
    (fine_quiet d n (add front (took ∷ h)) response [] (legal_re_resp d n p (add front (took ∷ h)) i name h role (tail_in (took ∷ h) (add front (took ∷ h)) (derives p i) tail (inr r.there)) moved size new built) refl core.settled (fine_none d n _))))

-- the name that a key holder gave has 16 octets
name_size : (d : Domain) (n p : Node) (h : List Act) (id name : List ℕ) (k : PmkR1) → d.akm ≡ FtPsk → LegalHistory d n h → In (Looked id name p (Found k)) h → length k.name ≡ 16
unfolding pmk_r1
name_size d n p h id name k suite legal there =
    let w = legal_in d n (Looked id name p (Found k)) h legal there in
    let is : LegalLook d n id p (Found k) = w.legal in
    ap (λ (x : PmkR1). length x.name) (is suite).1 ∙ length-pmk_r1_name _ (mac d n) (mac d p)

held_size : (d : Domain) (n p : Node) (h : List Act) (z : Transition) → d.akm ≡ FtPsk → LegalHistory d n h → Held p h z → length z.r1_name ≡ 16
held_size d n p h z suite legal w =
    let there = look_in p h w.l w.asked in
    ap length w.name ∙ name_size d n p h w.l.r0kh_id w.l.name w.k suite legal (subst (λ (x : PullAnswer). In (Looked w.l.r0kh_id w.l.name p x) h) (found-is w.l.answer w.k w.found) there)

re_req_fine : (d : Domain) (first : ℕ) (n : Node) (h : List Act) (octets : List ℕ) (r : Reading) (facts : Facts) (g : List Act) → Reads d.akm octets r → LegalHistory d n h → Settled d n h → ReReqRow (here d first n) h octets r facts g → Fine d n h g
re_req_fine d first n h octets r facts g reads legal s row =
    let p : Node = row.p in
    let x : Derivation = row.y.by_.key in
    let i : Inputs = x.inputs in
    let c = came d first n p h octets r row.b row.e Accepted row.is reads row.from (inl refl) (and_accepted (first_verdict d first n h r) (further d first n h r facts) row.accepted) in
    let t = req_taken d first n p h row.b row.e facts row.y row.kind_is c (subst (λ (v : Reading). verdict d first n h v facts ≡ Accepted) row.is row.accepted) row.awaited in
    let m = moving p h row.y.by_ t.is_attempt in
    let suite = mobile_suite d n p h m.0.part legal m.0.awaited m.0.moves in
    let o = s.ground.octets suite in
    let ready = ready_of d n p h m.0.part x legal m.0.awaited m.0.last in
    let same_key : x ≡ keyed_by i = keyed_as x ready.0 in
    let raw = fte_raw row.e t.f c.raw t.fte in
    let nonces = fte_nonces raw.0 t.f raw.1 in
    let equal = same_nonces t.f x t.nonces in
    let holder = fte_holder raw.0 t.f i.r0kh_id raw.1 t.holder in
    let own = address_six d n o c.listed in
    let theirs = address_six d p o c.peer_listed in
    let moved : Moved d n p i = record { own = own; theirs = theirs; mdid = o.mdid; anonce = ap length (sym equal.0) ∙ nonces.0; snonce = ap length (sym equal.1) ∙ nonces.1; some = holder.0; few = holder.1 } in
    let covers : CoversFte (2 ∷ t.input) 5 t.f = took_fte (address d p) (address d n) 5 row.e t.f t.input c.raw t.fte theirs own t.covered in
    let last = derivation_of p h m.0.part x m.0.awaited m.0.last ∙ ap Some same_key in
    let current : derivation p (since p h) ≡ Some (keyed_by i) = subst (λ (l : List Act). derivation p l ≡ Some (keyed_by i)) (sym (since_part p h m.0.part m.0.awaited)) (m.0.last ∙ ap Some same_key) in
    let core = re_req_core d n p h m.0.part octets i t.input row.y.by_.r1_name t.f suite t.role legal s c.listed m.0.awaited ready.1 current last covers moved (held_size d n p h row.y.by_ suite legal m.1) in
    subst (λ (v : List Act). Fine d n h v) (sym row.says)
    (subst (λ (v : Derivation). Fine d n h (re_req_acts d n p h octets (re_req_seal d n h p row.e) v row.y.by_.r1_name)) (sym row.keyed)
    (subst (λ (v : Option Seal). Fine d n h (re_req_acts d n p h octets v x row.y.by_.r1_name)) (sym (t.seal ∙ ap (λ (v : Ptk). Some (fte_seal v.kck t.input)) ready.0))
    (subst (λ (v : Derivation). Fine d n h (re_req_acts d n p h octets (Some (fte_seal (ptk i).kck t.input)) v row.y.by_.r1_name)) (sym same_key) core)))

-- ---- reassociation response

abbrev took_response : Node → List ℕ → Inputs → List ℕ → Act
took_response p octets i input = Took (Some p) octets kind.ReResp Accepted (Some (fte_seal (ptk i).kck input))

-- the moment before the key is installed: no session is left, and the attempt goes on
record Ahead (d : Domain) (n p : Node) (h : List Act) (octets : List ℕ) (i : Inputs) (input : List ℕ) (m : List Act) : Type 0 where
  legal : LegalHistory d n m
  settled : Settled d n m
  part : List Act
  awaited : attempt p m ≡ Some part
  own : own_nonce part ≡ Some (nonce_of n i)
  begins : is_by_renewal part ≡ false
  current : derivation p part ≡ Some (keyed_by i)
  took : In (took_response p octets i input) part
  verified : Verified n m p i
  there : In (derives p i) m
  last : derivation p m ≡ Some (keyed_by i)
  none : associated m ≡ None
  kept : (which : GroupKind) → memory which p m ≡ memory which p h

-- the group key of a kind that it carries
record Carried (which : GroupKind) (i : Inputs) (covered key : List ℕ) : Type 0 where
  f : FteFields
  covers : CoversFte covered 6 f
  w : List ℕ
  has : wrapped_as which f ≡ Some w
  wraps : Wraps (ptk i).kek key w

response_given : (which : GroupKind) (d : Domain) (n p : Node) (more : List Act) (octets : List ℕ) (i : Inputs) (input key : List ℕ) → IsUsed d which → Carried which i (2 ∷ input) key → In (derives p i) more → In (took_response p octets i input) (since p more) → Given d which n more p i key
response_given which d n p more octets i input key used c there took =
    let number : fte_number (2 ∷ input) ≡ 6 = number_fte (2 ∷ input) 6 c.f c.covers in
    record {
      used = used;
      frame = kind.ReResp;
      octets = octets;
      covered = 2 ∷ input;
      took = took;
      gives_key = In_response refl;
      form = Of_fte refl;
      down = ap (λ (x : ℕ). x == 6) number;
      frame_is = ap (λ (x : ℕ). cond (x == 6) kind.ReResp kind.ReReq) number;
      counter = λ is. absurd (cc is);
      derived = there;
      opens = Of_response c.f c.covers c.w c.has c.wraps;
    }

response_gift : (which : GroupKind) (d : Domain) (n p : Node) (h m : List Act) (octets : List ℕ) (i : Inputs) (input key : List ℕ) → IsUsed d which → is_ap n ≡ false → Ahead d n p h octets i input m → Carried which i (2 ∷ input) key → LegalGroup d which n (installs p i ∷ m) p key
unfolding response_given
response_gift which d n p h m octets i input key used station w c = By_m3 (record {
  station = station;
  i = i;
  given = response_given which d n p (installs p i ∷ m) octets i input key used c (inr w.there) (inr (subst (λ (x : List Act). In (took_response p octets i input) x) (sym (since_part p m w.part w.awaited)) w.took));
  no_g1 = λ is. cc is;
  alive = record { part = installs p i ∷ w.part; awaited = attempt_more p (installs p i) m w.part refl refl w.awaited; own = own_nonce_more (installs p i) w.part (nonce_of n i) w.own };
  begins = one_more p (installs p i) m w.part w.awaited refl refl ∙ w.begins;
  pairwise = inl refl;
  first = λ g id b there. first_of g id b there;
})
  where
    first_of : (g : List ℕ) (id : ℕ) (b : Mac) → In (Installed (One p) (Group which g id b)) (installs p i ∷ w.part) → ⊥
    first_of g id b (inl here) = cc here
    first_of g id b (inr later) = no_group which p w.part g id b (subst (λ (r : Bool). Uninstalled p r w.part) w.begins (w.settled.bare p w.part w.awaited)) later

re_resp_end : (d : Domain) (n p : Node) (h m : List Act) (octets : List ℕ) (i : Inputs) (input : List ℕ) (keys : GivenKeys) → d.akm ≡ FtPsk → is_ap n ≡ false → Ahead d n p h octets i input m → Carried groups.Gtk i (2 ∷ input) keys.gtk.key → (protects d ≡ true → Carried groups.Igtk i (2 ∷ input) keys.igtk.key)
    → Fine d n m (installs p i ∷ (give_all d p (mac d p) keys h ++ Finished p i ∷ []))
re_resp_end d n p h m octets i input keys suite station w gtk_ igtk_ =
    station_end d n p h m w.part i (mac d p) keys [] (record {
      awaited = w.awaited;
      own = w.own;
      settled = w.settled;
      final = record { verified = w.verified; is = λ other. absurd (other suite) };
      there = w.there;
      current = w.current;
      last = w.last;
      none = no_session d n p m w.part station w.legal w.awaited w.begins;
      alone = w.none;
    })
    (give_chain d n p h (installs p i ∷ m) (mac d p) keys (response_gift groups.Gtk d n p h m octets i input keys.gtk.key tt station w gtk_) (λ on. response_gift groups.Igtk d n p h m octets i input keys.igtk.key on station w (igtk_ on)) w.kept)
    (λ x there s. fine_none d n (Finished p i ∷ x) s)

-- whatever session there was, it is closed
ahead_by : (d : Domain) (n p : Node) (h part : List Act) (octets : List ℕ) (i : Inputs) (input : List ℕ) (f : FteFields) → is_ap n ≡ false → LegalHistory d n h → Settled d n h → attempt p h ≡ Some part → is_by_renewal part ≡ false → derivation p part ≡ Some (keyed_by i) → Ready d n p h part i → derivation p h ≡ Some (keyed_by i) → CoversFte (2 ∷ input) 6 f → (o : Option Node) → associated h ≡ o
    → Ahead d n p h octets i input (add (close_associated o) (Took (Some p) octets kind.ReResp Accepted (Some (fte_seal (ptk i).kck input)) ∷ h))
ahead_by d n p h part octets i input f station legal s a begins current r last c None is =
    let took : Act = Took (Some p) octets kind.ReResp Accepted (Some (fte_seal (ptk i).kck input)) in
    record {
      legal = (tt, legal);
      settled = settled_quiet d n took h refl s;
      part = took ∷ part;
      awaited = attempt_more p took h part refl refl a;
      own = own_nonce_more took part (nonce_of n i) r.own;
      begins = renewal_more p took h part a ∙ begins;
      current = current;
      took = inl refl;
      verified = fte_now n p h octets kind.ReResp 6 i input f r.there c (ap not (sym station));
      there = inr r.there;
      last = last;
      none = is;
      kept = λ which. refl;
    }
ahead_by d n p h part octets i input f station legal s a begins current r last c (Some q) is =
    let took : Act = Took (Some p) octets kind.ReResp Accepted (Some (fte_seal (ptk i).kck input)) in
    record {
      legal = ((λ role. inr is), (tt, legal));
      settled = settled_quiet d n (Closed q Session) (took ∷ h) refl (settled_quiet d n took h refl s);
      part = Closed q Session ∷ took ∷ part;
      awaited = attempt_more p (Closed q Session) (took ∷ h) (took ∷ part) refl refl (attempt_more p took h part refl refl a);
      own = own_nonce_more (Closed q Session) (took ∷ part) (nonce_of n i) (own_nonce_more took part (nonce_of n i) r.own);
      begins = renewal_more p (Closed q Session) (took ∷ h) (took ∷ part) (attempt_more p took h part refl refl a) ∙ renewal_more p took h part a ∙ begins;
      current = current;
      took = inr (inl refl);
      verified = verified_more n p (took ∷ h) (Closed q Session) i (fte_now n p h octets kind.ReResp 6 i input f r.there c (ap not (sym station)));
      there = inr (inr r.there);
      last = last;
      none = refl;
      kept = λ which. refl;
    }

abbrev re_resp_acts : Domain → Node → Node → List Act → List ℕ → Option Seal → Derivation → GivenKeys → List Act
re_resp_acts d n p h octets seal x keys =
    Took (Some p) octets kind.ReResp Accepted seal ∷ close_associated (associated h)
    ++ Installed (One p) (Pairwise x.ptk.tk x.inputs) ∷ (give_all d p (mac d p) keys h ++ Finished p x.inputs ∷ [])

re_resp_core : (d : Domain) (n p : Node) (h part : List Act) (octets : List ℕ) (i : Inputs) (input : List ℕ) (f : FteFields) (keys : GivenKeys) → d.akm ≡ FtPsk → is_ap n ≡ false → LegalHistory d n h → Settled d n h → attempt p h ≡ Some part → is_by_renewal part ≡ false → derivation p part ≡ Some (keyed_by i) → Ready d n p h part i → derivation p h ≡ Some (keyed_by i) → CoversFte (2 ∷ input) 6 f
    → Carried groups.Gtk i (2 ∷ input) keys.gtk.key → (protects d ≡ true → Carried groups.Igtk i (2 ∷ input) keys.igtk.key) → Fine d n h (re_resp_acts d n p h octets (Some (fte_seal (ptk i).kck input)) (keyed_by i) keys)
re_resp_core d n p h part octets i input f keys suite station legal s a begins current r last c gtk_ igtk_ =
    let took : Act = Took (Some p) octets kind.ReResp Accepted (Some (fte_seal (ptk i).kck input)) in
    let m : List Act = add (close_associated (associated h)) (took ∷ h) in
    let w = ahead_by d n p h part octets i input f station legal s a begins current r last c (associated h) refl in
    fine_quiet d n h took _ tt refl s (λ t.
    fine_append d n (took ∷ h) (close_associated (associated h)) _ (fine_associated d n (took ∷ h) (associated h) refl t)
    (re_resp_end d n p h m octets i input keys suite station w gtk_ igtk_))

-- the IGTK that was unwrapped is the one that is given
igtk_carried : (x : Derivation) (o : Option FteFields) (facts : Facts) (f : FteFields) (input : List ℕ) → x.ptk ≡ ptk x.inputs → o ≡ Some f → CoversFte (2 ∷ input) 6 f → IgtkTaken facts x f → Carried groups.Igtk x.inputs (2 ∷ input) (keys_by o facts).igtk.key
igtk_carried x o facts f input key fte covers t =
    let is : carried_igtk_by (igtk_in o) facts.unwrapped_igtk ≡ record { key = t.plain; id = t.w.id } = ap (λ (v : Option WrappedIgtkFields). carried_igtk_by v facts.unwrapped_igtk) (ap igtk_in fte ∙ t.igtk) ∙ ap (λ (v : Option (List ℕ)). carried_igtk_by (Some t.w) v) t.unwrapped in
    subst (λ (v : GroupKey). Carried groups.Igtk x.inputs (2 ∷ input) v.key) (sym is)
    (record { f = f; covers = covers; w = t.w.wrapped; has = ap (λ (v : Option WrappedIgtkFields). option_map (λ (g : WrappedIgtkFields). g.wrapped) v) t.igtk; wraps = subst (λ (v : Ptk). Wraps v.kek t.plain t.w.wrapped) key t.wraps })

re_resp_fine : (d : Domain) (first : ℕ) (n : Node) (h : List Act) (octets : List ℕ) (r : Reading) (facts : Facts) (g : List Act) → Reads d.akm octets r → Knows d first n h r facts → LegalHistory d n h → Settled d n h → ReRespRow (here d first n) h octets r facts g → Fine d n h g
re_resp_fine d first n h octets r facts g reads knows legal s row =
    let p : Node = row.p in
    let x : Derivation = row.x in
    let i : Inputs = x.inputs in
    let c = came d first n p h octets r row.b row.e Accepted row.is reads row.from (inl refl) (and_accepted (first_verdict d first n h r) (further d first n h r facts) row.accepted) in
    let t = re_resp_taken d first n p h row.b row.e facts x row.kind_is c (subst (λ (v : Reading). verdict d first n h v facts ≡ Accepted) row.is row.accepted) (subst (λ (v : Reading). Knows d first n h v facts) row.is knows) row.awaited in
    let m = keying_moves p h x row.awaited in
    let suite = mobile_suite d n p h m.part legal m.awaited m.moves in
    let o = s.ground.octets suite in
    let ready = ready_of d n p h m.part x legal m.awaited m.last in
    let same_key : x ≡ keyed_by i = keyed_as x ready.0 in
    let own = address_six d n o c.listed in
    let theirs = address_six d p o c.peer_listed in
    let covers : CoversFte (2 ∷ t.input) 6 t.f = took_fte (address d n) (address d p) 6 row.e t.f t.input c.raw t.fte own theirs t.covered in
    let last = derivation_of p h m.part x m.awaited m.last ∙ ap Some same_key in
    let keys : GivenKeys = keys_by row.e.fte facts in
    let gtk_is : keys.gtk ≡ record { key = t.plain; id = gtk_id t.w } = ap (λ (v : Option WrappedGtkFields). carried_by v facts.unwrapped) (ap gtk_in t.fte ∙ t.gtk) ∙ ap (λ (v : Option (List ℕ)). carried_by (Some t.w) v) t.unwrapped in
    let gtk_ : Carried groups.Gtk i (2 ∷ t.input) keys.gtk.key = subst (λ (v : GroupKey). Carried groups.Gtk i (2 ∷ t.input) v.key) (sym gtk_is)
    (record { f = t.f; covers = covers; w = t.w.wrapped; has = ap (λ (v : Option WrappedGtkFields). option_map (λ (g : WrappedGtkFields). g.wrapped) v) t.gtk; wraps = subst (λ (v : Ptk). Wraps v.kek t.plain t.w.wrapped) ready.0 t.wraps }) in
    let igtk_ : protects d ≡ true → Carried groups.Igtk i (2 ∷ t.input) keys.igtk.key = λ on. igtk_carried x row.e.fte facts t.f t.input ready.0 t.fte covers (t.igtk on) in
    let core = re_resp_core d n p h m.part octets i t.input t.f keys suite t.station legal s m.awaited (roam_no_renewal (start_of m.part) m.moves) (m.last ∙ ap Some same_key) ready.1 last covers gtk_ igtk_ in
    subst (λ (v : List Act). Fine d n h v) (sym row.says)
    (subst (λ (v : Option Seal). Fine d n h (re_resp_acts d n p h octets v x keys)) (sym (t.seal ∙ ap (λ (v : Ptk). Some (fte_seal v.kck t.input)) ready.0))
    (subst (λ (v : Derivation). Fine d n h (re_resp_acts d n p h octets (Some (fte_seal (ptk i).kck t.input)) v keys)) (sym same_key) core))

-- ---- octets come

-- such a frame is not passed over
managed_here : (d : Domain) (octets : List ℕ) (r : Reading) (b : Management) (e : ElementFields) → r ≡ Managed b e → ReadsAt d octets r → Reads d.akm octets r
managed_here d octets r b e is reads = reads_here d octets r (λ over. cc (is, over)) reads

keyed_here : (d : Domain) (octets : List ℕ) (r : Reading) (k : KeyMessage) → r ≡ Keyed k → ReadsAt d octets r → Reads d.akm octets r
keyed_here d octets r k is reads = reads_here d octets r (λ over. cc (is, over)) reads

sealed_here : (d : Domain) (octets : List ℕ) (r : Reading) (header : HeaderFields) (way : Direction) (tid : Option ℕ) (body : List ℕ) → r ≡ Sealed header way tid body → ReadsAt d octets r → Reads d.akm octets r
sealed_here d octets r header way tid body is reads = reads_here d octets r (λ over. cc (is, over)) reads

acting_here : (d : Domain) (octets : List ℕ) (r : Reading) (header : HeaderFields) (body : List ℕ) → r ≡ Acting header body → ReadsAt d octets r → Reads d.akm octets r
acting_here d octets r header body is reads = reads_here d octets r (λ over. cc (is, over)) reads

pub take_fine : (d : Domain) (first : ℕ) (n : Node) (h : List Act) (octets : List ℕ) (r : Reading) (facts : Facts) (g : List Act) → ReadsAt d octets r → Knows d first n h r facts → RightActs d n g → LegalHistory d n h → Settled d n h → TakeRows (here d first n) h octets r facts g → Fine d n h g
take_fine d first n h octets r facts g reads knows right legal s (By_assoc_req row) = assoc_req_fine d first n h octets r facts g s row
take_fine d first n h octets r facts g reads knows right legal s (By_assoc_resp row) = assoc_resp_fine d first n h octets r facts g s row
take_fine d first n h octets r facts g reads knows right legal s (By_m1 row) = m1_fine d first n h octets r facts g (keyed_here d octets r row.k row.is reads) legal s row
take_fine d first n h octets r facts g reads knows right legal s (By_opening_m1 row) = opening_m1_fine d first n h octets r facts g (keyed_here d octets r row.k row.is reads) legal s row
take_fine d first n h octets r facts g reads knows right legal s (By_m2 row) = m2_fine d first n h octets r facts g (keyed_here d octets r row.k row.is reads) legal s row
take_fine d first n h octets r facts g reads knows right legal s (By_row_m3 row) = m3_fine d first n h octets r facts g (keyed_here d octets r row.k row.is reads) knows legal s row
take_fine d first n h octets r facts g reads knows right legal s (By_repeated_m3 row) = repeated_m3_fine d first n h octets r facts g (keyed_here d octets r row.k row.is reads) legal s row
take_fine d first n h octets r facts g reads knows right legal s (By_m4 row) = m4_fine d first n h octets r facts g (keyed_here d octets r row.k row.is reads) legal s row
take_fine d first n h octets r facts g reads knows right legal s (By_row_g1 row) = g1_fine d first n h octets r facts g (keyed_here d octets r row.k row.is reads) knows legal s row
take_fine d first n h octets r facts g reads knows right legal s (By_row_g2 row) = g2_fine d first n h octets r facts g s row
take_fine d first n h octets r facts g reads knows right legal s (By_ft_req row) = ft_req_fine d first n h octets r facts g (managed_here d octets r row.b row.e row.is reads) right s row
take_fine d first n h octets r facts g reads knows right legal s (By_repeated_ft_req row) = repeated_ft_req_fine d first n h octets r facts g legal s row
take_fine d first n h octets r facts g reads knows right legal s (By_ft_resp row) = ft_resp_fine d first n h octets r facts g (managed_here d octets r row.b row.e row.is reads) legal s row
take_fine d first n h octets r facts g reads knows right legal s (By_re_req row) = re_req_fine d first n h octets r facts g (managed_here d octets r row.b row.e row.is reads) legal s row
take_fine d first n h octets r facts g reads knows right legal s (By_repeated_re_req row) = repeated_re_req_fine d first n h octets r facts g legal s row
take_fine d first n h octets r facts g reads knows right legal s (By_re_resp row) = re_resp_fine d first n h octets r facts g (managed_here d octets r row.b row.e row.is reads) knows legal s row
take_fine d first n h octets r facts g reads knows right legal s (By_data row) = data_fine d first n h octets r facts g (sealed_here d octets r row.header row.way row.tid row.body row.is reads) knows legal s row
take_fine d first n h octets r facts g reads knows right legal s (By_action row) = action_fine d first n h octets r facts g (acting_here d octets r row.header row.body row.is reads) knows legal s row
take_fine d first n h octets r facts g reads knows right legal s (By_ignored row) = ignored_fine d first n h octets r facts g s row
take_fine d first n h octets r facts g reads knows right legal s (By_refusal row) = refused_fine d first n h octets r facts g right s row
