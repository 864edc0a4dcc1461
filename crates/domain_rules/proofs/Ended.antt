-- What ends a session.
use Rattle.std.proofs.Common.{◌≡◌, ◌⊎◌, ℕ, zero, suc, ◌+◌, ◌<◌, arith, cond, Bool, true, false, List, [], ◌∷◌, ◌++◌, length, Option, Some, None, refl, sym, ap, subst, ◌∙◌, inl, inr}
use Rattle.std.proofs.lemmas.Bool.{and_parts}
use Rattle.std.specs.Prelude.{◌&&◌, ◌||◌, ◌==◌, nat_lt, if◌then◌else◌}
use Rattle.domain_base.specs.declared.names.Mac.{Mac}
use Rattle.domain_base.specs.declared.names.Node.{Node}
use Rattle.domain_base.specs.declared.names.Node.TheVariants.{Ap, Sta}
use Rattle.eapol_key.specs.declared.messages.Message.{Message}
use Rattle.eapol_key.specs.declared.messages.Message.TheVariants.{M1, M2, M3, M4, G1}
use Rattle.run_journal.specs.declared.domain.Domain.{Domain}
use Rattle.run_journal.specs.Events.{protects}
use Rattle.run_journal.specs.declared.acts.Kind.{Kind}
use Rattle.run_journal.specs.declared.acts.Kind.TheVariants as kind
use Rattle.run_journal.specs.declared.acts.Part.TheVariants.{Attempt, Session}
use Rattle.run_journal.specs.declared.acts.Reason.{Reason}
use Rattle.run_journal.specs.declared.acts.Why.TheVariants as why
use Rattle.run_journal.specs.declared.acts.Outcome.TheVariants.{Accepted}
use Rattle.run_journal.specs.declared.acts.Act.{Act}
use Rattle.run_journal.specs.declared.acts.Act.TheVariants.{Closed, Derived, Finished, GaveUp, Idle, Took, Used, Installed}
use Rattle.run_journal.specs.declared.acts.Act.TheVariants as act
use Rattle.run_journal.specs.declared.acts.Key.TheVariants.{Pairwise}
use Rattle.domain_base.specs.declared.names.Akm.{Akm}
use Rattle.domain_base.specs.declared.names.Peer.{Peer}
use Rattle.domain_base.specs.declared.names.Peer.TheVariants.{One, All}
use Rattle.mac_prf.specs.Mic.{without_mic}
use Rattle.replay_window.specs.Numbers.{last_number}
use Rattle.ccmp_guard.specs.Ccmp.{packet_number, sealed_octets}
use Rattle.run_journal.specs.declared.acts.Seal.{Seal}
use Rattle.domain_rules.specs.PacketNumbers.{SendKey, send_key, current, group_send_key}
use Rattle.domain_rules.specs.ManagementFrames.{announced, sent_action, announced_acts, announce_acts_by, bip_input, before_mic}
use Rattle.domain_rules.specs.DataFrames.{sent_data}
use Rattle.domain_rules.specs.DataRows.{used_acts, send_acts_by}
use Rattle.domain_rules.specs.Verified.{IsVerified, IsVerifiedFte, IsNoted, By_mic, By_fte, By_ccm, By_bip}
use Rattle.run_journal.specs.Acts.{Derivation, GroupKey}
use Rattle.run_journal.specs.declared.acts.GroupKind.{GroupKind}
use Rattle.run_journal.specs.declared.acts.GroupKind.TheVariants as groups
use Rattle.run_journal.specs.Premises.{In}
use Rattle.run_journal.specs.Questions.{pending, associated, attempt, derivation, before_sent, session, handshake, draws, add}
use Rattle.run_journal.proofs.Members.{In-append_left, In-append_right}
use Rattle.domain_rules.specs.Network.{mac}
use Rattle.domain_rules.specs.Counters.{sent_count, next_counter}
use Rattle.domain_rules.specs.GroupKeys.{memory, find_key, give_by, GivenKeys, give_igtk, give_all, is_current}
use Rattle.domain_rules.specs.Owing.{owing, any_owes, current_act, current_igtk, current_acts, switch_acts}
use Rattle.domain_rules.specs.Frames.{sent_m1, sent_m4, sent_g2, frame_seal}
use Rattle.domain_rules.specs.Reading.{Management, Reading, NoFrame, PassedOver, NoElements, Managed, NoKeyFrame, NoMessage, Keyed, Sealed, Acting, Reads, ReadsBy, passes_over, ReadsAt, kind_of}
use Rattle.domain_rules.specs.Facts.{Facts}
use Rattle.domain_rules.specs.Asking.{is_four_way, in_renewal, has_heard, own}
use Rattle.domain_rules.specs.Rows.{NodeEvent, Take, Begin, Retry, Rekey, Send, Expire, Leave, Roam as RoamEvent, Revoke, Secret, Renew as RenewEvent, Announce as AnnounceEvent, refused_status, response_by, response, TakeRows, By_assoc_req, By_assoc_resp, By_m1, By_opening_m1, By_m2, By_m3, By_repeated_m3, By_m4, By_g1, By_g2, By_data, By_action, By_ft_req, By_repeated_ft_req, By_ft_resp, By_re_req as By_request, By_repeated_re_req, By_re_resp as By_response, By_ignored, By_refusal, RowOf, Adds}
use Rattle.domain_rules.specs.Closing.{close_attempt, close_session, close_associated, close_pending, or_nothing, sender}
use Rattle.domain_rules.specs.StationRows.{carried_keys, replaced}
use Rattle.domain_rules.specs.AccessPointRows.{m4_acts, newer_acts, carried_older, g1_to, most_sends, again_or_give_up, m3_again, retry_attempt, retry_session, retry_acts, to_session, to_sessions, draw_igtk, draw_acts, next_keys, RekeyRow, Pending, Spent, Renews}
use Rattle.domain_rules.specs.PairwiseRenewal.{RenewRow}
use Rattle.domain_rules.specs.PairwiseRenewal as renew
use Rattle.domain_rules.proofs.Sending.{sent_by}
use Rattle.domain_rules.specs.ChangedKeys.{old_row_by, secret_of, secret_of_each, secret_acts, IsDropped}
use Rattle.domain_rules.specs.Ended.{IsUnderDerived, EndsRightly, By_begin, By_m4 as By_an_m4, By_m3 as By_an_m3, By_retry, By_expire, By_leave, By_re_req, By_re_resp, By_secret}
use Rattle.rsn_elements.specs.Elements.{ElementFields}
use Rattle.key_hierarchy.specs.declared.answers.PullAnswer.{PullAnswer}
use Rattle.key_hierarchy.specs.declared.fast_transition.PmkR1.{PmkR1}
use Rattle.domain_base.specs.declared.names.Akm.TheVariants.{Psk, PskSha256, FtPsk}
use Rattle.run_journal.specs.Holders.{Stored, first_stored, since_finished}
use Rattle.domain_rules.specs.FastTransition.{single}
use Rattle.domain_rules.specs.TransitionKeys.{Asked, asked, Judged, judged, re_req_covered, re_req_seal, re_resp_keying, re_resp_covered, re_resp_seal}
use Rattle.domain_rules.specs.TransitionRows.{sent_again, look_answer, looked_by, looked_for, look_of_kind, refused_look, RoamRow, NoSession, SamePeer}
use Rattle.domain_rules.specs.TransitionRows as roam
use Rattle.domain_rules.specs.KeyHolders.{put_acts_by, put_acts, revoke_acts_by}
use Rattle.domain_rules.proofs.OneOutcome.{and_accepted}
use Rattle.domain_rules.proofs.Derivations.{m3_derived, m4_derived, judged_derived, resp_derived}
use Rattle.domain_rules.proofs.FteSeals.{req_tried, resp_tried, status_seal, request_noted, response_noted, request_has, response_has}
use Rattle.domain_rules.proofs.Covered.{req_covered, resp_covered}
use Rattle.domain_rules.specs.Here.{here}
use Rattle.domain_rules.proofs.Noted.{noted_verified, in_switched, among_all}

-- ---- acts that end no session

abbrev is_kept : Act → Bool
is_kept (Closed q Session) = false
is_kept _ = true

abbrev are_kept : List Act → Bool
are_kept [] = true
are_kept (e ∷ g) = is_kept e && are_kept g

none_ended : (p : Node) (g : List Act) → are_kept g ≡ true → In (Closed p Session) g → ⊥
none_ended p [] kept there = there
none_ended p (e ∷ g) kept (inl here) = let w = and_parts (is_kept e) (are_kept g) kept in let no : is_kept (Closed p Session) ≡ true = ap is_kept here ∙ w.0 in cc no
none_ended p (e ∷ g) kept (inr later) = none_ended p g (and_parts (is_kept e) (are_kept g) kept).1 later

kept_if : (b : Bool) (f g : List Act) → are_kept f ≡ true → are_kept g ≡ true → are_kept (if b then f else g) ≡ true
kept_if true f g one two = one
kept_if false f g one two = two

kept_attempt : (p : Node) (o : Option (List Act)) (g : List Act) → are_kept g ≡ true → are_kept (close_attempt p o ++ g) ≡ true
kept_attempt p None g kept = kept
kept_attempt p (Some part) g kept = kept

kept_give : (k : GroupKind) (p : Node) (b : Mac) (x : GroupKey) (o : Option GroupKey) (g : List Act) → are_kept g ≡ true → are_kept (give_by k p b x o ∷ g) ≡ true
kept_give k p b x None g kept = kept
kept_give k p b x (Some y) g kept = kept

kept_igtk : (mfp : Bool) (p : Node) (b : Mac) (x : GroupKey) (h g : List Act) → are_kept g ≡ true → are_kept (give_igtk mfp p b x h ++ g) ≡ true
kept_igtk true p b x h g kept = kept_give groups.Igtk p b x (find_key x.key (memory groups.Igtk p h)) g kept
kept_igtk false p b x h g kept = kept

kept_given : (d : Domain) (p : Node) (b : Mac) (keys : GivenKeys) (h g : List Act) → are_kept g ≡ true → are_kept (give_all d p b keys h ++ g) ≡ true
kept_given d p b keys h g kept =
    kept_give groups.Gtk p b keys.gtk (find_key keys.gtk.key (memory groups.Gtk p h)) (give_igtk (protects d) p b keys.igtk h ++ g) (kept_igtk (protects d) p b keys.igtk h g kept)

kept_by : (d : Domain) (n q : Node) (k : Kind) (o : Option ℕ) → are_kept (response_by d n q k o) ≡ true
kept_by d n q kind.AssocReq (Some code) = refl
kept_by d n q kind.FtReq (Some code) = refl
kept_by d n q kind.ReReq (Some code) = refl
kept_by d n q k _ = refl

kept_response : (d : Domain) (n : Node) (from : Option Node) (k : Kind) (w : Reason) → are_kept (response d n from k w) ≡ true
kept_response d (Ap a) (Some p) k w = kept_by d (Ap a) p k (refused_status w)
kept_response d (Ap a) None k w = refl
kept_response d (Sta s) from k w = refl

kept_asked : (p : Node) (o : Option Asked) (x : Option PullAnswer) → are_kept (looked_for p o x) ≡ true
kept_asked p None x = refl
kept_asked p (Some a) x = by (single a.names) x
  where
    by : (m : Option (List ℕ)) (y : Option PullAnswer) → are_kept (looked_by p a m y) ≡ true
    by (Some name) (Some answer) = refl
    by (Some name) None = refl
    by None y = refl

kept_kind : (k : Kind) (p : Node) (e : ElementFields) (x : Option PullAnswer) → are_kept (look_of_kind k p e x) ≡ true
kept_kind kind.FtReq p e x = kept_asked p (asked e) x
kept_kind _ p e x = refl

kept_look : (n : Node) (from : Option Node) (r : Reading) (x : Option PmkR1) (w : Reason) → are_kept (refused_look n from r x w) ≡ true
kept_look (Ap a) (Some p) (Managed b e) x w = kept_kind b.kind p e (look_answer w x)
kept_look (Ap a) (Some p) (NoFrame fault) x w = refl
kept_look (Ap a) (Some p) PassedOver x w = refl
kept_look (Ap a) (Some p) (NoElements b fault) x w = refl
kept_look (Ap a) (Some p) (NoKeyFrame header fault) x w = refl
kept_look (Ap a) (Some p) (NoMessage header) x w = refl
kept_look (Ap a) (Some p) (Keyed k) x w = refl
kept_look (Ap a) (Some p) (Sealed header way tid body) x w = refl
kept_look (Ap a) (Some p) (Acting header body) x w = refl
kept_look (Ap a) None r x w = refl
kept_look (Sta s) from r x w = refl

kept_stored : (p : Node) (k : Kind) (o : Option Stored) → are_kept (sent_again p k o) ≡ true
kept_stored p k None = refl
kept_stored p k (Some s) = refl

kept_put : (akm : Akm) (d : Domain) (n : Node) (h : List Act) (p : Node) (x : Derivation) → are_kept (put_acts_by akm d n h p x) ≡ true
kept_put FtPsk d n h p x = refl
kept_put Psk d n h p x = refl
kept_put PskSha256 d n h p x = refl

kept_revoke : (akm : Akm) (d : Domain) (n : Node) (h : List Act) (p : Node) → are_kept (revoke_acts_by akm d n h p) ≡ true
kept_revoke FtPsk d n h p = refl
kept_revoke Psk d n h p = refl
kept_revoke PskSha256 d n h p = refl

kept_pending : (o : Option Node) (g : List Act) → are_kept g ≡ true → are_kept (close_pending o ++ g) ≡ true
kept_pending None g kept = kept
kept_pending (Some p) g kept = kept

kept_m3 : (d : Domain) (n : Node) (h : List Act) (p : Node) (part : List Act) (x : Option Derivation) (past : Option (List Act)) → is_kept (m3_again d n h p part x past) ≡ true
kept_m3 d n h p part (Some x) (Some past) = refl
kept_m3 d n h p part x past = refl

kept_again : (p : Node) (m : Message) (sends : ℕ) (e : Act) → is_kept e ≡ true → are_kept (again_or_give_up p m sends e) ≡ true
kept_again p m sends e kept = kept_if (nat_lt sends most_sends) (e ∷ []) (GaveUp p m ∷ Closed p Attempt ∷ []) (ap (λ (b : Bool). b && true) kept) refl

kept_retry_attempt : (d : Domain) (n : Node) (h : List Act) (p : Node) (part : List Act) → are_kept (retry_attempt d n h p part) ≡ true
kept_retry_attempt d n h p part =
    kept_if (has_heard p (kind.Key M2) part)
    (again_or_give_up p M3 (sent_count p M3 part) (m3_again d n h p part (derivation p part) (before_sent p (kind.Key M3) h)))
    (again_or_give_up p M1 (sent_count p M1 part) (sent_m1 d n p (next_counter p h part) (own part)))
    (kept_again p M3 (sent_count p M3 part) (m3_again d n h p part (derivation p part) (before_sent p (kind.Key M3) h)) (kept_m3 d n h p part (derivation p part) (before_sent p (kind.Key M3) h)))
    (kept_again p M1 (sent_count p M1 part) (sent_m1 d n p (next_counter p h part) (own part)) refl)

-- where a session ends as it is given up, the message is G1, and it is that of the event
abbrev GivesUp : Node → Node → List Act → Type 0
GivesUp p q g = (p ≡ q) × In (GaveUp p G1) g

given_up : (p q : Node) (b : Bool) (e : Act) → is_kept e ≡ true → In (Closed p Session) (if b then e ∷ [] else GaveUp q G1 ∷ Closed q Session ∷ []) → GivesUp p q (if b then e ∷ [] else GaveUp q G1 ∷ Closed q Session ∷ [])
given_up p q true e kept there = absurd (none_ended p (e ∷ []) (ap (λ (b : Bool). b && true) kept) there)
given_up p q false e kept (inl here) = absurd (cc here)
given_up p q false e kept (inr (inl here)) = let same : p ≡ q = cc here in (same, inl (ap (λ (x : Node). GaveUp x G1) same))
given_up p q false e kept (inr (inr none)) = absurd none

up_session : (d : Domain) (n : Node) (h : List Act) (p q : Node) (o : Option Derivation) → In (Closed p Session) (retry_session d n h q o) → GivesUp p q (retry_session d n h q o)
up_session d n h p q None there = absurd (none_ended p (Idle why.Nothing ∷ []) refl there)
up_session d n h p q (Some x) there = given_up p q (nat_lt (sent_count q G1 (handshake groups.Gtk q h)) most_sends) (g1_to d n q h x) refl there

up_if : (p q : Node) (b : Bool) (f g : List Act) → are_kept f ≡ true → (In (Closed p Session) g → GivesUp p q g) → In (Closed p Session) (if b then f else g) → GivesUp p q (if b then f else g)
up_if p q true f g kept more there = absurd (none_ended p f kept there)
up_if p q false f g kept more there = more there

up_retry : (d : Domain) (n : Node) (h : List Act) (p q : Node) (o : Option (List Act)) → In (Closed p Session) (retry_acts d n h q o) → GivesUp p q (retry_acts d n h q o)
up_retry d n h p q None there = up_session d n h p q (owing groups.Gtk q h) there
up_retry d n h p q (Some part) there =
    up_if p q (is_four_way part) (retry_attempt d n h q part) (retry_session d n h q (owing groups.Gtk q h))
    (kept_retry_attempt d n h q part) (up_session d n h p q (owing groups.Gtk q h)) there

kept_both : (b c : Bool) → b ≡ true → c ≡ true → (b && c) ≡ true
kept_both true c s t = t
kept_both false c s t = absurd (cc s)

kept_append : (f g : List Act) → are_kept f ≡ true → are_kept g ≡ true → are_kept (f ++ g) ≡ true
kept_append [] g one two = two
kept_append (e ∷ f) g one two = let w = and_parts (is_kept e) (are_kept f) one in kept_both (is_kept e) (are_kept (f ++ g)) w.0 (kept_append f g w.1 two)

kept_newer : (d : Domain) (n p : Node) (h : List Act) (x : Derivation) (b : Bool) → are_kept (newer_acts d n p h x b) ≡ true
kept_newer d n p h x false = refl
kept_newer d n p h x true = refl

kept_to : (d : Domain) (n p : Node) (h : List Act) (o : Option Derivation) → are_kept (to_session d n p h o) ≡ true
kept_to d n p h None = refl
kept_to d n p h (Some x) = refl

kept_all : (d : Domain) (n : Node) (k : ℕ) (h : List Act) → are_kept (to_sessions d n k h) ≡ true
kept_all d n zero h = refl
kept_all d n (suc k) h =
    kept_append (to_sessions d n k h) (to_session d n (Sta k) (add (to_sessions d n k h) h) (session (Sta k) (add (to_sessions d n k h) h)))
    (kept_all d n k h) (kept_to d n (Sta k) (add (to_sessions d n k h) h) (session (Sta k) (add (to_sessions d n k h) h)))

kept_drawn_by : (mfp : Bool) (d : Domain) (n : Node) (number : ℕ) → are_kept (draw_igtk mfp d n number) ≡ true
kept_drawn_by true d n number = refl
kept_drawn_by false d n number = refl

kept_drawn : (d : Domain) (n : Node) (number : ℕ) → are_kept (draw_acts d n number) ≡ true
kept_drawn d n number = kept_drawn_by (protects d) d n (suc number)

kept_rekey : (d : Domain) (first : ℕ) (n : Node) (h g : List Act) → RekeyRow (here d first n) h g → are_kept g ≡ true
kept_rekey d first n h g (Pending late is) = ap are_kept is
kept_rekey d first n h g (Spent all many is) = ap are_kept is
kept_rekey d first n h g (Renews role all few is) =
    ap are_kept is ∙ kept_append (next_keys (here d first n) h) (to_sessions d n (length d.stas) (add (next_keys (here d first n) h) h))
    (kept_drawn d n (first + draws h)) (kept_all d n (length d.stas) (add (next_keys (here d first n) h) h))

kept_switch_by : (b : Bool) (f : List Act) → are_kept f ≡ true → are_kept (cond b [] f) ≡ true
kept_switch_by true f kept = refl
kept_switch_by false f kept = kept

kept_current : (mfp : Bool) (d : Domain) (n : Node) (h : List Act) → are_kept (current_act groups.Gtk d n h ∷ current_igtk mfp d n h) ≡ true
kept_current true d n h = refl
kept_current false d n h = refl

kept_switch : (d : Domain) (a : ℕ) (h : List Act) → are_kept (switch_acts d a h) ≡ true
kept_switch d a h = kept_switch_by (is_current groups.Gtk h || any_owes groups.Gtk (length d.stas) h) (current_acts d (Ap a) h) (kept_current (protects d) d (Ap a) h)

-- the session that a station is told to be dropped by an access point
expired : (p q : Node) (o : Option (List Act)) (x : Option Derivation) → In (Closed p Session) (or_nothing (close_attempt q o ++ close_session q x)) → p ≡ q
expired p q None None there = absurd (none_ended p (Idle why.Nothing ∷ []) refl there)
expired p q (Some part) None there = absurd (none_ended p (Closed q Attempt ∷ []) refl there)
expired p q None (Some x) (inl here) = cc here
expired p q None (Some x) (inr none) = absurd none
expired p q (Some part) (Some x) (inl here) = absurd (cc here)
expired p q (Some part) (Some x) (inr (inl here)) = cc here
expired p q (Some part) (Some x) (inr (inr none)) = absurd none

-- what is sent ends none
kept_used : (d : Domain) (n : Node) (q : Peer) (tid : Option ℕ) (plain : List ℕ) (k : SendKey) → are_kept (used_acts d n q tid plain k) ≡ true
kept_used d n q tid plain k = kept_if (nat_lt k.used last_number) (Used q k.key k.id (suc k.used) plain ∷ sent_data d n q tid k.key k.id (suc k.used) plain ∷ []) (Idle why.Spent ∷ []) refl refl

kept_send : (d : Domain) (n : Node) (q : Peer) (tid : Option ℕ) (plain : List ℕ) (o : Option SendKey) → are_kept (send_acts_by d n q tid plain o) ≡ true
kept_send d n q tid plain None = refl
kept_send d n q tid plain (Some k) = kept_used d n q tid plain k

-- nor is what is announced
kept_announced : (d : Domain) (n : Node) (content : List ℕ) (k : SendKey) → are_kept (announced_acts d n content k) ≡ true
kept_announced d n content k =
    kept_if (nat_lt k.used last_number) (Used All k.key k.id (suc k.used) content ∷ sent_action d n k.key k.id (suc k.used) content ∷ []) (Idle why.Spent ∷ []) refl refl

kept_announce : (d : Domain) (n : Node) (content : List ℕ) (o : Option SendKey) → are_kept (announce_acts_by d n content o) ≡ true
kept_announce d n content None = refl
kept_announce d n content (Some k) = kept_announced d n content k

-- ---- an M4, an M3 and the reassociation frames are the only ones that end one

closed_replaced : (p q : Node) (b : Bool) (g : List Act) → are_kept g ≡ true → In (Closed p Session) (replaced q b ++ g) → (p ≡ q) × (b ≡ true)
closed_replaced p q false g kept there = absurd (none_ended p g kept there)
closed_replaced p q true g kept (inl here) = (cc here, refl)
closed_replaced p q true g kept (inr there) = absurd (none_ended p g kept there)

closed_of : (p q : Node) (o : Option Derivation) (g : List Act) → are_kept g ≡ true → In (Closed p Session) (close_session q o ++ g) → p ≡ q
closed_of p q None g kept there = absurd (none_ended p g kept there)
closed_of p q (Some x) g kept (inl here) = cc here
closed_of p q (Some x) g kept (inr there) = absurd (none_ended p g kept there)

closed_m4 : (p q : Node) (o : Option Derivation) (x : Derivation) (put newer : List Act) → are_kept put ≡ true → are_kept newer ≡ true
    → In (Closed p Session) ((close_session q o ++ Installed (One q) (Pairwise x.ptk.tk x.inputs) ∷ Finished q x.inputs ∷ put) ++ newer) → p ≡ q
closed_m4 p q None x put newer putting kept there = absurd (none_ended p (Installed (One q) (Pairwise x.ptk.tk x.inputs) ∷ Finished q x.inputs ∷ put ++ newer) (kept_append put newer putting kept) there)
closed_m4 p q (Some y) x put newer putting kept (inl here) = cc here
closed_m4 p q (Some y) x put newer putting kept (inr there) = absurd (none_ended p (Installed (One q) (Pairwise x.ptk.tk x.inputs) ∷ Finished q x.inputs ∷ put ++ newer) (kept_append put newer putting kept) there)

later_than : (x e : Act) (g : List Act) → In x (e ∷ g) → (x ≡ e → ⊥) → In x g
later_than x e g (inl here) other = absurd (other here)
later_than x e g (inr later) other = later

-- the row is that of an M4 or M3 of p, or of a reassociation frame, whose MIC verified, under a key that was derived
data RowEnds (h : List Act) (p : Node) (octets : List ℕ) (g : List Act) : Type 0 where
  An_m4 : (kck whole : List ℕ) → In (Took (Some p) octets (kind.Key M4) Accepted (Some (frame_seal kck whole))) g → IsUnderDerived h g p (frame_seal kck whole) → RowEnds h p octets g
  An_m3 : in_renewal (attempt p h) ≡ true → (kck whole : List ℕ) → In (Took (Some p) octets (kind.Key M3) Accepted (Some (frame_seal kck whole))) g → IsUnderDerived h g p (frame_seal kck whole) → RowEnds h p octets g
  A_request : (s : Seal) → In (Took (Some p) octets kind.ReReq Accepted (Some s)) g → IsVerifiedFte octets s → IsUnderDerived h g p s → RowEnds h p octets g
  A_response : (q : Node) (s : Seal) → In (Took (Some q) octets kind.ReResp Accepted (Some s)) g → IsVerifiedFte octets s → IsUnderDerived h g q s → RowEnds h p octets g

-- the seal is under the key of a derivation of the history, which the row installs
under : (h g : List Act) (p : Node) (s : Seal) (x : Derivation) → In (Derived p x.inputs x.ptk) h → s.key ≡ x.ptk.kck → In (Installed (One p) (Pairwise x.ptk.tk x.inputs)) g → IsUnderDerived h g p s
under h g p s x derived kck installs = record { inputs = x.inputs; ptk = x.ptk; derived = derived; kck = kck; installs = installs }

under_more : (h g all : List Act) (p : Node) (s : Seal) → ((x : Act) → In x g → In x all) → IsUnderDerived h g p s → IsUnderDerived h all p s
under_more h g all p s more u = record { inputs = u.inputs; ptk = u.ptk; derived = u.derived; kck = u.kck; installs = more _ u.installs }

req_key : (d : Domain) (n p : Node) (h : List Act) (e : ElementFields) (y : Judged) (s : Seal) → judged p h e ≡ Some y → re_req_seal d n h p e ≡ Some s → s.key ≡ y.by_.key.ptk.kck
req_key d n p h e y s is seal =
    let t = req_tried (judged p h e) e.fte (re_req_covered d n p e) s seal in
    let one : t.0 ≡ y = cc (t.1.0, is) in
    ap (λ (v : Seal). v.key) t.1.1.is ∙ ap (λ (v : Judged). v.by_.key.ptk.kck) one

resp_key : (d : Domain) (n p : Node) (h : List Act) (b : Management) (e : ElementFields) (x : Derivation) (s : Seal) → re_resp_keying p h ≡ Some x → re_resp_seal d n h p b e ≡ Some s → s.key ≡ x.ptk.kck
resp_key d n p h b e x s is seal =
    let t = resp_tried (re_resp_keying p h) e.fte (re_resp_covered d n p e) s (status_seal (b.status == 0) _ s seal).1 in
    let one : t.0 ≡ x = cc (t.1.0, is) in
    ap (λ (v : Seal). v.key) t.1.1.is ∙ ap (λ (v : Derivation). v.ptk.kck) one

-- what reads as a management frame was not passed over before it was read
managed_reads : (passed : Bool) (akm : Akm) (octets : List ℕ) (r : Reading) (b : Management) (e : ElementFields) → r ≡ Managed b e → ReadsBy passed akm octets r → Reads akm octets r
managed_reads true akm octets r b e is over = let no : Managed b e ≡ PassedOver = sym is ∙ over in absurd (cc no)
managed_reads false akm octets r b e is reads = reads

row_ends : (d : Domain) (first : ℕ) (n : Node) (h : List Act) (octets : List ℕ) (r : Reading) (facts : Facts) (g : List Act) (p : Node)
    → ReadsAt d octets r → TakeRows (here d first n) h octets r facts g → In (Closed p Session) g → RowEnds h p octets g
row_ends d first n h octets r facts g p reads (By_assoc_req row) there = absurd (none_ended p g (ap are_kept row.says ∙ kept_attempt row.p (attempt row.p h) _ refl) there)
row_ends d first n h octets r facts g p reads (By_assoc_resp row) there = absurd (none_ended p g (ap are_kept row.says) there)
row_ends d first n h octets r facts g p reads (By_m1 row) there = absurd (none_ended p g (ap are_kept row.says) there)
row_ends d first n h octets r facts g p reads (By_opening_m1 row) there = absurd (none_ended p g (ap are_kept row.says) there)
row_ends d first n h octets r facts g p reads (By_m2 row) there = absurd (none_ended p g (ap are_kept row.says) there)
row_ends d first n h octets r facts g p reads (By_m3 row) there =
    let at = subst (λ (x : List Act). In (Closed p Session) x) row.says there in
    let ended = closed_replaced p row.p (in_renewal (attempt row.p h)) _
    (kept_given d row.p (mac d row.p) (carried_keys facts.data_) h (Finished row.p row.y.key.inputs ∷ sent_m4 d n row.p row.y.key row.k.fields.counter ∷ []) refl)
    (later_than (Closed p Session) _ _ at (λ e. cc e)) in
    let same : p ≡ row.p = ended.0 in
    let mine : List Act → Type 0 = λ x. In (Took (Some p) octets (kind.Key M3) Accepted (Some (frame_seal row.y.key.ptk.kck row.k.octets))) x in
    let took : mine g = subst mine (sym row.says) (inl (ap (λ (q : Node). Took (Some q) octets (kind.Key M3) Accepted (Some (frame_seal row.y.key.ptk.kck row.k.octets))) same)) in
    let installs : In (Installed (One row.p) (Pairwise row.y.key.ptk.tk row.y.key.inputs)) g =
    subst (λ (x : List Act). In (Installed (One row.p) (Pairwise row.y.key.ptk.tk row.y.key.inputs)) x) (sym row.says) (inr (In-append_right _ (replaced row.p (in_renewal (attempt row.p h))) _ (inl refl))) in
    An_m3 (ap (λ (q : Node). in_renewal (attempt q h)) same ∙ ended.1) row.y.key.ptk.kck row.k.octets took
    (subst (λ (q : Node). IsUnderDerived h g q (frame_seal row.y.key.ptk.kck row.k.octets)) (sym same)
    (under h g row.p (frame_seal row.y.key.ptk.kck row.k.octets) row.y.key (m3_derived row.p h row.k row.y row.awaited) refl installs))
row_ends d first n h octets r facts g p reads (By_repeated_m3 row) there = absurd (none_ended p g (ap are_kept row.says) there)
row_ends d first n h octets r facts g p reads (By_m4 row) there =
    let at = subst (λ (x : List Act). In (Closed p Session) x) row.says there in
    let put : List Act = put_acts d n h row.p row.x in
    let after : List Act = add (m4_acts octets row.k row.p row.x (session row.p h) put) h in
    let newer : List Act = newer_acts d n row.p after row.x (carried_older row.p h (before_sent row.p (kind.Key M3) h)) in
    let same : p ≡ row.p = closed_m4 p row.p (session row.p h) row.x put newer (kept_put d.akm d n h row.p row.x) (kept_newer d n row.p after row.x (carried_older row.p h (before_sent row.p (kind.Key M3) h))) (later_than (Closed p Session) _ _ at (λ e. cc e)) in
    let mine : List Act → Type 0 = λ x. In (Took (Some p) octets (kind.Key M4) Accepted (Some (frame_seal row.x.ptk.kck row.k.octets))) x in
    let took : mine g = subst mine (sym row.says) (inl (ap (λ (q : Node). Took (Some q) octets (kind.Key M4) Accepted (Some (frame_seal row.x.ptk.kck row.k.octets))) same)) in
    let installs : In (Installed (One row.p) (Pairwise row.x.ptk.tk row.x.inputs)) g = subst (λ (x : List Act). In (Installed (One row.p) (Pairwise row.x.ptk.tk row.x.inputs)) x) (sym row.says) (inr (In-append_left _ _ newer (In-append_right _ (close_session row.p (session row.p h)) _ (inl refl)))) in
    An_m4 row.x.ptk.kck row.k.octets took
    (subst (λ (q : Node). IsUnderDerived h g q (frame_seal row.x.ptk.kck row.k.octets)) (sym same)
    (under h g row.p (frame_seal row.x.ptk.kck row.k.octets) row.x (m4_derived row.p h row.part row.x row.awaited row.keyed) refl installs))
row_ends d first n h octets r facts g p reads (By_g1 row) there =
    absurd (none_ended p g (ap are_kept row.says ∙ kept_given d row.p (mac d row.p) (carried_keys facts.data_) h (sent_g2 d n row.p row.x row.k.fields.counter ∷ []) refl) there)
row_ends d first n h octets r facts g p reads (By_g2 row) there = absurd (none_ended p g (ap are_kept row.says) there)
row_ends d first n h octets r facts g p reads (By_data row) there = absurd (none_ended p g (ap are_kept row.says) there)
row_ends d first n h octets r facts g p reads (By_action row) there = absurd (none_ended p g (ap are_kept row.says) there)
row_ends d first n h octets r facts g p reads (By_ft_req row) there = absurd (none_ended p g (ap are_kept row.says ∙ kept_attempt row.p (attempt row.p h) _ refl) there)
row_ends d first n h octets r facts g p reads (By_repeated_ft_req row) there = absurd (none_ended p g (ap are_kept row.says ∙ kept_stored row.p kind.FtResp (first_stored row.p kind.FtResp row.part)) there)
row_ends d first n h octets r facts g p reads (By_ft_resp row) there = absurd (none_ended p g (ap are_kept row.says) there)
row_ends d first n h octets r facts g p at_node (By_request row) there =
    let reads : Reads d.akm octets r = managed_reads (passes_over d octets) d.akm octets r row.b row.e row.is at_node in
    let at = subst (λ (x : List Act). In (Closed p Session) x) row.says there in
    let same : p ≡ row.p = closed_of p row.p (session row.p h) _ refl (later_than (Closed p Session) _ _ at (λ e. cc e)) in
    let taken = inl (and_accepted _ _ row.accepted) in
    let seal = request_has d first n h r row.b row.e row.p row.is row.kind_is row.from taken (req_covered d first n h octets r row.b row.e facts reads row.is row.kind_is row.accepted) in
    let installs : In (Installed (One row.p) (Pairwise row.x.ptk.tk row.x.inputs)) g = subst (λ (x : List Act). In (Installed (One row.p) (Pairwise row.x.ptk.tk row.x.inputs)) x) (sym row.says) (inr (In-append_right _ (close_session row.p (session row.p h)) _ (inl refl))) in
    let keyed : IsUnderDerived h g row.p seal.0 =
    under h g row.p seal.0 row.x (subst (λ (x : Derivation). In (Derived row.p x.inputs x.ptk) h) (sym row.keyed) (judged_derived row.p h row.e row.y row.awaited))
    (req_key d n row.p h row.e row.y seal.0 row.awaited seal.1 ∙ ap (λ (x : Derivation). x.ptk.kck) (sym row.keyed)) installs in
    A_request seal.0 (subst (λ (x : List Act). In (Took (Some p) octets kind.ReReq Accepted (Some seal.0)) x) (sym row.says)
    (inl (ap (λ (q : Node). Took (Some q) octets kind.ReReq Accepted (Some seal.0)) same ∙ ap (λ (o : Option Seal). Took (Some row.p) octets kind.ReReq Accepted o) (sym seal.1))))
    (request_noted d first n h octets r row.b row.e row.p seal.0 reads row.is row.kind_is row.from taken seal.1)
    (subst (λ (q : Node). IsUnderDerived h g q seal.0) (sym same) keyed)
row_ends d first n h octets r facts g p reads (By_repeated_re_req row) there = absurd (none_ended p g (ap are_kept row.says ∙ kept_stored row.p kind.ReResp (first_stored row.p kind.ReResp (since_finished row.p h))) there)
row_ends d first n h octets r facts g p at_node (By_response row) there =
    let reads : Reads d.akm octets r = managed_reads (passes_over d octets) d.akm octets r row.b row.e row.is at_node in
    let taken = inl (and_accepted _ _ row.accepted) in
    let seal = response_has d first n h r row.b row.e row.p row.is row.kind_is row.from taken (resp_covered d first n h octets r row.b row.e facts reads row.is row.kind_is row.accepted) in
    let installs : In (Installed (One row.p) (Pairwise row.x.ptk.tk row.x.inputs)) g = subst (λ (x : List Act). In (Installed (One row.p) (Pairwise row.x.ptk.tk row.x.inputs)) x) (sym row.says) (inr (In-append_right _ (close_associated (associated h)) _ (inl refl))) in
    A_response row.p seal.0 (subst (λ (x : List Act). In (Took (Some row.p) octets kind.ReResp Accepted (Some seal.0)) x) (sym row.says)
    (inl (ap (λ (o : Option Seal). Took (Some row.p) octets kind.ReResp Accepted o) (sym seal.1))))
    (response_noted d first n h octets r row.b row.e row.p seal.0 reads row.is row.kind_is row.from taken seal.1)
    (under h g row.p seal.0 row.x (resp_derived row.p h row.x row.awaited) (resp_key d n row.p h row.b row.e row.x seal.0 row.awaited seal.1) installs)
row_ends d first n h octets r facts g p reads (By_ignored row) there = absurd (none_ended p g (ap are_kept row.says) there)
row_ends d first n h octets r facts g p reads (By_refusal row) there =
    absurd (none_ended p g (ap are_kept row.says ∙ kept_append (refused_look n (sender d n r) r facts.pulled row.why) (response d n (sender d n r) (kind_of r) row.why) (kept_look n (sender d n r) r facts.pulled row.why) (kept_response d n (sender d n r) (kind_of r) row.why)) there)

-- what has the form of a MIC's seal was noted of a MIC
mic_noted : (akm : Akm) (octets kck whole : List ℕ) → IsNoted akm octets (frame_seal kck whole) → IsVerified akm octets (frame_seal kck whole)
mic_noted akm octets kck whole (By_mic v) = v
mic_noted akm octets kck whole (By_fte u) = let e : 1 ∷ without_mic whole ≡ 2 ∷ u.input = ap (λ (s : Seal). s.octets) u.is in cc e
mic_noted akm octets kck whole (By_ccm u) = let e : 1 ∷ without_mic whole ≡ 3 ∷ sealed_octets u.header.octets (packet_number u.body) u.plain = ap (λ (s : Seal). s.octets) u.is in cc e
mic_noted akm octets kck whole (By_bip u) = let e : 1 ∷ without_mic whole ≡ 4 ∷ bip_input u.header.octets (before_mic u.body) = ap (λ (s : Seal). s.octets) u.is in cc e

kept_roam : (d : Domain) (first : ℕ) (n : Node) (h : List Act) (p : Node) (g : List Act) → RoamRow (here d first n) h p g → are_kept g ≡ true
kept_roam d first n h p g (NoSession none is) = ap are_kept is
kept_roam d first n h p g (SamePeer q some same is) = ap are_kept is
kept_roam d first n h p g (roam.Spent q some other many is) = ap are_kept is
kept_roam d first n h p g (roam.Asks suite q some other few is) = ap are_kept is ∙ kept_pending (pending h) _ refl

kept_renew : (d : Domain) (first : ℕ) (n : Node) (h : List Act) (p : Node) (g : List Act) → RenewRow (here d first n) h p g → are_kept g ≡ true
kept_renew d first n h p g (renew.NoSession none is) = ap are_kept is
kept_renew d first n h p g (renew.Nothing x some part going is) = ap are_kept is
kept_renew d first n h p g (renew.Spent x some free many is) = ap are_kept is
kept_renew d first n h p g (renew.Begins role on x some free few is) = ap are_kept is

-- ---- a changed key

kept_part : (p : Node) (o : Option (List Act)) → are_kept (close_attempt p o) ≡ true
kept_part p None = refl
kept_part p (Some part) = refl

kept_old_row : (akm : Akm) (d : Domain) (n : Node) (h : List Act) (p : Node) → are_kept (old_row_by akm d n h p) ≡ true
kept_old_row FtPsk d n h p = kept_revoke d.akm d n h p
kept_old_row Psk d n h p = refl
kept_old_row PskSha256 d n h p = refl

-- what ends a session stands behind acts that end none
past_kept : (p : Node) (f g : List Act) → are_kept f ≡ true → In (Closed p Session) (f ++ g) → In (Closed p Session) g
past_kept p [] g kept there = there
past_kept p (e ∷ f) g kept (inl here) = absurd (none_ended p (e ∷ f) kept (inl here))
past_kept p (e ∷ f) g kept (inr later) = past_kept p f g (and_parts (is_kept e) (are_kept f) kept).1 later

in_either : (x : Act) (f g : List Act) → In x (f ++ g) → In x f ⊎ In x g
in_either x [] g there = inr there
in_either x (e ∷ f) g (inl here) = inl (inl here)
in_either x (e ∷ f) g (inr later) = elim (in_either x f g later) [
  | inl one ↦ inl (inr one)
  | inr two ↦ inr two
]

closed_secret : (d : Domain) (n : Node) (h : List Act) (psk : List ℕ) (p q : Node) → In (Closed p Session) (secret_of d n h psk q) → p ≡ q
closed_secret d n h psk p q there =
    closed_of p q (session q h) (act.Secret q psk ∷ []) refl
    (past_kept p (close_attempt q (attempt q h)) _ (kept_part q (attempt q h)) (past_kept p (old_row_by d.akm d n h q) _ (kept_old_row d.akm d n h q) there))

closed_each : (d : Domain) (n : Node) (h : List Act) (psk : List ℕ) (k : ℕ) (p : Node) → In (Closed p Session) (secret_of_each d n h psk k) → (s : ℕ) × ((p ≡ Sta s) × (s < k))
closed_each d n h psk zero p there = absurd there
closed_each d n h psk (suc k) p there = elim (in_either (Closed p Session) (secret_of_each d n h psk k) _ there) [
  | inl one ↦ (let w = closed_each d n h psk k p one in let low : w.0 < suc k = omega (arith, w.1.1) in (w.0, (w.1.0, low)))
  | inr two ↦ (let low : k < suc k = omega arith in (k, (closed_secret d n (add (secret_of_each d n h psk k) h) psk p (Sta k) two, low)))
]

dropped : (d : Domain) (n : Node) (h : List Act) (named : Option ℕ) (psk : List ℕ) (p : Node) → In (Closed p Session) (secret_acts d n h named psk) → IsDropped d n named p
dropped d (Ap a) h (Some s) psk p there = subst (λ (q : Node). IsDropped d (Ap a) (Some s) q) (sym (closed_secret d (Ap a) h psk p (Sta s) there)) refl
dropped d (Ap a) h None psk p there = let w = closed_each d (Ap a) h psk (length d.stas) p there in subst (λ (q : Node). IsDropped d (Ap a) None q) (sym w.1.0) w.1.1
dropped d (Sta s) h named psk p there = tt

event_ends : (d : Domain) (first : ℕ) (n : Node) (h : List Act) (event : NodeEvent) (g all : List Act) (p : Node) → Adds (here d first n) h event all → RowOf (here d first n) h event g
    → ((x : Act) → In x g → In x all) → In (Closed p Session) g → EndsRightly d n h event all p
event_ends d first n h (Take octets) g all p adds row more there = by (row_ends d first n h octets row.r row.facts g p row.reads row.row there)
  where
    by : RowEnds h p octets g → EndsRightly d n h (Take octets) all p
    by (An_m4 kck whole m4 u) =
        let v = noted_verified d first n h (Take octets) all (Some p) octets (kind.Key M4) Accepted (frame_seal kck whole) adds (more _ m4) in
        By_an_m4 (record { octets = octets; is = refl; seal = frame_seal kck whole; accepted = more _ m4; verified = mic_noted d.akm octets kck whole v.1; under = under_more h g all p _ more u })
    by (An_m3 renewing kck whole m3 u) =
        let v = noted_verified d first n h (Take octets) all (Some p) octets (kind.Key M3) Accepted (frame_seal kck whole) adds (more _ m3) in
        By_an_m3 (record { renewing = renewing; octets = octets; is = refl; seal = frame_seal kck whole; accepted = more _ m3; verified = mic_noted d.akm octets kck whole v.1; under = under_more h g all p _ more u })
    by (A_request s at v u) = By_re_req (record { octets = octets; is = refl; seal = s; accepted = more _ at; verified = v; under = under_more h g all p s more u })
    by (A_response q s at v u) = By_re_resp q (record { octets = octets; is = refl; seal = s; accepted = more _ at; verified = v; under = under_more h g all q s more u })
event_ends d first n h (Begin a) g all p adds row more there = By_begin a refl
event_ends d first n h (Retry s) g all p adds is more there =
    let w = up_retry d n h p (Sta s) (attempt (Sta s) h) (subst (λ (x : List Act). In (Closed p Session) x) is there) in
    By_retry s refl w.0 (more (GaveUp p G1) (subst (λ (x : List Act). In (GaveUp p G1) x) (sym is) w.1))
event_ends d first n h Rekey g all p adds row more there = absurd (none_ended p g (kept_rekey d first n h g row) there)
event_ends d first n h (Send q tid octets) g all p adds is more there =
    absurd (none_ended p g (ap are_kept is ∙ sent_by (λ (l : List Act). are_kept l ≡ true) (here d first n) h q tid octets (kept_send d n q tid octets (send_key h q))
    (λ a s k at to of due. kept_append (send_acts_by d n q tid octets (send_key h q)) _ (kept_send d n q tid octets (send_key h q)) refl)) there)
event_ends d first n h (Expire s) g all p adds is more there =
    By_expire s refl (expired p (Sta s) (attempt (Sta s) h) (session (Sta s) h) (subst (λ (x : List Act). In (Closed p Session) x) is there))
event_ends d first n h Leave g all p adds is more there = By_leave refl
event_ends d first n h (RoamEvent a) g all p adds row more there = absurd (none_ended p g (kept_roam d first n h (Ap a) g row) there)
event_ends d first n h (Revoke s) g all p adds is more there = absurd (none_ended p g (ap are_kept is ∙ kept_revoke d.akm d n h (Sta s)) there)
event_ends d first n h (RenewEvent s) g all p adds row more there = absurd (none_ended p g (kept_renew d first n h (Sta s) g row) there)
event_ends d first n h (AnnounceEvent octets) g all p adds is more there =
    absurd (none_ended p g (ap are_kept is ∙ kept_announce d n (announced octets) (group_send_key groups.Igtk h (current groups.Igtk h))) there)
event_ends d first n h (Secret named psk) g all p adds is more there =
    By_secret named psk refl (dropped d n h named psk p (subst (λ (x : List Act). In (Closed p Session) x) is there))

pub ends_rightly : (d : Domain) (first : ℕ) (n : Node) (h : List Act) (event : NodeEvent) (g : List Act) (p : Node) → Adds (here d first n) h event g → In (Closed p Session) g → EndsRightly d n h event g p
ends_rightly d first n h event g p adds there =
    event_ends d first n h event adds.acts g p adds adds.row
    (λ x in_acts. subst (λ (y : List Act). In x y) (sym adds.is) (among_all d n h adds.acts x in_acts))
    (in_switched d n h adds.acts (Closed p Session) (λ a after in_it. none_ended p (switch_acts d a after) (kept_switch d a after) in_it)
    (subst (λ (x : List Act). In (Closed p Session) x) adds.is there))
