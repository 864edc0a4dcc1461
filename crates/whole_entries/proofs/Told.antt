-- What is told of the acts that an event adds, beside their lines.
use Rattle.std.proofs.Common.{◌≡◌, ℕ, zero, suc, ◌+◌, Bool, true, false, List, [], ◌∷◌, ◌++◌, length, Option, Some, None, refl, sym, ap, subst, ◌∙◌}
use Rattle.std.specs.Prelude.{if◌then◌else◌, nat_lt, unwrap_or}
use Rattle.std.specs.List.{AllByRecursion}
use Rattle.domain_base.specs.Places.{part}
use Rattle.domain_base.specs.declared.names.Akm.{Akm}
use Rattle.domain_base.specs.declared.names.Akm.TheVariants.{Psk, PskSha256, FtPsk}
use Rattle.domain_base.specs.declared.names.Mac.{Mac}
use Rattle.domain_base.specs.declared.names.Node.{Node}
use Rattle.domain_base.specs.declared.names.Node.TheVariants.{Ap, Sta}
use Rattle.domain_base.specs.declared.names.Peer.{Peer}
use Rattle.domain_base.specs.declared.names.Peer.TheVariants.{All}
use Rattle.air_frame.specs.Fields.{AirFields, HeaderFields, assoc_req, assoc_resp, ft_req, ft_resp, re_req, re_resp, action, eapol, protected, ignored as passed}
use Rattle.air_frame.specs.Spelled.{SpellsAir}
use Rattle.air_frame.specs.declared.frame.Direction.{Direction}
use Rattle.replay_window.specs.Numbers.{last_number}
use Rattle.rsn_elements.specs.Elements.{ElementFields}
use Rattle.eapol_key.specs.declared.messages.Message.{Message}
use Rattle.eapol_key.specs.declared.messages.Message.TheVariants.{M1, M2, M3, M4, G1, G2}
use Rattle.key_hierarchy.specs.declared.answers.PutAnswer.TheVariants.{Held, Full}
use Rattle.key_hierarchy.specs.declared.answers.PullAnswer.{PullAnswer}
use Rattle.key_hierarchy.specs.declared.fast_transition.PmkR1.{PmkR1}
use Rattle.run_journal.specs.declared.domain.Domain.{Domain}
use Rattle.run_journal.specs.declared.acts.Kind.{Kind}
use Rattle.run_journal.specs.declared.acts.Kind.TheVariants as kind
use Rattle.run_journal.specs.declared.acts.Part.TheVariants.{Attempt, Session}
use Rattle.run_journal.specs.declared.acts.Reason.{Reason}
use Rattle.run_journal.specs.declared.acts.Why.TheVariants as why
use Rattle.run_journal.specs.declared.acts.Act.{Act}
use Rattle.run_journal.specs.declared.acts.Act.TheVariants.{Closed, Derived, GaveUp, Idle, Link, Put, Revoked, Took, Used}
use Rattle.run_journal.specs.Acts.{Derivation, GroupKey}
use Rattle.run_journal.specs.declared.acts.GroupKind.{GroupKind}
use Rattle.run_journal.specs.declared.acts.GroupKind.TheVariants as groups
use Rattle.run_journal.specs.Holders.{Stored, first_stored, since_finished, last_r0kh_id, row, rows}
use Rattle.run_journal.specs.Questions.{pending, associated, attempt, derivation, before_sent, session, handshake, draws, add}
use Rattle.domain_rules.specs.Network.{mac, peer_of, r0kh_id, inputs_at}
use Rattle.domain_rules.specs.Counters.{sent_count, next_counter}
use Rattle.domain_rules.specs.GroupKeys.{give_by, GivenKeys, give_all}
use Rattle.domain_rules.specs.PacketNumbers.{SendKey, send_key, current, group_send_key}
use Rattle.domain_rules.specs.DataFrames.{sent_data}
use Rattle.domain_rules.specs.DataRows.{used_acts, send_acts_by, send_acts}
use Rattle.domain_rules.specs.ManagementFrames.{announced, announce_acts_by, sent_action}
use Rattle.domain_rules.specs.Owing.{owing, switch_acts, and_switch}
use Rattle.domain_rules.specs.Frames.{sent_m1}
use Rattle.domain_rules.specs.FastTransition.{r0_name, single}
use Rattle.domain_rules.specs.Reading.{Management, Reading, NoFrame, PassedOver, NoElements, Managed, NoKeyFrame, NoMessage, Keyed, Sealed, Acting, Reads, passes_over, ReadsBy, ReadsAt, kind_of, management_of, IsEapol}
use Rattle.domain_rules.specs.Facts.{Facts}
use Rattle.domain_rules.specs.Asking.{is_four_way, in_renewal, has_heard, own}
use Rattle.domain_rules.specs.Closing.{close_attempt, close_session, close_associated, close_pending, or_nothing, next_nonce, sender}
use Rattle.domain_rules.specs.StationRows.{carried_keys, replaced, ConnectRow, Spent, Asks}
use Rattle.domain_rules.specs.AccessPointRows.{m4_acts, newer_acts, carried_older, g1_to, most_sends, again_or_give_up, m3_again, retry_attempt, retry_session, retry_acts, to_session, to_sessions, next_keys, RekeyRow, Pending, Renews}
use Rattle.domain_rules.specs.AccessPointRows as renew
use Rattle.domain_rules.specs.PairwiseRenewal.{renew_acts, RenewRow}
use Rattle.domain_rules.specs.PairwiseRenewal as renewal
use Rattle.domain_rules.specs.TransitionKeyData.{responded_r0kh_id}
use Rattle.domain_rules.specs.TransitionKeys.{Asked, asked}
use Rattle.domain_rules.specs.TransitionRows.{sent_again, keys_by, look_answer, looked_by, looked_for, look_of_kind, refused_look, RoamRow, NoSession, SamePeer}
use Rattle.domain_rules.specs.TransitionRows as roam
use Rattle.domain_rules.specs.KeyHolders.{most_rows, put_answer, put_acts_by, put_acts, revoke_acts_by}
use Rattle.domain_rules.specs.ChangedKeys.{old_row_by, secret_of, secret_of_each, secret_acts}
use Rattle.domain_rules.specs.Rows.{NodeEvent, Take, Begin, Retry, Rekey, Send, Expire, Leave, Roam as RoamEvent, Revoke, Secret, Renew, Announce, refused_status, response_by, response, TakeRows, By_assoc_req, By_assoc_resp, By_m1, By_opening_m1, By_m2, By_m3, By_repeated_m3, By_m4, By_g1, By_g2, By_data, By_action, By_ft_req, By_repeated_ft_req, By_ft_resp, By_re_req, By_repeated_re_req, By_re_resp, By_ignored, By_refusal, RowOf, Adds}
use Rattle.domain_rules.specs.Here.{here}
use Rattle.domain_rules.proofs.GroupActs.{all_drawn, all_given, all_switched}
use Rattle.domain_rules.proofs.Peers.{peer_is}
use Rattle.domain_rules.proofs.Sending.{sent_by}
use Rattle.entry_lines.specs.Entries.{HasAnswerLine, HasOutcomeLine}
use Rattle.whole_entries.specs.Whole.{transmitter, other_end}
use Rattle.whole_entries.proofs.Lined.{lined}

-- of an act whose line leaves something out, or that might have no line, what the network tells of it. No node of a network does a step
-- of a link
abbrev pub IsTold : Domain → Node → Act → Type 0
IsTold d n (Derived p i k) = other_end d n i ≡ p
IsTold d n (Took from octets k o s) = (transmitter d n k octets ≡ from) × HasOutcomeLine o
IsTold d n (Put x m p answer) = HasAnswerLine answer
IsTold d n (Revoked x m p answer) = x ≡ r0kh_id d n
IsTold d n (Link sta s) = ⊥
IsTold d n _ = Unit {0}

abbrev pub AreTold : Domain → Node → List Act → Type 0
AreTold d n g = AllByRecursion (IsTold d n) g

-- ---- acts put together

told_both : (d : Domain) (n : Node) (f g : List Act) → AreTold d n f → AreTold d n g → AreTold d n (f ++ g)
told_both d n [] g x y = y
told_both d n (e ∷ f) g x y = (x.0, told_both d n f g x.1 y)

told_if : (d : Domain) (n : Node) (b : Bool) (f g : List Act) → AreTold d n f → AreTold d n g → AreTold d n (if b then f else g)
told_if d n true f g x y = x
told_if d n false f g x y = y

told_attempt : (d : Domain) (n p : Node) (o : Option (List Act)) (g : List Act) → AreTold d n g → AreTold d n (close_attempt p o ++ g)
told_attempt d n p None g x = x
told_attempt d n p (Some part) g x = (tt, x)

told_session : (d : Domain) (n p : Node) (o : Option Derivation) (g : List Act) → AreTold d n g → AreTold d n (close_session p o ++ g)
told_session d n p None g x = x
told_session d n p (Some k) g x = (tt, x)

told_pending : (d : Domain) (n : Node) (o : Option Node) (g : List Act) → AreTold d n g → AreTold d n (close_pending o ++ g)
told_pending d n None g x = x
told_pending d n (Some p) g x = (tt, x)

told_dropped : (d : Domain) (n : Node) (o x : Option Node) → AreTold d n (close_pending o ++ close_associated x)
told_dropped d n None None = tt
told_dropped d n (Some p) None = (tt, tt)
told_dropped d n None (Some q) = (tt, tt)
told_dropped d n (Some p) (Some q) = (tt, (tt, tt))

told_associated : (d : Domain) (n : Node) (o : Option Node) (g : List Act) → AreTold d n g → AreTold d n (close_associated o ++ g)
told_associated d n None g x = x
told_associated d n (Some p) g x = (tt, x)

told_replaced : (d : Domain) (n p : Node) (b : Bool) (g : List Act) → AreTold d n g → AreTold d n (replaced p b ++ g)
told_replaced d n p true g x = (tt, x)
told_replaced d n p false g x = x

told_give : (d : Domain) (n : Node) (which : GroupKind) (p : Node) (b : Mac) (x : GroupKey) (o : Option GroupKey) → IsTold d n (give_by which p b x o)
told_give d n which p b x None = tt
told_give d n which p b x (Some k) = tt

told_keys : (d : Domain) (n p : Node) (b : Mac) (keys : GivenKeys) (h : List Act) → AreTold d n (give_all d p b keys h)
told_keys d n p b keys h = all_given (IsTold d n) (told_give d n) d p b keys h

-- ---- what is sent, asked, put and revoked

told_response_by : (d : Domain) (n q : Node) (k : Kind) (o : Option ℕ) → AreTold d n (response_by d n q k o)
told_response_by d n q kind.AssocReq (Some code) = (tt, tt)
told_response_by d n q kind.FtReq (Some code) = (tt, tt)
told_response_by d n q kind.ReReq (Some code) = (tt, tt)
told_response_by d n q k _ = tt

told_response : (d : Domain) (n : Node) (from : Option Node) (k : Kind) (w : Reason) → AreTold d n (response d n from k w)
told_response d (Ap a) (Some p) k w = told_response_by d (Ap a) p k (refused_status w)
told_response d (Ap a) None k w = tt
told_response d (Sta s) from k w = tt

told_asked : (d : Domain) (n p : Node) (o : Option Asked) (x : Option PullAnswer) → AreTold d n (looked_for p o x)
told_asked d n p None x = tt
told_asked d n p (Some a) x = by (single a.names) x
  where
    by : (m : Option (List ℕ)) (y : Option PullAnswer) → AreTold d n (looked_by p a m y)
    by (Some name) (Some answer) = (tt, tt)
    by (Some name) None = tt
    by None y = tt

told_kind : (d : Domain) (n : Node) (k : Kind) (p : Node) (e : ElementFields) (x : Option PullAnswer) → AreTold d n (look_of_kind k p e x)
told_kind d n kind.FtReq p e x = told_asked d n p (asked e) x
told_kind d n _ p e x = tt

told_look : (d : Domain) (n : Node) (from : Option Node) (r : Reading) (x : Option PmkR1) (w : Reason) → AreTold d n (refused_look n from r x w)
told_look d (Ap a) (Some p) (Managed b e) x w = told_kind d (Ap a) b.kind p e (look_answer w x)
told_look d (Ap a) (Some p) (NoFrame fault) x w = tt
told_look d (Ap a) (Some p) PassedOver x w = tt
told_look d (Ap a) (Some p) (NoElements b fault) x w = tt
told_look d (Ap a) (Some p) (NoKeyFrame header fault) x w = tt
told_look d (Ap a) (Some p) (NoMessage header) x w = tt
told_look d (Ap a) (Some p) (Keyed k) x w = tt
told_look d (Ap a) (Some p) (Sealed header way tid body) x w = tt
told_look d (Ap a) (Some p) (Acting header body) x w = tt
told_look d (Ap a) None r x w = tt
told_look d (Sta s) from r x w = tt

told_stored : (d : Domain) (n p : Node) (k : Kind) (o : Option Stored) → AreTold d n (sent_again p k o)
told_stored d n p k None = tt
told_stored d n p k (Some s) = (tt, tt)

put_room : (b : Bool) → HasAnswerLine (if b then Held else Full)
put_room true = tt
put_room false = tt

put_has : (o : Option Node) (count : ℕ) → HasAnswerLine (put_answer o count)
put_has (Some p) count = tt
put_has None count = put_room (nat_lt count most_rows)

told_put : (akm : Akm) (d : Domain) (n : Node) (h : List Act) (p : Node) (x : Derivation) → AreTold d n (put_acts_by akm d n h p x)
told_put FtPsk d n h p x = (put_has (row (r0_name x.inputs) h) (rows h), tt)
told_put Psk d n h p x = tt
told_put PskSha256 d n h p x = tt

told_revoke : (akm : Akm) (d : Domain) (n : Node) (h : List Act) (p : Node) → AreTold d n (revoke_acts_by akm d n h p)
told_revoke FtPsk d n h p = (refl, tt)
told_revoke Psk d n h p = (refl, tt)
told_revoke PskSha256 d n h p = (refl, tt)

-- ---- events

told_m3 : (c d : Domain) (n m : Node) (h : List Act) (p : Node) (part : List Act) (x : Option Derivation) (past : Option (List Act)) → IsTold c m (m3_again d n h p part x past)
told_m3 c d n m h p part (Some x) (Some past) = tt
told_m3 c d n m h p part x past = tt

told_again : (d : Domain) (n p : Node) (m : Message) (sends : ℕ) (e : Act) → IsTold d n e → AreTold d n (again_or_give_up p m sends e)
told_again d n p m sends e x = told_if d n (nat_lt sends most_sends) (e ∷ []) (GaveUp p m ∷ Closed p Attempt ∷ []) (x, tt) (tt, (tt, tt))

told_retry_attempt : (d : Domain) (n : Node) (h : List Act) (p : Node) (part : List Act) → AreTold d n (retry_attempt d n h p part)
told_retry_attempt d n h p part =
    told_if d n (has_heard p (kind.Key M2) part)
    (again_or_give_up p M3 (sent_count p M3 part) (m3_again d n h p part (derivation p part) (before_sent p (kind.Key M3) h)))
    (again_or_give_up p M1 (sent_count p M1 part) (sent_m1 d n p (next_counter p h part) (own part)))
    (told_again d n p M3 (sent_count p M3 part) (m3_again d n h p part (derivation p part) (before_sent p (kind.Key M3) h)) (told_m3 d d n n h p part (derivation p part) (before_sent p (kind.Key M3) h)))
    (told_again d n p M1 (sent_count p M1 part) (sent_m1 d n p (next_counter p h part) (own part)) tt)

told_retry_session : (d : Domain) (n : Node) (h : List Act) (p : Node) (o : Option Derivation) → AreTold d n (retry_session d n h p o)
told_retry_session d n h p None = (tt, tt)
told_retry_session d n h p (Some x) =
    told_if d n (nat_lt (sent_count p G1 (handshake groups.Gtk p h)) most_sends) (g1_to d n p h x ∷ []) (GaveUp p G1 ∷ Closed p Session ∷ []) (tt, tt) (tt, (tt, tt))

told_retry : (d : Domain) (n : Node) (h : List Act) (p : Node) (o : Option (List Act)) → AreTold d n (retry_acts d n h p o)
told_retry d n h p None = told_retry_session d n h p (owing groups.Gtk p h)
told_retry d n h p (Some part) =
    told_if d n (is_four_way part) (retry_attempt d n h p part) (retry_session d n h p (owing groups.Gtk p h)) (told_retry_attempt d n h p part) (told_retry_session d n h p (owing groups.Gtk p h))

told_newer : (c d : Domain) (n p : Node) (h : List Act) (x : Derivation) (b : Bool) → AreTold c n (newer_acts d n p h x b)
told_newer c d n p h x false = tt
told_newer c d n p h x true = (tt, tt)

told_to : (d : Domain) (n p : Node) (h : List Act) (o : Option Derivation) → AreTold d n (to_session d n p h o)
told_to d n p h None = tt
told_to d n p h (Some x) = (tt, tt)

told_all : (d : Domain) (n : Node) (k : ℕ) (h : List Act) → AreTold d n (to_sessions d n k h)
told_all d n zero h = tt
told_all d n (suc k) h =
    told_both d n (to_sessions d n k h) (to_session d n (Sta k) (add (to_sessions d n k h) h) (session (Sta k) (add (to_sessions d n k h) h)))
    (told_all d n k h) (told_to d n (Sta k) (add (to_sessions d n k h) h) (session (Sta k) (add (to_sessions d n k h) h)))

told_rekey : (d : Domain) (first : ℕ) (n : Node) (h g : List Act) → RekeyRow (here d first n) h g → AreTold d n g
told_rekey d first n h g (Pending late is) = subst (AllByRecursion (IsTold d n)) (sym is) (tt, tt)
told_rekey d first n h g (renew.Spent all many is) = subst (AllByRecursion (IsTold d n)) (sym is) (tt, tt)
told_rekey d first n h g (Renews role all few is) =
    let keys = next_keys (here d first n) h in
    subst (AllByRecursion (IsTold d n)) (sym is) (told_both d n keys _ (all_drawn (IsTold d n) (λ which key. tt) d n (first + draws h)) (told_all d n (length d.stas) (add keys h)))

told_connect : (d : Domain) (first : ℕ) (n : Node) (h : List Act) (p : Node) (g : List Act) → ConnectRow (here d first n) h p g → AreTold d n g
told_connect d first n h p g (Spent many is) = subst (AllByRecursion (IsTold d n)) (sym is) (tt, tt)
told_connect d first n h p g (Asks few is) = subst (AllByRecursion (IsTold d n)) (sym is) (told_both d n (close_pending (pending h) ++ close_associated (associated h)) _ (told_dropped d n (pending h) (associated h)) (tt, (tt, (tt, tt))))

told_roam : (d : Domain) (first : ℕ) (n : Node) (h : List Act) (p : Node) (g : List Act) → RoamRow (here d first n) h p g → AreTold d n g
told_roam d first n h p g (NoSession none is) = subst (AllByRecursion (IsTold d n)) (sym is) (tt, tt)
told_roam d first n h p g (SamePeer q some same is) = subst (AllByRecursion (IsTold d n)) (sym is) (tt, tt)
told_roam d first n h p g (roam.Spent q some other many is) = subst (AllByRecursion (IsTold d n)) (sym is) (tt, tt)
told_roam d first n h p g (roam.Asks suite q some other few is) = subst (AllByRecursion (IsTold d n)) (sym is) (told_pending d n (pending h) _ (tt, (tt, (tt, tt))))

told_used : (d : Domain) (n : Node) (q : Peer) (tid : Option ℕ) (plain : List ℕ) (k : SendKey) → AreTold d n (used_acts d n q tid plain k)
told_used d n q tid plain k =
    told_if d n (nat_lt k.used last_number) (Used q k.key k.id (suc k.used) plain ∷ sent_data d n q tid k.key k.id (suc k.used) plain ∷ []) (Idle why.Spent ∷ []) (tt, (tt, tt)) (tt, tt)

told_send : (d : Domain) (n : Node) (q : Peer) (tid : Option ℕ) (plain : List ℕ) (o : Option SendKey) → AreTold d n (send_acts_by d n q tid plain o)
told_send d n q tid plain None = (tt, tt)
told_send d n q tid plain (Some k) = told_used d n q tid plain k

told_sent : (d : Domain) (first : ℕ) (n : Node) (h : List Act) (q : Peer) (tid : Option ℕ) (plain : List ℕ) → AreTold d n (send_acts (here d first n) h q tid plain)
told_sent d first n h q tid plain =
    let sent = told_send d n q tid plain (send_key h q) in
    sent_by (AllByRecursion (IsTold d n)) (here d first n) h q tid plain sent
    (λ a p k node to key due. told_both d n (send_acts_by d n q tid plain (send_key h q)) (renew_acts d first n h p) sent (tt, (tt, (tt, tt))))

told_announce : (d : Domain) (n : Node) (content : List ℕ) (o : Option SendKey) → AreTold d n (announce_acts_by d n content o)
told_announce d n content None = (tt, tt)
told_announce d n content (Some k) =
    told_if d n (nat_lt k.used last_number) (Used All k.key k.id (suc k.used) content ∷ sent_action d n k.key k.id (suc k.used) content ∷ []) (Idle why.Spent ∷ []) (tt, (tt, tt)) (tt, tt)

told_renew : (d : Domain) (first : ℕ) (n : Node) (h : List Act) (p : Node) (g : List Act) → RenewRow (here d first n) h p g → AreTold d n g
told_renew d first n h p g (renewal.NoSession none is) = subst (AllByRecursion (IsTold d n)) (sym is) (tt, tt)
told_renew d first n h p g (renewal.Nothing x some part going is) = subst (AllByRecursion (IsTold d n)) (sym is) (tt, tt)
told_renew d first n h p g (renewal.Spent x some free many is) = subst (AllByRecursion (IsTold d n)) (sym is) (tt, tt)
told_renew d first n h p g (renewal.Begins role on x some free few is) = subst (AllByRecursion (IsTold d n)) (sym is) (tt, (tt, (tt, tt)))

told_expire : (d : Domain) (n p : Node) (o : Option (List Act)) (x : Option Derivation) → AreTold d n (or_nothing (close_attempt p o ++ close_session p x))
told_expire d n p None None = (tt, tt)
told_expire d n p (Some part) None = (tt, tt)
told_expire d n p None (Some x) = (tt, tt)
told_expire d n p (Some part) (Some x) = (tt, (tt, tt))

told_leave : (d : Domain) (n : Node) (o x : Option Node) → AreTold d n (or_nothing (close_pending o ++ close_associated x))
told_leave d n None None = (tt, tt)
told_leave d n (Some p) None = (tt, tt)
told_leave d n None (Some q) = (tt, tt)
told_leave d n (Some p) (Some q) = (tt, (tt, tt))

told_old : (akm : Akm) (d : Domain) (n : Node) (h : List Act) (p : Node) → AreTold d n (old_row_by akm d n h p)
told_old FtPsk d n h p = told_revoke d.akm d n h p
told_old Psk d n h p = tt
told_old PskSha256 d n h p = tt

told_secret_of : (d : Domain) (n : Node) (h : List Act) (psk : List ℕ) (p : Node) → AreTold d n (secret_of d n h psk p)
told_secret_of d n h psk p =
    told_both d n (old_row_by d.akm d n h p) _ (told_old d.akm d n h p) (told_attempt d n p (attempt p h) _ (told_session d n p (session p h) _ (tt, tt)))

told_each : (d : Domain) (n : Node) (h : List Act) (psk : List ℕ) (k : ℕ) → AreTold d n (secret_of_each d n h psk k)
told_each d n h psk zero = tt
told_each d n h psk (suc k) =
    told_both d n (secret_of_each d n h psk k) (secret_of d n (add (secret_of_each d n h psk k) h) psk (Sta k)) (told_each d n h psk k) (told_secret_of d n (add (secret_of_each d n h psk k) h) psk (Sta k))

told_secret : (d : Domain) (n : Node) (h : List Act) (named : Option ℕ) (psk : List ℕ) → AreTold d n (secret_acts d n h named psk)
told_secret d (Ap a) h (Some s) psk = told_secret_of d (Ap a) h psk (Sta s)
told_secret d (Ap a) h None psk = told_each d (Ap a) h psk (length d.stas)
told_secret d (Sta s) h named psk = told_pending d (Sta s) (pending h) _ (told_associated d (Sta s) (associated h) _ (tt, tt))

-- ---- whom a frame is from

-- the transmitter address, and none where there is no header
abbrev a2_in : AirFields → List ℕ
a2_in (assoc_req h capability interval elements) = h.a2
a2_in (assoc_resp h capability status aid elements) = h.a2
a2_in (ft_req h status elements) = h.a2
a2_in (ft_resp h status elements) = h.a2
a2_in (re_req h capability interval current elements) = h.a2
a2_in (re_resp h capability status aid elements) = h.a2
a2_in (action h body) = h.a2
a2_in (eapol h way tid octets) = h.a2
a2_in (protected h way tid body) = h.a2
a2_in passed = []

abbrev IsFrom : Domain → Node → List ℕ → Management → Type 0
IsFrom d n octets b = transmitter d n b.kind octets ≡ peer_of d n b.header.a2

abbrev managed : Kind → HeaderFields → ℕ → List ℕ → Management
managed k h status elements = record { kind = k; header = h; status = status; elements = elements }

managed_from : (d : Domain) (n : Node) (octets : List ℕ) (b : Management) (f : AirFields) → SpellsAir octets f → management_of f ≡ Some b → IsFrom d n octets b
managed_from d n octets b (assoc_req h capability interval elements) s is =
    let same : managed kind.AssocReq h 0 elements ≡ b = cc is in
    subst (IsFrom d n octets) same (ap (peer_of d n) (sym (ap a2_in s.0)))
managed_from d n octets b (assoc_resp h capability status aid elements) s is =
    let same : managed kind.AssocResp h status elements ≡ b = cc is in
    subst (IsFrom d n octets) same (ap (peer_of d n) (sym (ap a2_in s.0)))
managed_from d n octets b (ft_req h status elements) s is =
    let same : managed kind.FtReq h 0 elements ≡ b = cc is in
    subst (IsFrom d n octets) same (ap (peer_of d n) (sym (ap a2_in s.0)))
managed_from d n octets b (ft_resp h status elements) s is =
    let same : managed kind.FtResp h status elements ≡ b = cc is in
    subst (IsFrom d n octets) same (ap (peer_of d n) (sym (ap a2_in s.0)))
managed_from d n octets b (re_req h capability interval current elements) s is =
    let same : managed kind.ReReq h 0 elements ≡ b = cc is in
    subst (IsFrom d n octets) same (ap (peer_of d n) (sym (ap a2_in s.0)))
managed_from d n octets b (re_resp h capability status aid elements) s is =
    let same : managed kind.ReResp h status elements ≡ b = cc is in
    subst (IsFrom d n octets) same (ap (peer_of d n) (sym (ap a2_in s.0)))
managed_from d n octets b (action h body) s is = absurd (cc is)
managed_from d n octets b (eapol h way tid body) s is = absurd (cc is)
managed_from d n octets b (protected h way tid body) s is = absurd (cc is)
managed_from d n octets b passed s is = absurd (cc is)

eapol_from : (d : Domain) (n : Node) (octets : List ℕ) (h : HeaderFields) (way : Direction) (body : List ℕ) → IsEapol octets h way body → peer_of d n (part 10 6 octets) ≡ peer_of d n h.a2
eapol_from d n octets h way body frame = ap (peer_of d n) (sym (ap a2_in frame.spelled.0))

transmitter_is : (d : Domain) (n : Node) (octets : List ℕ) (r : Reading) → Reads d.akm octets r → transmitter d n (kind_of r) octets ≡ sender d n r
transmitter_is d n octets (NoFrame fault) reads = refl
transmitter_is d n octets PassedOver reads = refl
transmitter_is d n octets (NoElements b fault) reads = managed_from d n octets b reads.0.frame reads.0.spelled reads.0.is
transmitter_is d n octets (Managed b e) reads = managed_from d n octets b reads.0.frame reads.0.spelled reads.0.is
transmitter_is d n octets (NoKeyFrame h fault) reads = eapol_from d n octets h reads.way reads.body reads.frame
transmitter_is d n octets (NoMessage h) reads = eapol_from d n octets h reads.way reads.body reads.frame
transmitter_is d n octets (Keyed k) reads = eapol_from d n octets k.header k.direction reads.body reads.frame
transmitter_is d n octets (Sealed h way tid body) reads = ap (peer_of d n) (sym (ap a2_in reads.0))
transmitter_is d n octets (Acting h body) reads = ap (peer_of d n) (sym (ap a2_in reads.0))

transmitter_by : (d : Domain) (n : Node) (octets : List ℕ) (r : Reading) (passed : Bool) → ReadsBy passed d.akm octets r → transmitter d n (kind_of r) octets ≡ sender d n r
transmitter_by d n octets r true is = subst (λ (x : Reading). transmitter d n (kind_of x) octets ≡ sender d n x) (sym is) refl
transmitter_by d n octets r false reads = transmitter_is d n octets r reads

transmitter_at : (d : Domain) (n : Node) (octets : List ℕ) (r : Reading) → ReadsAt d octets r → transmitter d n (kind_of r) octets ≡ sender d n r
transmitter_at d n octets r reads = transmitter_by d n octets r (passes_over d octets) reads

took : (d : Domain) (n : Node) (octets : List ℕ) (r : Reading) (p : Node) (k : Kind) → ReadsAt d octets r → sender d n r ≡ Some p → kind_of r ≡ k → transmitter d n k octets ≡ Some p
took d n octets r p k reads from is = subst (λ (x : Kind). transmitter d n x octets ≡ Some p) is (transmitter_at d n octets r reads ∙ from)

-- ---- the other end of a key

other : (d : Domain) (n p : Node) (id own_ theirs a2 : List ℕ) → peer_of d n a2 ≡ Some p → other_end d n (inputs_at d n p id own_ theirs) ≡ p
other d (Ap a) p id own_ theirs a2 from =
    ap (λ (x : List ℕ). unwrap_or (peer_of d (Ap a) x) (Ap a)) (peer_is d (Ap a) p a2 from).has ∙ ap (λ (o : Option Node). unwrap_or o (Ap a)) from
other d (Sta s) p id own_ theirs a2 from =
    ap (λ (x : List ℕ). unwrap_or (peer_of d (Sta s) x) (Sta s)) (peer_is d (Sta s) p a2 from).has ∙ ap (λ (o : Option Node). unwrap_or o (Sta s)) from

-- ---- octets that came

told_rows : (d : Domain) (first : ℕ) (n : Node) (h : List Act) (octets : List ℕ) (r : Reading) (facts : Facts) (g : List Act) → ReadsAt d octets r → TakeRows (here d first n) h octets r facts g → AreTold d n g
told_rows d first n h octets r facts g reads (By_assoc_req w) = subst (AllByRecursion (IsTold d n)) (sym w.says)
    ((took d n octets r w.p kind.AssocReq reads w.from (ap kind_of w.is ∙ w.kind_is), tt), told_attempt d n w.p (attempt w.p h) _ (tt, (tt, (tt, (tt, tt)))))
told_rows d first n h octets r facts g reads (By_assoc_resp w) = subst (AllByRecursion (IsTold d n)) (sym w.says)
    ((took d n octets r w.p kind.AssocResp reads w.from (ap kind_of w.is ∙ w.kind_is), tt), tt)
told_rows d first n h octets r facts g reads (By_m1 w) =
    let from : peer_of d n w.k.header.a2 ≡ Some w.p = subst (λ (x : Reading). sender d n x ≡ Some w.p) w.is w.from in
    let end_ : other_end d n w.i ≡ w.p = ap (other_end d n) w.inputs_are ∙ other d n w.p (responded_r0kh_id facts.responded) (own w.part) w.k.fields.nonce w.k.header.a2 from in
    subst (AllByRecursion (IsTold d n)) (sym w.says)
    ((took d n octets r w.p (kind.Key M1) reads w.from (ap kind_of w.is ∙ ap kind.Key w.message_is), tt), (end_, (tt, tt)))
told_rows d first n h octets r facts g reads (By_opening_m1 w) =
    let from : peer_of d n w.k.header.a2 ≡ Some w.p = subst (λ (x : Reading). sender d n x ≡ Some w.p) w.is w.from in
    let end_ : other_end d n w.i ≡ w.p = ap (other_end d n) w.inputs_are ∙ other d n w.p [] (next_nonce d first n h) w.k.fields.nonce w.k.header.a2 from in
    subst (AllByRecursion (IsTold d n)) (sym w.says)
    ((took d n octets r w.p (kind.Key M1) reads w.from (ap kind_of w.is ∙ ap kind.Key w.message_is), tt), (tt, (tt, (end_, (tt, tt)))))
told_rows d first n h octets r facts g reads (By_m2 w) =
    let from : peer_of d n w.k.header.a2 ≡ Some w.p = subst (λ (x : Reading). sender d n x ≡ Some w.p) w.is w.from in
    let end_ : other_end d n w.i ≡ w.p = ap (other_end d n) w.inputs_are ∙ other d n w.p (r0kh_id d n) (own w.part) w.k.fields.nonce w.k.header.a2 from in
    subst (AllByRecursion (IsTold d n)) (sym w.says)
    ((took d n octets r w.p (kind.Key M2) reads w.from (ap kind_of w.is ∙ ap kind.Key w.message_is), tt), (end_, (tt, tt)))
told_rows d first n h octets r facts g reads (By_m3 w) = subst (AllByRecursion (IsTold d n)) (sym w.says) (
  (took d n octets r w.p (kind.Key M3) reads w.from (ap kind_of w.is ∙ ap kind.Key w.message_is), tt),
  told_replaced d n w.p (in_renewal (attempt w.p h)) _
      (tt, told_both d n (give_all d w.p (mac d w.p) (carried_keys facts.data_) h) _ (told_keys d n w.p (mac d w.p) (carried_keys facts.data_) h) (tt, (tt, tt))),
)
told_rows d first n h octets r facts g reads (By_repeated_m3 w) = subst (AllByRecursion (IsTold d n)) (sym w.says)
    ((took d n octets r w.p (kind.Key M3) reads w.from (ap kind_of w.is ∙ ap kind.Key w.message_is), tt), (tt, tt))
told_rows d first n h octets r facts g reads (By_m4 w) =
    let put : List Act = put_acts d n h w.p w.x in
    let acts : List Act = m4_acts octets w.k w.p w.x (session w.p h) put in
    let before : Option (List Act) = before_sent w.p (kind.Key M3) h in
    subst (AllByRecursion (IsTold d n)) (sym w.says)
    (told_both d n acts (newer_acts d n w.p (add acts h) w.x (carried_older w.p h before))
    ((took d n octets r w.p (kind.Key M4) reads w.from (ap kind_of w.is ∙ ap kind.Key w.message_is), tt), told_session d n w.p (session w.p h) _ (tt, (tt, told_put d.akm d n h w.p w.x)))
    (told_newer d d n w.p (add acts h) w.x (carried_older w.p h before)))
told_rows d first n h octets r facts g reads (By_g1 w) = subst (AllByRecursion (IsTold d n)) (sym w.says) (
  (took d n octets r w.p (kind.Key G1) reads w.from (ap kind_of w.is ∙ ap kind.Key w.message_is), tt),
  told_both d n (give_all d w.p (mac d w.p) (carried_keys facts.data_) h) _ (told_keys d n w.p (mac d w.p) (carried_keys facts.data_) h) (tt, tt),
)
told_rows d first n h octets r facts g reads (By_g2 w) = subst (AllByRecursion (IsTold d n)) (sym w.says)
    ((took d n octets r w.p (kind.Key G2) reads w.from (ap kind_of w.is ∙ ap kind.Key w.message_is), tt), tt)
told_rows d first n h octets r facts g reads (By_data w) = subst (AllByRecursion (IsTold d n)) (sym w.says)
    ((took d n octets r w.p kind.Data reads w.from (ap kind_of w.is), tt), (tt, tt))
told_rows d first n h octets r facts g reads (By_action w) = subst (AllByRecursion (IsTold d n)) (sym w.says)
    ((took d n octets r w.p kind.Action reads w.from (ap kind_of w.is), tt), (tt, tt))
told_rows d first n h octets r facts g reads (By_ft_req w) =
    let from : peer_of d n w.b.header.a2 ≡ Some w.p = subst (λ (x : Reading). sender d n x ≡ Some w.p) w.is w.from in
    let end_ : other_end d n w.i ≡ w.p = ap (other_end d n) w.inputs_are ∙ other d n w.p w.a.r0kh_id (next_nonce d first n h) w.a.snonce w.b.header.a2 from in
    subst (AllByRecursion (IsTold d n)) (sym w.says)
    ((took d n octets r w.p kind.FtReq reads w.from (ap kind_of w.is ∙ w.kind_is), tt), (tt, told_attempt d n w.p (attempt w.p h) _ (tt, (tt, (end_, (tt, tt))))))
told_rows d first n h octets r facts g reads (By_repeated_ft_req w) = subst (AllByRecursion (IsTold d n)) (sym w.says)
    ((took d n octets r w.p kind.FtReq reads w.from (ap kind_of w.is ∙ w.kind_is), tt), told_stored d n w.p kind.FtResp (first_stored w.p kind.FtResp w.part))
told_rows d first n h octets r facts g reads (By_ft_resp w) =
    let from : peer_of d n w.b.header.a2 ≡ Some w.p = subst (λ (x : Reading). sender d n x ≡ Some w.p) w.is w.from in
    let end_ : other_end d n w.i ≡ w.p = ap (other_end d n) w.inputs_are ∙ other d n w.p (last_r0kh_id h) (own w.part) w.f.anonce w.b.header.a2 from in
    subst (AllByRecursion (IsTold d n)) (sym w.says)
    ((took d n octets r w.p kind.FtResp reads w.from (ap kind_of w.is ∙ w.kind_is), tt), (end_, (tt, tt)))
told_rows d first n h octets r facts g reads (By_re_req w) = subst (AllByRecursion (IsTold d n)) (sym w.says)
    ((took d n octets r w.p kind.ReReq reads w.from (ap kind_of w.is ∙ w.kind_is), tt), told_session d n w.p (session w.p h) _ (tt, (tt, (tt, tt))))
told_rows d first n h octets r facts g reads (By_repeated_re_req w) = subst (AllByRecursion (IsTold d n)) (sym w.says)
    ((took d n octets r w.p kind.ReReq reads w.from (ap kind_of w.is ∙ w.kind_is), tt), told_stored d n w.p kind.ReResp (first_stored w.p kind.ReResp (since_finished w.p h)))
told_rows d first n h octets r facts g reads (By_re_resp w) = subst (AllByRecursion (IsTold d n)) (sym w.says) (
  (took d n octets r w.p kind.ReResp reads w.from (ap kind_of w.is ∙ w.kind_is), tt),
  told_associated d n (associated h) _
      (tt, told_both d n (give_all d w.p (mac d w.p) (keys_by w.e.fte facts) h) _ (told_keys d n w.p (mac d w.p) (keys_by w.e.fte facts) h) (tt, tt)),
)
told_rows d first n h octets r facts g reads (By_ignored w) = subst (AllByRecursion (IsTold d n)) (sym w.says) ((refl, tt), tt)
told_rows d first n h octets r facts g reads (By_refusal w) = subst (AllByRecursion (IsTold d n)) (sym w.says) (
  (transmitter_at d n octets r reads, subst HasOutcomeLine w.refused (lined d first n h r facts)),
  told_both d n (refused_look n (sender d n r) r facts.pulled w.why) (response d n (sender d n r) (kind_of r) w.why) (told_look d n (sender d n r) r facts.pulled w.why) (told_response d n (sender d n r) (kind_of r) w.why),
)

-- ---- any event

told_event : (d : Domain) (first : ℕ) (n : Node) (h : List Act) (event : NodeEvent) (g : List Act) → RowOf (here d first n) h event g → AreTold d n g
told_event d first n h (Take octets) g w = told_rows d first n h octets w.r w.facts g w.reads w.row
told_event d first n h (Begin a) g w = told_connect d first n h (Ap a) g w
told_event d first n h (Retry s) g is = subst (AllByRecursion (IsTold d n)) (sym is) (told_retry d n h (Sta s) (attempt (Sta s) h))
told_event d first n h Rekey g w = told_rekey d first n h g w
told_event d first n h (Send q tid octets) g is = subst (AllByRecursion (IsTold d n)) (sym is) (told_sent d first n h q tid octets)
told_event d first n h (Expire s) g is = subst (AllByRecursion (IsTold d n)) (sym is) (told_expire d n (Sta s) (attempt (Sta s) h) (session (Sta s) h))
told_event d first n h Leave g is = subst (AllByRecursion (IsTold d n)) (sym is) (told_leave d n (pending h) (associated h))
told_event d first n h (RoamEvent a) g w = told_roam d first n h (Ap a) g w
told_event d first n h (Revoke s) g is = subst (AllByRecursion (IsTold d n)) (sym is) (told_revoke d.akm d n h (Sta s))
told_event d first n h (Secret named psk) g is = subst (AllByRecursion (IsTold d n)) (sym is) (told_secret d n h named psk)
told_event d first n h (Renew s) g w = told_renew d first n h (Sta s) g w
told_event d first n h (Announce octets) g is = subst (AllByRecursion (IsTold d n)) (sym is) (told_announce d n (announced octets) (group_send_key groups.Igtk h (current groups.Igtk h)))

told_switch : (d : Domain) (n : Node) (a : ℕ) (h : List Act) → AreTold d n (switch_acts d a h)
told_switch d n a h = all_switched (IsTold d n) (λ which key id b. tt) d a h

told_switched : (d : Domain) (n : Node) (h acts : List Act) → AreTold d n acts → AreTold d n (and_switch d n h acts)
told_switched d (Sta s) h acts x = x
told_switched d (Ap a) h acts x = told_both d (Ap a) acts (switch_acts d a (add acts h)) x (told_switch d (Ap a) a (add acts h))

pub told_adds : (d : Domain) (first : ℕ) (n : Node) (h : List Act) (event : NodeEvent) (g : List Act) → Adds (here d first n) h event g → AreTold d n g
told_adds d first n h event g adds = subst (AllByRecursion (IsTold d n)) (sym adds.is) (told_switched d n h adds.acts (told_event d first n h event adds.acts adds.row))
