-- Each row of the tables adds a chain of legal acts.
use Rattle.std.proofs.Common.{ℕ, ◌≡◌, inl, inr, Bool, true, false, not, List, [], ◌∷◌, ◌++◌, length, Option, Some, None, refl, sym, ap, ◌∙◌, subst, ◌<◌, arith, cond}
use Rattle.std.specs.Prelude.{unwrap_or}
use Rattle.std.specs.List.{AllByRecursion}
use Rattle.domain_base.specs.declared.names.Akm.{Akm}
use Rattle.domain_base.specs.declared.names.Akm.TheVariants.{Psk, PskSha256, FtPsk}
use Rattle.domain_base.specs.declared.names.Node.{Node}
use Rattle.domain_base.specs.declared.names.Node.TheVariants.{Ap, Sta}
use Rattle.domain_base.specs.declared.names.Peer.TheVariants.{One}
use Rattle.rsn_elements.specs.Elements.{ElementFields}
use Rattle.mac_prf.specs.Mic.{without_mic}
use Rattle.eapol_key.specs.declared.messages.Message.{Message}
use Rattle.eapol_key.specs.declared.messages.Message.TheVariants.{M1, M2, M3, M4}
use Rattle.key_hierarchy.specs.Keys.{ptk}
use Rattle.key_hierarchy.specs.declared.answers.PullAnswer.{PullAnswer}
use Rattle.key_hierarchy.specs.declared.answers.PullAnswer.TheVariants.{Found, NoHolder, Absent}
use Rattle.domain_rules.specs.HeldRight.{GivesRightKey}
use Rattle.key_hierarchy.specs.declared.fast_transition.PmkR1.{PmkR1}
use Rattle.key_hierarchy.specs.declared.inputs.Inputs.{Inputs}
use Rattle.key_hierarchy.proofs.Lengths.{length-kdf}
use Rattle.run_journal.specs.declared.domain.Domain.{Domain}
use Rattle.run_journal.specs.declared.acts.Start.{Start}
use Rattle.run_journal.specs.declared.acts.Start.TheVariants.{Connect, Renew}
use Rattle.run_journal.specs.declared.acts.Part.TheVariants.{Attempt, Session}
use Rattle.run_journal.specs.declared.acts.Drawn.TheVariants.{Nonce}
use Rattle.run_journal.specs.declared.acts.Kind.{Kind}
use Rattle.run_journal.specs.declared.acts.Kind.TheVariants as kind
use Rattle.run_journal.specs.declared.acts.Reason.{Reason}
use Rattle.run_journal.specs.declared.acts.Why.TheVariants as why
use Rattle.run_journal.specs.declared.acts.Outcome.{Outcome}
use Rattle.run_journal.specs.declared.acts.Outcome.TheVariants.{Accepted, Answered, Ignored}
use Rattle.run_journal.specs.declared.acts.Seal.{Seal}
use Rattle.run_journal.specs.declared.acts.Key.TheVariants.{Pairwise}
use Rattle.run_journal.specs.declared.acts.Act.{Act}
use Rattle.run_journal.specs.declared.acts.Act.TheVariants.{Opened, Closed, Drew, Took, Installed, Looked, Idle}
use Rattle.run_journal.specs.Acts.{Derivation, opens, ends}
use Rattle.run_journal.specs.Questions.{attempt, own_nonce, session, pending, associated, add, since, before_sent, draws}
use Rattle.run_journal.specs.Premises.{In}
use Rattle.domain_rules.specs.Network.{mac, psk_of, peer_of, is_ap, nonce, r0kh_id, root_by, inputs_at, renews, draw_end}
use Rattle.run_journal.specs.Events.{IsListed}
use Rattle.domain_rules.specs.Reading.{KeyMessage, Reading, Managed, Keyed, HasMessage, Reads, kind_of}
use Rattle.domain_rules.specs.Frames.{sent_assoc_req, sent_assoc_resp, sent_refusal, sent_m1, sent_m2_by, sent_m3, frame_seal, keyed_by}
use Rattle.domain_rules.specs.Facts.{Facts}
use Rattle.domain_rules.specs.Verdict.{verdict}
use Rattle.domain_rules.specs.Asking.{is_by_renewal, in_renewal, own}
use Rattle.domain_rules.specs.Counters.{next_counter, next_in_session, sent_count}
use Rattle.domain_rules.specs.GroupKeys.{newest, news}
use Rattle.domain_rules.specs.Closing.{close_attempt, close_pending, close_associated, next_nonce, sender}
use Rattle.domain_rules.specs.StationRows.{ConnectRow, Spent, Asks, AssocRespRow, M1Row, OpeningM1Row}
use Rattle.domain_rules.specs.Rows.{refused_status, response_by, response, IgnoredRow, RefusedRow}
use Rattle.domain_rules.specs.AccessPointRows.{AssocReqRow, M2Row}
use Rattle.domain_rules.specs.FastTransition.{single as single_name}
use Rattle.domain_rules.specs.TransitionKeyData.{responded_fte, responded_r0kh_id}
use Rattle.domain_rules.specs.TransitionFrames.{sent_ft_refusal, sent_re_refusal}
use Rattle.domain_rules.specs.TransitionKeys.{Asked, asked}
use Rattle.domain_rules.specs.TransitionRows.{look_answer, looked_by, looked_for, look_of_kind, refused_look}
use Rattle.domain_rules.specs.Here.{here}
use Rattle.domain_rules.proofs.Parts.{attempt_more, in_part, own_nonce_more, same-refl, attempt_none, add_append}
use Rattle.run_journal.specs.declared.acts.GroupKind.{GroupKind}
use Rattle.journal_safety.proofs.Covers.{Covers, took_covers}
use Rattle.journal_safety.proofs.Legal.{ack, Of_key, LegalLook, nonce_of, own_address, peer_address, derives, Alive, Current, AreCommon, LegalDerived, Verified, Seen, LegalHistory, IsUsed, IsNewest, Built, HaveDrawn, SendsM3}
use Rattle.journal_safety.proofs.Histories.{nonce_in, nonce_size, Newest, Newests, newests_are}
use Rattle.journal_safety.proofs.Accepted.{Taken, taken_accepted, taken_answered, request_role, request_few, m2_silent, m2_tells, Opening, opening}
use Rattle.journal_safety.proofs.Settled.{is_quiet, Settled, Fine, fine_none, fine_quiet, fine_append, fine_opened}
use Rattle.journal_safety.proofs.SentLegal.{IsNow, legal_m2, legal_m3, sta_nonce, ap_nonce, legal_m1}
use Rattle.journal_safety.proofs.Ends.{tail_refl}
use Rattle.journal_safety.proofs.Sessions.{renewal_more}
use Rattle.journal_safety.proofs.Counts.{none_sent}
use Rattle.journal_safety.proofs.FirstM3.{no_m3}

-- ---- groups of acts that close something

pub fine_attempt : (d : Domain) (n : Node) (h : List Act) (p : Node) (o : Option (List Act)) → Settled d n h → Fine d n h (close_attempt p o)
fine_attempt d n h p None s = fine_none d n h s
fine_attempt d n h p (Some x) s = fine_quiet d n h (Closed p Attempt) [] tt refl s (fine_none d n _)

pub fine_pending : (d : Domain) (n : Node) (h : List Act) (o : Option Node) → Settled d n h → Fine d n h (close_pending o)
fine_pending d n h None s = fine_none d n h s
fine_pending d n h (Some p) s = fine_quiet d n h (Closed p Attempt) [] tt refl s (fine_none d n _)

pub fine_associated : (d : Domain) (n : Node) (h : List Act) (o : Option Node) → associated h ≡ o → Settled d n h → Fine d n h (close_associated o)
fine_associated d n h None is s = fine_none d n h s
fine_associated d n h (Some p) is s = fine_quiet d n h (Closed p Session) [] (λ station. inr is) refl s (fine_none d n _)

-- no session is left
pub left_pending : (h : List Act) (o : Option Node) → associated (add (close_pending o) h) ≡ associated h
left_pending h None = refl
left_pending h (Some p) = refl

pub left_associated : (h : List Act) (o : Option Node) → associated h ≡ o → associated (add (close_associated o) h) ≡ None
left_associated h None is = is
left_associated h (Some p) is = refl

pub fine_dropped : (d : Domain) (n : Node) (h : List Act) → Settled d n h → Fine d n h (close_pending (pending h) ++ close_associated (associated h))
fine_dropped d n h s =
    let a = fine_pending d n h (pending h) s in
    fine_append d n h (close_pending (pending h)) (close_associated (associated h)) a
    (fine_associated d n (add (close_pending (pending h)) h) (associated h) (left_pending h (pending h)) a.settled)

none_left : (h : List Act) → associated (add (close_pending (pending h) ++ close_associated (associated h)) h) ≡ None
none_left h =
    ap associated (add_append (close_pending (pending h)) (close_associated (associated h)) h)
    ∙ left_associated (add (close_pending (pending h)) h) (associated h) (left_pending h (pending h))

-- nothing is drawn by it
drew_pending : (h : List Act) (o : Option Node) → draws (add (close_pending o) h) ≡ draws h
drew_pending h None = refl
drew_pending h (Some p) = refl

drew_associated : (h : List Act) (o : Option Node) → draws (add (close_associated o) h) ≡ draws h
drew_associated h None = refl
drew_associated h (Some p) = refl

pub few_pending : (h : List Act) (o : Option Node) → draws h < draw_end → draws (add (close_pending o) h) < draw_end
few_pending h o few = subst (λ (m : ℕ). m < draw_end) (sym (drew_pending h o)) few

few_dropped : (h : List Act) → draws h < draw_end → draws (add (close_pending (pending h) ++ close_associated (associated h)) h) < draw_end
few_dropped h few = subst (λ (m : ℕ). m < draw_end)
    (sym (ap draws (add_append (close_pending (pending h)) (close_associated (associated h)) h) ∙ drew_associated (add (close_pending (pending h)) h) (associated h) ∙ drew_pending h (pending h))) few

drew_attempt : (h : List Act) (p : Node) (o : Option (List Act)) → draws (add (close_attempt p o) h) ≡ draws h
drew_attempt h p None = refl
drew_attempt h p (Some part) = refl

pub few_attempt : (h : List Act) (p : Node) (o : Option (List Act)) → draws h < draw_end → draws (add (close_attempt p o) h) < draw_end
few_attempt h p o few = subst (λ (m : ℕ). m < draw_end) (sym (drew_attempt h p o)) few

-- what is said of stations alone, at an access point
pub not_station : {A : Type 0} (n : Node) → is_ap n ≡ true → is_ap n ≡ false → A
not_station n ours theirs = absurd (cc (ours, theirs))

pub size_nonce : (d : Domain) (n : Node) (k : ℕ) → length (nonce d n k) ≡ 32
unfolding nonce
size_nonce d n k = length-kdf _ _ _ 32

-- ---- the rows of association

abbrev asks : Domain → ℕ → Node → List Act → Node → List Act
asks d first n h p = Opened p Connect ∷ Drew (Nonce (next_nonce d first n h)) ∷ sent_assoc_req d n p ∷ []

pub connect_fine : (d : Domain) (first : ℕ) (n : Node) (h : List Act) (p : Node) (g : List Act) → is_ap p ≡ true → Settled d n h → ConnectRow (here d first n) h p g → Fine d n h g
connect_fine d first n h p g role s (Spent late is) = subst (λ (x : List Act). Fine d n h x) (sym is) (fine_quiet d n h (Idle why.Spent) [] tt refl s (fine_none d n _))
connect_fine d first n h p g role s (Asks early is) =
    let b = fine_dropped d n h s in
    subst (λ (x : List Act). Fine d n h x) (sym is)
    (fine_append d n h (close_pending (pending h) ++ close_associated (associated h)) (asks d first n h p) b
    (fine_opened d n _ p Connect (next_nonce d first n h) _ (record { none = λ is station. none_left h; alone = λ other station some. (let none = none_left h in cc (none, some)); access = λ station. role; mobile = λ is. cc is; renewed = λ is. cc is; paid = b.settled.paid }) (size_nonce d n _)
    (few_dropped h (omega (arith, early))) b.settled (λ t. fine_quiet d n _ (sent_assoc_req d n p) [] (tt, tt) refl t (fine_none d n _))))

abbrev answers : Domain → ℕ → Node → List Act → Node → List Act
answers d first n h p = Opened p Connect ∷ Drew (Nonce (next_nonce d first n h)) ∷ sent_assoc_resp d n p ∷ sent_m1 d n p 1 (next_nonce d first n h) ∷ []

pub assoc_req_fine : (d : Domain) (first : ℕ) (n : Node) (h : List Act) (octets : List ℕ) (r : Reading) (facts : Facts) (g : List Act) → Settled d n h → AssocReqRow (here d first n) h octets r facts g → Fine d n h g
assoc_req_fine d first n h octets r facts g s row =
    let role : is_ap n ≡ true = request_role d first n h row.b row.e facts row.kind_is (subst (λ (x : Reading). verdict d first n h x facts ≡ Accepted) row.is row.accepted) in
    let few : draws h < draw_end = request_few d first n h row.b row.e facts row.kind_is (subst (λ (x : Reading). verdict d first n h x facts ≡ Accepted) row.is row.accepted) in
    subst (λ (x : List Act). Fine d n h x) (sym row.says)
    (fine_quiet d n h (Took (Some row.p) octets kind.AssocReq Accepted None) _ tt refl s (λ t.
    let a = fine_attempt d n (Took (Some row.p) octets kind.AssocReq Accepted None ∷ h) row.p (attempt row.p h) t in
    fine_append d n (Took (Some row.p) octets kind.AssocReq Accepted None ∷ h) (close_attempt row.p (attempt row.p h)) (answers d first n h row.p) a
    (fine_opened d n _ row.p Connect (next_nonce d first n h) _ (record { none = λ is. not_station n role; alone = λ other. not_station n role; access = not_station n role; mobile = λ is. cc is; renewed = λ is. cc is; paid = a.settled.paid }) (size_nonce d n _)
    (few_attempt (Took (Some row.p) octets kind.AssocReq Accepted None ∷ h) row.p (attempt row.p h) few) a.settled (λ u.
    fine_quiet d n _ (sent_assoc_resp d n row.p) _ (tt, tt) refl u (λ v.
    fine_quiet d n _ (sent_m1 d n row.p 1 (next_nonce d first n h)) [] (legal_m1 d n row.p (sent_assoc_resp d n row.p ∷ Drew (Nonce (next_nonce d first n h)) ∷ Opened row.p Connect ∷ add (close_attempt row.p (attempt row.p h)) (Took (Some row.p) octets kind.AssocReq Accepted None ∷ h)) 1 (next_nonce d first n h) (rw (same-refl row.p) (omega arith))) refl v (fine_none d n _))))))

pub assoc_resp_fine : (d : Domain) (first : ℕ) (n : Node) (h : List Act) (octets : List ℕ) (r : Reading) (facts : Facts) (g : List Act) → Settled d n h → AssocRespRow (here d first n) h octets r facts g → Fine d n h g
assoc_resp_fine d first n h octets r facts g s row =
    subst (λ (x : List Act). Fine d n h x) (sym row.says) (fine_quiet d n h (Took (Some row.p) octets kind.AssocResp Accepted None) [] tt refl s (fine_none d n _))

pub ignored_fine : (d : Domain) (first : ℕ) (n : Node) (h : List Act) (octets : List ℕ) (r : Reading) (facts : Facts) (g : List Act) → Settled d n h → IgnoredRow (here d first n) h octets r facts g → Fine d n h g
ignored_fine d first n h octets r facts g s row =
    subst (λ (x : List Act). Fine d n h x) (sym row.says) (fine_quiet d n h (Took None octets kind.Ignored Ignored None) [] tt refl s (fine_none d n _))

response_by_fine : (d : Domain) (n : Node) (h : List Act) (p : Node) (k : Kind) (code : Option ℕ) → Settled d n h → Fine d n h (response_by d n p k code)
response_by_fine d n h p kind.AssocReq (Some code) s = fine_quiet d n h (sent_refusal d n p code) [] (tt, tt) refl s (fine_none d n _)
response_by_fine d n h p kind.FtReq (Some code) s = fine_quiet d n h (sent_ft_refusal d n p code) [] (tt, tt) refl s (fine_none d n _)
response_by_fine d n h p kind.ReReq (Some code) s = fine_quiet d n h (sent_re_refusal d n p code) [] (tt, tt) refl s (fine_none d n _)
response_by_fine d n h p k code s = fine_none d n h s

response_fine : (d : Domain) (n : Node) (h : List Act) (from : Option Node) (k : Kind) (w : Reason) → Settled d n h → Fine d n h (response d n from k w)
response_fine d (Ap a) h (Some p) k w s = response_by_fine d (Ap a) h p k (refused_status w) s
response_fine d n h from k w s = fine_none d n h s

-- looks are answered with the right key, as far as acts tell: that of the network in which they are (IEEE Std 802.11-2020, 12.7.1.6)
abbrev pub RightLook : Domain → Node → List ℕ → Node → PullAnswer → Type 0
RightLook d n id p answer = d.akm ≡ FtPsk → GivesRightKey d id (record { node = n; round = 0; name = []; sta = p }) answer

abbrev pub RightAct : Domain → Node → Act → Type 0
RightAct d n (Looked id name p answer) = RightLook d n id p answer
RightAct d n _ = Unit {0}

pub legal_look : (d : Domain) (n : Node) (id : List ℕ) (p : Node) (answer : PullAnswer) → RightLook d n id p answer → LegalLook d n id p answer
legal_look d n id p (Found k) right = λ suite. (psk_of d p, right suite)
legal_look d n id p NoHolder right = tt
legal_look d n id p Absent right = tt

abbrev pub RightActs : Domain → Node → List Act → Type 0
RightActs d n g = AllByRecursion (λ e. RightAct d n e) g

pub right_front : (d : Domain) (n : Node) (a b : List Act) → RightActs d n (a ++ b) → RightActs d n a
right_front d n [] b w = tt
right_front d n (e ∷ a) b w = (w.0, right_front d n a b w.1)

-- the look of a refused request
asked_fine : (d : Domain) (n : Node) (h : List Act) (p : Node) (a : Asked) (name : Option (List ℕ)) (o : Option PullAnswer) → RightActs d n (looked_by p a name o) → Settled d n h → Fine d n h (looked_by p a name o)
asked_fine d n h p a (Some name) (Some answer) right s = fine_quiet d n h (Looked a.r0kh_id name p answer) [] (legal_look d n a.r0kh_id p answer right.0) refl s (fine_none d n _)
asked_fine d n h p a name o right s = fine_none d n h s

looked_fine : (d : Domain) (n : Node) (h : List Act) (p : Node) (a : Option Asked) (o : Option PullAnswer) → RightActs d n (looked_for p a o) → Settled d n h → Fine d n h (looked_for p a o)
looked_fine d n h p None o right s = fine_none d n h s
looked_fine d n h p (Some a) o right s = asked_fine d n h p a (single_name a.names) o right s

kind_fine : (d : Domain) (n : Node) (h : List Act) (k : Kind) (p : Node) (e : ElementFields) (o : Option PullAnswer) → RightActs d n (look_of_kind k p e o) → Settled d n h → Fine d n h (look_of_kind k p e o)
kind_fine d n h kind.FtReq p e o right s = looked_fine d n h p (asked e) o right s
kind_fine d n h k p e o right s = fine_none d n h s

look_fine : (d : Domain) (n : Node) (h : List Act) (from : Option Node) (r : Reading) (pulled : Option PmkR1) (w : Reason) → RightActs d n (refused_look n from r pulled w) → Settled d n h → Fine d n h (refused_look n from r pulled w)
look_fine d (Ap a) h (Some p) (Managed b e) pulled w right s = kind_fine d (Ap a) h b.kind p e (look_answer w pulled) right s
look_fine d n h from r pulled w right s = fine_none d n h s

pub refused_fine : (d : Domain) (first : ℕ) (n : Node) (h : List Act) (octets : List ℕ) (r : Reading) (facts : Facts) (g : List Act) → RightActs d n g → Settled d n h → RefusedRow (here d first n) h octets r facts g → Fine d n h g
refused_fine d first n h octets r facts g right s row =
    let all = subst (λ (x : List Act). RightActs d n x) row.says right in
    let looks = right_front d n (refused_look n (sender d n r) r facts.pulled row.why) (response d n (sender d n r) (kind_of r) row.why) all.1 in
    subst (λ (x : List Act). Fine d n h x) (sym row.says) (fine_quiet d n h _ _ tt refl s (λ t.
    let look = look_fine d n _ (sender d n r) r facts.pulled row.why looks t in
    fine_append d n _ (refused_look n (sender d n r) r facts.pulled row.why) (response d n (sender d n r) (kind_of r) row.why) look
    (response_fine d n _ (sender d n r) (kind_of r) row.why look.settled)))

-- ---- of a message that was taken

-- what each row of an EAPOL-Key message begins with
pub record Arrived (d : Domain) (n p : Node) (h : List Act) (octets : List ℕ) (k : KeyMessage) (o : Outcome) : Type 0 where
  pub has : HasMessage d.akm octets k
  pub from : peer_of d n k.header.a2 ≡ Some p
  pub taken : Taken d n p h k o
  pub covers : Covers (1 ∷ without_mic k.octets) k.message k.fields

has_message : (d : Domain) (octets : List ℕ) (r : Reading) (k : KeyMessage) → r ≡ Keyed k → Reads d.akm octets r → HasMessage d.akm octets k
has_message d octets r k is reads = subst (λ (x : Reading). Reads d.akm octets x) is reads

from_sender : (d : Domain) (n p : Node) (r : Reading) (k : KeyMessage) → r ≡ Keyed k → sender d n r ≡ Some p → peer_of d n k.header.a2 ≡ Some p
from_sender d n p r k is from = subst (λ (x : Reading). sender d n x ≡ Some p) is from

pub arrived : (d : Domain) (first : ℕ) (n p : Node) (h : List Act) (octets : List ℕ) (r : Reading) (k : KeyMessage) (facts : Facts) → r ≡ Keyed k → Reads d.akm octets r → sender d n r ≡ Some p → verdict d first n h r facts ≡ Accepted → Arrived d n p h octets k Accepted
arrived d first n p h octets r k facts is reads from e =
    let has = has_message d octets r k is reads in
    let a2 = from_sender d n p r k is from in
    record { has = has; from = a2; taken = taken_accepted d first n p h octets k facts has a2 (subst (λ (x : Reading). verdict d first n h x facts ≡ Accepted) is e); covers = took_covers d.akm octets k has }

pub arrived_again : (d : Domain) (first : ℕ) (n p : Node) (h : List Act) (octets : List ℕ) (r : Reading) (k : KeyMessage) (facts : Facts) → r ≡ Keyed k → Reads d.akm octets r → sender d n r ≡ Some p → verdict d first n h r facts ≡ Answered → Arrived d n p h octets k Answered
arrived_again d first n p h octets r k facts is reads from e =
    let has = has_message d octets r k is reads in
    let a2 = from_sender d n p r k is from in
    record { has = has; from = a2; taken = taken_answered d first n p h octets k facts has a2 (subst (λ (x : Reading). verdict d first n h x facts ≡ Answered) is e); covers = took_covers d.akm octets k has }

is_station : (b : Bool) → true ≡ not b → b ≡ false
is_station true e = cc
is_station false e = refl

pub access_peer : (a b : Bool) → a ≡ not b → b ≡ false → a ≡ true
access_peer true b e f = refl
access_peer false true e f = cc
access_peer false false e f = cc

is_access : (b : Bool) → false ≡ not b → b ≡ true
is_access true e = refl
is_access false e = cc

pub station_of : (d : Domain) (n p : Node) (h : List Act) (k : KeyMessage) (o : Outcome) → Taken d n p h k o → ack k.message ≡ true → is_ap n ≡ false
station_of d n p h k o t e = is_station (is_ap n) (sym e ∙ t.direction)

pub access_of : (d : Domain) (n p : Node) (h : List Act) (k : KeyMessage) (o : Outcome) → Taken d n p h k o → ack k.message ≡ false → is_ap n ≡ true
access_of d n p h k o t e = is_access (is_ap n) (sym e ∙ t.direction)

abbrev pub installs : Node → Inputs → Act
installs p i = Installed (One p) (Pairwise (ptk i).tk i)

abbrev pub takes : Node → List ℕ → Message → Outcome → Inputs → KeyMessage → Act
takes p octets m o i k = Took (Some p) octets (kind.Key m) o (Some (frame_seal (ptk i).kck k.octets))

-- of which message it is that ends an attempt
pub final_station : (n : Node) → is_ap n ≡ false → M3 ≡ cond (is_ap n) M4 M3
final_station n role = rw role refl

pub final_access : (n : Node) → is_ap n ≡ true → M4 ≡ cond (is_ap n) M4 M3
final_access n role = rw role refl

-- a verified message
unfoldable pub verified_now : (d : Domain) (n p : Node) (h : List Act) (octets : List ℕ) (kd : Kind) (o : Outcome) (i : Inputs) (k : KeyMessage) → In (derives p i) h → Arrived d n p h octets k o → Verified n (Took (Some p) octets kd o (Some (frame_seal (ptk i).kck k.octets)) ∷ h) p i
verified_now d n p h octets kd o i k there a = record {
  derived = inr there;
  from = Some p;
  octets = octets;
  kind = kd;
  outcome = o;
  covered = 1 ∷ without_mic k.octets;
  took = inl refl;
  form = Of_key refl;
  direction = ap ack a.covers.message ∙ a.taken.direction;
}

-- ---- M1 and M2: a key is derived

pub inputs_own : (d : Domain) (id : List ℕ) (n p : Node) (v other : List ℕ) → nonce_of n (inputs_at d n p id v other) ≡ v
inputs_own d id (Ap k) p v other = refl
inputs_own d id (Sta k) p v other = refl

pub inputs_address : (d : Domain) (id : List ℕ) (n p : Node) (v other : List ℕ) → own_address n (inputs_at d n p id v other) ≡ mac d n
inputs_address d id (Ap k) p v other = refl
inputs_address d id (Sta k) p v other = refl

pub inputs_peer : (d : Domain) (id : List ℕ) (n p : Node) (v other : List ℕ) → peer_address n (inputs_at d n p id v other) ≡ mac d p
inputs_peer d id (Ap k) p v other = refl
inputs_peer d id (Sta k) p v other = refl

-- the root by the suite
root_mdid : (akm : Akm) (d : Domain) (p : Node) (id : List ℕ) (s : Node) → (root_by akm d p id).mdid ≡ (root_by akm d s (root_by akm d p id).r0kh_id).mdid
root_mdid Psk d p id s = refl
root_mdid PskSha256 d p id s = refl
root_mdid FtPsk d p id s = refl

root_holder : (akm : Akm) (d : Domain) (p : Node) (id : List ℕ) (s : Node) → (root_by akm d p id).r0kh_id ≡ (root_by akm d s (root_by akm d p id).r0kh_id).r0kh_id
root_holder Psk d p id s = refl
root_holder PskSha256 d p id s = refl
root_holder FtPsk d p id s = refl

pub inputs_common : (d : Domain) (id : List ℕ) (n p : Node) (v other : List ℕ) → AreCommon d (inputs_at d n p id v other)
inputs_common d id (Ap k) p v other = record { akm = refl; ssid = refl; mdid = root_mdid d.akm d p id; r0kh_id = root_holder d.akm d p id }
inputs_common d id (Sta k) p v other = record { akm = refl; ssid = refl; mdid = root_mdid d.akm d (Sta k) id; r0kh_id = root_holder d.akm d (Sta k) id }

-- a node and its peer, of two kinds, are listed
pub record Both (d : Domain) (n p : Node) : Type 0 where
  pub roles : is_ap p ≡ not (is_ap n)
  pub listed : IsListed d n
  pub peer_listed : IsListed d p

pub both_of : (d : Domain) (n p : Node) (h : List Act) (k : KeyMessage) (o : Outcome) → Taken d n p h k o → Both d n p
both_of d n p h k o t = record { roles = t.roles; listed = t.listed; peer_listed = t.peer_listed }

pub alive_took : (n p : Node) (h part : List Act) (i : Inputs) (from : Option Node) (octets : List ℕ) (kd : Kind) (o : Outcome) (seal : Option Seal) → attempt p h ≡ Some part → own_nonce part ≡ Some (nonce_of n i) → Alive n (Took from octets kd o seal ∷ h) p i
alive_took n p h part i from octets kd o seal a is = record { part = Took from octets kd o seal ∷ part; awaited = attempt_more p (Took from octets kd o seal) h part refl refl a; own = own_nonce_more (Took from octets kd o seal) part (nonce_of n i) is }

pub alive_more : (n p : Node) (h : List Act) (i : Inputs) (e : Act) → opens p e ≡ false → ends p e ≡ false → Alive n h p i → Alive n (e ∷ h) p i
alive_more n p h i e o goes a = record { part = e ∷ a.part; awaited = attempt_more p e h a.part o goes a.awaited; own = own_nonce_more e a.part (nonce_of n i) a.own }

legal_derived : (d : Domain) (id : List ℕ) (n p : Node) (h part : List Act) (from : Option Node) (octets : List ℕ) (kd : Kind) (o : Outcome) (seal : Option Seal) (v other : List ℕ) → Both d n p → attempt p h ≡ Some part → own_nonce part ≡ Some v → (is_ap n ≡ true → before_sent p (kind.Key M3) (Took from octets kd o seal ∷ h) ≡ None)
    → LegalDerived d n (Took from octets kd o seal ∷ h) p (inputs_at d n p id v other) (ptk (inputs_at d n p id v other))
legal_derived d id n p h part from octets kd o seal v other t a is free = record {
  roles = t.roles;
  listed = t.listed;
  peer_listed = t.peer_listed;
  alive = alive_took n p h part (inputs_at d n p id v other) from octets kd o seal a (is ∙ ap Some (sym (inputs_own d id n p v other)));
  address = inputs_address d id n p v other;
  peer = inputs_peer d id n p v other;
  common = inputs_common d id n p v other;
  key = refl;
  no_m3 = free;
}

-- what is derived in an attempt is from its own nonce, of 32 octets
pub record Own (d : Domain) (id : List ℕ) (n p : Node) (h part : List Act) (i : Inputs) (other : List ℕ) : Type 0 where
  pub v : List ℕ
  pub drawn : own_nonce part ≡ Some v
  pub is : i ≡ inputs_at d n p id v other
  pub size : length (nonce_of n i) ≡ 32

pub own_inputs : (d : Domain) (id : List ℕ) (n p : Node) (h part : List Act) (i : Inputs) (other : List ℕ) → LegalHistory d n h → Settled d n h → attempt p h ≡ Some part → i ≡ inputs_at d n p id (own part) other → Own d id n p h part i other
own_inputs d id n p h part i other legal s a e =
    let w = s.nonced p part a in
    let v_is : own part ≡ w.0 = ap (λ (o : Option (List ℕ)). unwrap_or o []) w.1 in
    let is : i ≡ inputs_at d n p id w.0 other = e ∙ ap (λ (x : List ℕ). inputs_at d n p id x other) v_is in
    let size : length w.0 ≡ 32 = nonce_size d n w.0 h legal (in_part p h part (Drew (Nonce w.0)) a (nonce_in part w.0 w.1)) in
    record { v = w.0; drawn = w.1; is = is; size = ap (λ (x : Inputs). length (nonce_of n x)) is ∙ ap length (inputs_own d id n p w.0 other) ∙ size }

pub derived_by : (d : Domain) (id : List ℕ) (n p : Node) (h part : List Act) (from : Option Node) (octets : List ℕ) (kd : Kind) (o : Outcome) (seal : Option Seal) (i : Inputs) (other : List ℕ) → Both d n p → attempt p h ≡ Some part → Own d id n p h part i other → (is_ap n ≡ true → before_sent p (kind.Key M3) (Took from octets kd o seal ∷ h) ≡ None)
    → LegalDerived d n (Took from octets kd o seal ∷ h) p i (ptk i)
derived_by d id n p h part from octets kd o seal i other t a w free =
    subst (λ (x : Inputs). LegalDerived d n (Took from octets kd o seal ∷ h) p x (ptk x)) (sym w.is) (legal_derived d id n p h part from octets kd o seal w.v other t a w.drawn free)

-- how an attempt began that goes on
pub one_more : (p : Node) (e : Act) (h part : List Act) → attempt p h ≡ Some part → opens p e ≡ false → ends p e ≡ false → in_renewal (attempt p (e ∷ h)) ≡ is_by_renewal part
one_more p e h part a o goes = ap in_renewal (attempt_more p e h part o goes a) ∙ renewal_more p e h part a

pub two_more : (p : Node) (e f : Act) (h part : List Act) → attempt p h ≡ Some part → opens p e ≡ false → ends p e ≡ false → opens p f ≡ false → ends p f ≡ false → in_renewal (attempt p (f ∷ e ∷ h)) ≡ is_by_renewal part
two_more p e f h part a o goes u ends_none = one_more p f (e ∷ h) (e ∷ part) (attempt_more p e h part o goes a) u ends_none ∙ renewal_more p e h part a

-- one that has just begun
pub begun_alive : (n p : Node) (h : List Act) (s : Start) (v : List ℕ) (i : Inputs) → v ≡ nonce_of n i → Alive n (Drew (Nonce v) ∷ Opened p s ∷ h) p i
begun_alive n p h s v i is = record { part = Drew (Nonce v) ∷ Opened p s ∷ []; awaited = rw (same-refl p) refl; own = ap Some is }

renewal_begun : (p : Node) (h : List Act) (v : List ℕ) (e : Act) → opens p e ≡ false → ends p e ≡ false → in_renewal (attempt p (e ∷ Drew (Nonce v) ∷ Opened p Renew ∷ h)) ≡ true
renewal_begun p h v e o goes =
    let a : attempt p (Drew (Nonce v) ∷ Opened p Renew ∷ h) ≡ Some (Drew (Nonce v) ∷ Opened p Renew ∷ []) = rw (same-refl p) refl in
    one_more p e (Drew (Nonce v) ∷ Opened p Renew ∷ h) (Drew (Nonce v) ∷ Opened p Renew ∷ []) a o goes

quiet_m2 : (renewal : Bool) (d : Domain) (n p : Node) (x : Derivation) (counter : ℕ) (fte : List ℕ) → is_quiet (sent_m2_by renewal d n p x counter fte) ≡ true
quiet_m2 false d n p x counter fte = refl
quiet_m2 true d n p x counter fte = refl

pub m1_fine : (d : Domain) (first : ℕ) (n : Node) (h : List Act) (octets : List ℕ) (r : Reading) (facts : Facts) (g : List Act) → Reads d.akm octets r → LegalHistory d n h → Settled d n h → M1Row (here d first n) h octets r facts g → Fine d n h g
m1_fine d first n h octets r facts g reads legal s row =
    let a = arrived d first n row.p h octets r row.k facts row.is reads row.from row.accepted in
    let role : is_ap n ≡ false = station_of d n row.p h row.k Accepted a.taken (ap ack row.message_is) in
    let w = own_inputs d (responded_r0kh_id facts.responded) n row.p h row.part row.i row.k.fields.nonce legal s row.awaited row.inputs_are in
    let size : length row.i.snonce ≡ 32 = ap length (sta_nonce n row.i role) ∙ w.size in
    let took : Act = Took (Some row.p) octets (kind.Key M1) Accepted None in
    let own : own_nonce row.part ≡ Some (nonce_of n row.i) = w.drawn ∙ ap Some (sym (ap (nonce_of n) w.is ∙ inputs_own d (responded_r0kh_id facts.responded) n row.p w.v row.k.fields.nonce)) in
    let alive : Alive n (derives row.p row.i ∷ took ∷ h) row.p row.i = alive_more n row.p (took ∷ h) row.i (derives row.p row.i) refl refl (alive_took n row.p h row.part row.i (Some row.p) octets (kind.Key M1) Accepted None row.awaited own) in
    let begun : in_renewal (attempt row.p (derives row.p row.i ∷ took ∷ h)) ≡ is_by_renewal row.part = two_more row.p took (derives row.p row.i) h row.part row.awaited refl refl refl refl in
    subst (λ (x : List Act). Fine d n h x) (sym row.says)
    (fine_quiet d n h took _ tt refl s (λ t.
    fine_quiet d n _ (derives row.p row.i) _ (derived_by d (responded_r0kh_id facts.responded) n row.p h row.part (Some row.p) octets (kind.Key M1) Accepted None row.i row.k.fields.nonce (both_of d n row.p h row.k Accepted a.taken) row.awaited w (λ ap_role. not_station n ap_role role)) refl t (λ u.
    fine_quiet d n (derives row.p row.i ∷ took ∷ h) (sent_m2_by (is_by_renewal row.part) d n row.p (keyed_by row.i) row.k.fields.counter (unwrap_or (responded_fte facts.responded) [])) []
    (legal_m2 d n row.p (derives row.p row.i ∷ took ∷ h) row.i row.k.fields.counter (unwrap_or (responded_fte facts.responded) []) (is_by_renewal row.part) role (inl refl) size alive begun) (quiet_m2 (is_by_renewal row.part) d n row.p (keyed_by row.i) row.k.fields.counter (unwrap_or (responded_fte facts.responded) [])) u (fine_none d n _))))

-- by M1 a station begins to renew the key of a session
pub opening_m1_fine : (d : Domain) (first : ℕ) (n : Node) (h : List Act) (octets : List ℕ) (r : Reading) (facts : Facts) (g : List Act) → Reads d.akm octets r → LegalHistory d n h → Settled d n h → OpeningM1Row (here d first n) h octets r facts g → Fine d n h g
opening_m1_fine d first n h octets r facts g reads legal s row =
    let p : Node = row.p in
    let i : Inputs = row.i in
    let v : List ℕ = next_nonce d first n h in
    let a = arrived d first n p h octets r row.k facts row.is reads row.from row.accepted in
    let role : is_ap n ≡ false = station_of d n p h row.k Accepted a.taken (ap ack row.message_is) in
    let o : Opening d p h = opening d n p h row.k row.message_is a.taken row.none in
    let took : Act = Took (Some p) octets (kind.Key M1) Accepted None in
    let own : v ≡ nonce_of n i = sym (ap (nonce_of n) row.inputs_are ∙ inputs_own d [] n p v row.k.fields.nonce) in
    let size : length i.snonce ≡ 32 = ap length (sta_nonce n i role ∙ sym own) ∙ size_nonce d n _ in
    let begun : List Act = Drew (Nonce v) ∷ Opened p Renew ∷ took ∷ h in
    let alive : Alive n begun p i = begun_alive n p (took ∷ h) Renew v i own in
    subst (λ (x : List Act). Fine d n h x) (sym row.says)
    (fine_quiet d n h took _ tt refl s (λ t.
    fine_opened d n (took ∷ h) p Renew v _ (record {
      none = λ is. cc is;
      alone = λ other. absurd (other refl);
      access = λ station. access_peer (is_ap p) (is_ap n) a.taken.roles role;
      mobile = λ is. cc is;
      renewed = λ is. record { renewing = o.renewing; x = o.x; awaited = o.awaited; none = attempt_none p took h refl row.none };
      paid = t.paid;
    }) (size_nonce d n _) o.few t (λ u.
    fine_quiet d n begun (derives p i) _ (record {
      roles = a.taken.roles;
      listed = a.taken.listed;
      peer_listed = a.taken.peer_listed;
      alive = alive;
      address = ap (λ (x : Inputs). own_address n x) row.inputs_are ∙ inputs_address d [] n p v row.k.fields.nonce;
      peer = ap (λ (x : Inputs). peer_address n x) row.inputs_are ∙ inputs_peer d [] n p v row.k.fields.nonce;
      common = subst (λ (x : Inputs). AreCommon d x) (sym row.inputs_are) (inputs_common d [] n p v row.k.fields.nonce);
      key = refl;
      no_m3 = λ ap_role. not_station n ap_role role;
    }) refl u (λ w.
    fine_quiet d n (derives p i ∷ begun) (sent_m2_by true d n p (keyed_by i) row.k.fields.counter []) []
    (legal_m2 d n p (derives p i ∷ begun) i row.k.fields.counter [] true role (inl refl) size (alive_more n p begun i (derives p i) refl refl alive) (renewal_begun p (took ∷ h) v (derives p i) refl refl)) refl w (fine_none d n _)))))

-- an access point begins to renew the key of a session
pub renew_fine : (d : Domain) (n : Node) (h : List Act) (p : Node) (x : Derivation) (counter : ℕ) (v : List ℕ) → is_ap n ≡ true → renews d ≡ true → session p h ≡ Some x → attempt p h ≡ None → draws h < draw_end → length v ≡ 32 → Settled d n h
    → Fine d n h (Opened p Renew ∷ Drew (Nonce v) ∷ sent_m1 d n p counter v ∷ [])
renew_fine d n h p x counter v role renewing awaited none few size s =
    fine_opened d n h p Renew v (sent_m1 d n p counter v ∷ []) (record {
      none = λ is. cc is;
      alone = λ other. absurd (other refl);
      access = not_station n role;
      mobile = λ is. cc is;
      renewed = λ is. record { renewing = renewing; x = x; awaited = awaited; none = none };
      paid = s.paid;
    }) size few s (λ t.
    fine_quiet d n (Drew (Nonce v) ∷ Opened p Renew ∷ h) (sent_m1 d n p counter v) [] (legal_m1 d n p (Drew (Nonce v) ∷ Opened p Renew ∷ h) counter v (rw (same-refl p) (omega arith))) refl t (fine_none d n _))

-- in an attempt that renews a key the counter is the next of the session
pub counter_in : (p : Node) (h part : List Act) → is_by_renewal part ≡ true → next_counter p h part ≡ next_in_session p h
counter_in p h part begun = rw begun refl

pub m2_fine : (d : Domain) (first : ℕ) (n : Node) (h : List Act) (octets : List ℕ) (r : Reading) (facts : Facts) (g : List Act) → Reads d.akm octets r → LegalHistory d n h → Settled d n h → M2Row (here d first n) h octets r facts g → Fine d n h g
m2_fine d first n h octets r facts g reads legal s row =
    let a = arrived d first n row.p h octets r row.k facts row.is reads row.from row.accepted in
    let role : is_ap n ≡ true = access_of d n row.p h row.k Accepted a.taken (ap ack row.message_is) in
    let w = own_inputs d (r0kh_id d n) n row.p h row.part row.i row.k.fields.nonce legal s row.awaited row.inputs_are in
    let size : length row.i.anonce ≡ 32 = ap length (ap_nonce n row.i role) ∙ w.size in
    let drawn : HaveDrawn d h = s.started role a.taken.listed in
    let new : Newests d h = newests_are d n h legal drawn in
    let last : (which : GroupKind) → IsUsed d which → IsNewest which (newest which h).key h = λ which used. (let w : Newest which h = new which used in w.last) in
    let seal : Option Seal = Some (frame_seal (ptk row.i).kck row.k.octets) in
    let took : Act = Took (Some row.p) octets (kind.Key M2) Accepted seal in
    let none : before_sent row.p (kind.Key M3) h ≡ None = no_m3 d n row.p h row.part role legal row.awaited (m2_silent d n row.p h row.k row.part row.message_is a.taken row.awaited) in
    let verified : Verified n (derives row.p row.i ∷ took ∷ h) row.p row.i = record {
      derived = inl refl;
      from = Some row.p;
      octets = octets;
      kind = kind.Key M2;
      outcome = Accepted;
      covered = 1 ∷ without_mic row.k.octets;
      took = inr (inl refl);
      form = Of_key refl;
      direction = ap ack a.covers.message ∙ a.taken.direction;
    } in
    let own : own_nonce row.part ≡ Some (nonce_of n row.i) = w.drawn ∙ ap Some (sym (ap (nonce_of n) w.is ∙ inputs_own d (r0kh_id d n) n row.p w.v row.k.fields.nonce)) in
    let alive : Alive n (derives row.p row.i ∷ took ∷ h) row.p row.i = alive_more n row.p (took ∷ h) row.i (derives row.p row.i) refl refl (alive_took n row.p h row.part row.i (Some row.p) octets (kind.Key M2) Accepted seal row.awaited own) in
    let begun : in_renewal (attempt row.p (derives row.p row.i ∷ took ∷ h)) ≡ is_by_renewal row.part = two_more row.p took (derives row.p row.i) h row.part row.awaited refl refl refl refl in
    let seen : Seen d n (derives row.p row.i ∷ took ∷ h) row.p row.i = record {
      verified = verified;
      from_m2 = ap (λ (x : Message). kind.Key x) (a.covers.message ∙ row.message_is);
      secure = λ some bit. begun ∙ m2_tells d n row.p h row.k row.part row.message_is a.taken row.awaited some (sym a.covers.secure ∙ bit);
    } in
    let sends : SendsM3 d n (derives row.p row.i ∷ took ∷ h) row.p = record {
      part = derives row.p row.i ∷ took ∷ row.part;
      awaited = attempt_more row.p (derives row.p row.i) (took ∷ h) (took ∷ row.part) refl refl (attempt_more row.p took h row.part refl refl row.awaited);
      heard = rw (same-refl row.p) refl;
      few = (let zero_sent : sent_count row.p M3 (since row.p h) ≡ 0 = ap length (none_sent row.p (kind.Key M3) h none) in omega (arith, zero_sent));
      i = row.i;
      last = rw (same-refl row.p) refl;
      seen = seen;
      drawn = drawn;
    } in
    let current : Current n (derives row.p row.i ∷ took ∷ h) row.p row.i = record { alive = alive; last = rw (same-refl row.p) refl } in
    let now : in_renewal (attempt row.p (derives row.p row.i ∷ took ∷ h)) ≡ true → IsNow d row.p (derives row.p row.i ∷ took ∷ h) (next_counter row.p h row.part) h =
    λ sure. (counter_in row.p h row.part (sym begun ∙ sure), last) in
    let legal_now : LegalDerived d n (took ∷ h) row.p row.i (ptk row.i) = derived_by d (r0kh_id d n) n row.p h row.part (Some row.p) octets (kind.Key M2) Accepted seal row.i row.k.fields.nonce (both_of d n row.p h row.k Accepted a.taken) row.awaited w (λ ap_role. rw none refl) in
    let built : (which : GroupKind) → IsUsed d which → Built which n (derives row.p row.i ∷ took ∷ h) row.p row.i (newest which h).key =
    λ which used. record { past = derives row.p row.i ∷ took ∷ h; tail = tail_refl (derives row.p row.i ∷ took ∷ h); newest = last which used; verified = verified; alive = alive } in
    subst (λ (x : List Act). Fine d n h x) (sym row.says)
    (fine_quiet d n h took _ tt refl s (λ t.
    fine_quiet d n (took ∷ h) (derives row.p row.i) _ legal_now refl t (λ u.
    fine_quiet d n (derives row.p row.i ∷ took ∷ h) (sent_m3 d n row.p (keyed_by row.i) (next_counter row.p h row.part) (news d h)) []
    (legal_m3 d n row.p (derives row.p row.i ∷ took ∷ h) row.i (next_counter row.p h row.part) h role (legal_now, (tt, legal)) (inl refl) size new built current seen sends now s.ground a.taken.listed) refl u (fine_none d n _))))
