-- An access point takes an authentication request.
use Rattle.std.proofs.Common.{◌≡◌, ◌∙◌, ◌+◌, ◌<◌, ◌≤◌, ℕ, Bool, true, false, cond, List, [], ◌∷◌, ◌++◌, Option, Some, None, refl, sym, ap, subst}
use Rattle.std.specs.Prelude.{is_some, nat_lt, not, slice_get, Result, Ok, Err, if◌then◌else◌}
use Rattle.std.proofs.lemmas.Bool.{lt-ltb, le-ltb}
use Rattle.domain_base.specs.declared.names.Akm.TheVariants.{FtPsk}
use Rattle.domain_base.specs.declared.names.Node.{Node}
use Rattle.domain_base.specs.declared.names.Node.TheVariants.{Ap, Sta}
use Rattle.domain_base.specs.declared.names.Peer.TheVariants.{One}
use Rattle.key_hierarchy.specs.declared.inputs.Inputs.{Inputs}
use Rattle.key_hierarchy.specs.declared.inputs.Ptk.{Ptk}
use Rattle.key_hierarchy.specs.declared.answers.PullAnswer.{PullAnswer}
use Rattle.key_hierarchy.specs.declared.answers.PullAnswer.TheVariants.{Found, NoHolder, Absent}
use Rattle.key_hierarchy.specs.declared.fast_transition.PmkR1.{PmkR1}
use Rattle.key_holders.specs.Pulls.{ByHolder}
use Rattle.air_frame.specs.Sent.{ft_resp_octets}
use Rattle.rsn_elements.specs.Elements.{ElementFields}
use Rattle.run_journal.specs.declared.domain.Domain.{Domain}
use Rattle.run_journal.specs.Events.{protects}
use Rattle.run_journal.specs.declared.acts.Start.TheVariants.{Roam}
use Rattle.run_journal.specs.declared.acts.Drawn.TheVariants.{Nonce}
use Rattle.run_journal.specs.declared.acts.Kind.{Kind}
use Rattle.run_journal.specs.declared.acts.Kind.TheVariants as kind
use Rattle.run_journal.specs.declared.acts.Reason.{Reason}
use Rattle.run_journal.specs.declared.acts.Reason.TheVariants as reason
use Rattle.run_journal.specs.declared.acts.Outcome.{Outcome}
use Rattle.run_journal.specs.declared.acts.Outcome.TheVariants.{Accepted, Answered, Refused}
use Rattle.run_journal.specs.declared.acts.Seal.{Seal}
use Rattle.run_journal.specs.declared.acts.Act.{Act}
use Rattle.run_journal.specs.declared.acts.Act.TheVariants.{Opened, Drew, Derived, Took, Sent, Looked}
use Rattle.run_journal.specs.declared.reply.Reply.{Reply}
use Rattle.run_journal.specs.declared.reply.Keyed.{Keyed}
use Rattle.run_journal.specs.Replies.{IsWhole}
use Rattle.run_journal.specs.Questions.{attempt, draws, add}
use Rattle.run_journal.specs.Holders.{Stored}
use Rattle.domain_rules.specs.Facts.{Facts}
use Rattle.domain_rules.specs.Network.{Root, mac, holder_of, root_at, draw_end, inputs_at}
use Rattle.domain_rules.specs.Frames.{aid}
use Rattle.domain_rules.specs.Closing.{close_attempt, next_nonce, sender}
use Rattle.domain_rules.specs.Reading.{Management, Reading, Managed}
use Rattle.domain_rules.specs.FastTransition.{single, plain_fte}
use Rattle.domain_rules.specs.TransitionFrames.{sent_ft_resp}
use Rattle.domain_rules.specs.TransitionKeys.{Asked, asked, repeats, transition, transition_in, asked_verdict, ft_req_verdict, pulled_verdict, ft_req_further}
use Rattle.domain_rules.specs.TransitionRows.{derived_from, sent_again, look_answer, looked_by, looked_for, look_of_kind, refused_look}
use Rattle.domain_rules.specs.Verdict.{management_sender, Knows, comes_so_far, first_verdict, further, and_then, verdict}
use Rattle.domain_rules.specs.Rows.{TakeRow, By_ft_req, By_repeated_ft_req, By_refusal, management_seal, refused_seal, refused_status, response_by, response}
use Rattle.domain_rules.specs.Here.{here}
use Rattle.domain_rules.specs.Replies.{inputs_by, derived_acts}
use Rattle.domain_rules.proofs.Parts.{same-refl, add_append}
use Rattle.domain_rules.proofs.Unprotected.{reads_so}
use Rattle.ft_exchange.specs.Asking.{is_pending_repeated, unnamed_reason, granted_by, ids_of, IsDrawn}
use Rattle.ft_exchange.specs.Comes.{IsManagementFrom}
use Rattle.ft_exchange.specs.Judged.{status_first, unless, request_reason}
use Rattle.ft_exchange.specs.Elements.{elements_status}
use Rattle.ft_exchange.specs.Refusals.{RefusesAuth}
use Rattle.ft_exchange.specs.Sent.{named_elements, HasFrame}
use Rattle.ft_exchange.specs.State.{TargetState}
use Rattle.ft_exchange.specs.Stands.{transition_of, IsPlace, IsPending, IsHeldOrPending, PendingStands}
use Rattle.ft_exchange.specs.Exchange.{key_granted, granting_octets, target_granted, Begins, IsQuiet}
use Rattle.ft_exchange.specs.TargetSteps.{root_asked, HasBegun, IsAuthTaken}
use Rattle.ft_exchange.specs.Topics.{TellsOnly, auth_request_topics}
use Rattle.ft_exchange.specs.Told.{came, transition_sent, begun_acts, auth_request_acts}
use Rattle.ft_exchange.specs.declared.looking.Granted.{Granted}
use Rattle.ft_exchange.specs.declared.place.Place.{Place}
use Rattle.ft_exchange.proofs.HolderIds.{no_holder, some_holder}
use Rattle.ft_exchange.proofs.FramesSent.{frame_sent}
use Rattle.ft_exchange.proofs.StationFrames.{root_is}
use Rattle.ft_exchange.proofs.StationRows.{first_kind, verdict_kind}
use Rattle.ft_exchange.proofs.TargetFrames.{auth_refusal}
use Rattle.ft_exchange.proofs.TargetStanding.{took_passes, sent_passes, looked_passes, pending_stands_more}
use Rattle.ft_exchange.proofs.TargetVerdicts.{other_suite, repeats_is, req_refused, req_asked}

-- ---- refusals

-- what is known of a request
abbrev pub facts_of : Option PmkR1 → Facts
facts_of k = record { requested = None; responded = None; unwrapped = None; data_ = None; pulled = k; opened = None; unwrapped_igtk = None; kept = 0 }

-- the refusal of a request, with what was looked up before it
pub record IsRefusedWith (d : Domain) (first : ℕ) (n p : Node) (h : List Act) (b : Management) (e : ElementFields) (why : Reason) (looked : Option PullAnswer) : Type 0 where
  pub pulled : Option PmkR1
  pub knows : Knows d first n h (Managed b e) (facts_of pulled)
  pub refused : verdict d first n h (Managed b e) (facts_of pulled) ≡ Refused why
  pub unsealed : None ≡ refused_seal d first n h (Managed b e)
  pub look : looked_for p (asked e) looked ≡ looked_for p (asked e) (look_answer why pulled)

acts_shape : (t : Act) (p : Node) (x : Option Asked) (z : Option PullAnswer) (l : List Act) → t ∷ looked_for p x z ++ [] ++ [] ++ l ≡ t ∷ looked_for p x z ++ l
acts_shape t p None z l = refl
acts_shape t p (Some x) z l = by (single x.names) z
  where
    by : (n : Option (List ℕ)) (z : Option PullAnswer) → t ∷ looked_by p x n z ++ [] ++ [] ++ l ≡ t ∷ looked_by p x n z ++ l
    by None z = refl
    by (Some name) None = refl
    by (Some name) (Some y) = refl

refusal_acts : (d : Domain) (root : Root) (n p : Node) (part : Option (List Act)) (octets : List ℕ) (e : ElementFields) (why : Reason) (r : Reply) → r.derived ≡ None
    → transition_sent d n p r ≡ response_by d n p kind.FtReq (refused_status why)
    → auth_request_acts d root n p part (came octets e (Refused why)) r ≡ Took (Some p) octets kind.FtReq (Refused why) None ∷ looked_for p (asked e) r.looked ++ response_by d n p kind.FtReq (refused_status why)
refusal_acts d root n p part octets e why r derived sends =
    ap (λ (y : Option Keyed). Took (Some p) octets kind.FtReq (Refused why) None ∷ looked_for p (asked e) r.looked ++ begun_acts p part y ++ derived_acts d root n p y ++ transition_sent d n p r) derived
    ∙ acts_shape (Took (Some p) octets kind.FtReq (Refused why) None) p (asked e) r.looked (transition_sent d n p r)
    ∙ ap (λ (l : List Act). Took (Some p) octets kind.FtReq (Refused why) None ∷ looked_for p (asked e) r.looked ++ l) sends

adds_refusal : (d : Domain) (first a sta : ℕ) (octets : List ℕ) (b : Management) (e : ElementFields) (h : List Act) (why : Reason) (looked : Option PullAnswer) → IsManagementFrom d (Ap a) (Sta sta) octets b e → b.kind ≡ kind.FtReq
    → IsRefusedWith d first (Ap a) (Sta sta) h b e why looked
    → TakeRow (here d first (Ap a)) h octets (Took (Some (Sta sta)) octets kind.FtReq (Refused why) None ∷ looked_for (Sta sta) (asked e) looked ++ response_by d (Ap a) (Sta sta) kind.FtReq (refused_status why))
adds_refusal d first a sta octets b e h why looked from is f = record {
  r = Managed b e;
  reads = reads_so d octets (Managed b e) refl from.reads;
  facts = facts_of f.pulled;
  knows = f.knows;
  row = By_refusal (record {
    why = why;
    refused = f.refused;
    says = ap (λ (l : List Act). Took (Some (Sta sta)) octets kind.FtReq (Refused why) None ∷ l ++ response_by d (Ap a) (Sta sta) kind.FtReq (refused_status why)) f.look
        ∙ ap (λ (k : Kind). Took (Some (Sta sta)) octets k (Refused why) None ∷ refused_look_by k ++ response d (Ap a) (Some (Sta sta)) k why) (sym is)
        ∙ ap (λ (q : Option Node). Took q octets b.kind (Refused why) None ∷ refused_look (Ap a) q (Managed b e) f.pulled why ++ response d (Ap a) q b.kind why) (sym from.from)
        ∙ ap (λ (x : Option Seal). Took (sender d (Ap a) (Managed b e)) octets b.kind (Refused why) x ∷ refused_look (Ap a) (sender d (Ap a) (Managed b e)) (Managed b e) f.pulled why ++ response d (Ap a) (sender d (Ap a) (Managed b e)) b.kind why) f.unsealed;
  });
}
  where
    refused_look_by : Kind → List Act
    refused_look_by k = look_of_kind k (Sta sta) e (look_answer why f.pulled)

looks_stand : (d : Domain) (n p : Node) (o : Option TargetState) (x : Option Asked) (answer : Option PullAnswer) (h : List Act) → PendingStands d n p o h → PendingStands d n p o (add (looked_for p x answer) h)
looks_stand d n p o None answer h st = st
looks_stand d n p o (Some x) answer h st = by (single x.names) answer
  where
    by : (name : Option (List ℕ)) (answer : Option PullAnswer) → PendingStands d n p o (add (looked_by p x name answer) h)
    by None answer = st
    by (Some name) None = st
    by (Some name) (Some y) = pending_stands_more d n p o (Looked x.r0kh_id name p y) h (looked_passes p x.r0kh_id name p y) st

answer_stands : (d : Domain) (n p : Node) (o : Option TargetState) (c : Option ℕ) (h : List Act) → PendingStands d n p o h → PendingStands d n p o (add (response_by d n p kind.FtReq c) h)
answer_stands d n p o None h st = st
answer_stands d n p o (Some code) h st = pending_stands_more d n p o _ h (sent_passes p p kind.FtResp _ None) st

refusal_stands : (d : Domain) (n p : Node) (o : Option TargetState) (octets : List ℕ) (e : ElementFields) (why : Reason) (looked : Option PullAnswer) (h : List Act) → PendingStands d n p o h
    → PendingStands d n p o (add (Took (Some p) octets kind.FtReq (Refused why) None ∷ looked_for p (asked e) looked ++ response_by d n p kind.FtReq (refused_status why)) h)
refusal_stands d n p o octets e why looked h st =
    let took : PendingStands d n p o (Took (Some p) octets kind.FtReq (Refused why) None ∷ h) = pending_stands_more d n p o (Took (Some p) octets kind.FtReq (Refused why) None) h (took_passes p (Some p) octets kind.FtReq (Refused why) None) st in
    subst (λ (l : List Act). PendingStands d n p o l) (sym (add_append (looked_for p (asked e) looked) (response_by d n p kind.FtReq (refused_status why)) (Took (Some p) octets kind.FtReq (Refused why) None ∷ h)))
    (answer_stands d n p o (refused_status why) _ (looks_stand d n p o (asked e) looked _ took))

-- after each history it is refused so, with what was looked up
abbrev pub RefusesIt : Domain → ℕ → ℕ → ElementFields → Option (List ℕ) → Option TargetState → Reason → Option PullAnswer → Type 0
RefusesIt d a sta e anonce o why looked =
    (first : ℕ) (octets : List ℕ) (b : Management) (h : List Act) → PendingStands d (Ap a) (Sta sta) o h → IsManagementFrom d (Ap a) (Sta sta) octets b e → b.kind ≡ kind.FtReq → IsDrawn d first (Ap a) h anonce
    → IsRefusedWith d first (Ap a) (Sta sta) h b e why looked

auth_refused : (d : Domain) (a sta : ℕ) (e : ElementFields) (anonce : Option (List ℕ)) (o : Option TargetState) (why : Reason) (looked : Option PullAnswer) (w : Place) (old r : Reply) → w.own ≡ mac d (Ap a) → w.peer ≡ mac d (Sta sta)
    → old.len ≡ 0 → TellsOnly (auth_request_topics (Refused why)) r → r.looked ≡ looked → IsWhole r → RefusesAuth w why old r → RefusesIt d a sta e anonce o why looked → IsAuthTaken d a sta e anonce o o (Refused why) r
auth_refused d a sta e anonce o why looked w old r own peer none tells look whole answers refuses = record {
  steps = λ first octets b h st from is drawn.
      (let n : Node = Ap a in
      let p : Node = Sta sta in
      let acts = sym (refusal_acts d (root_asked d p (asked e)) n p (attempt p h) octets e why r tells.derived (auth_refusal d n p w why old r own peer none answers)
      ∙ ap (λ (z : Option PullAnswer). Took (Some p) octets kind.FtReq (Refused why) None ∷ looked_for p (asked e) z ++ response_by d n p kind.FtReq (refused_status why)) look)
      in
      record {
        adds = subst (λ (l : List Act). TakeRow (here d first n) h octets l) acts (adds_refusal d first a sta octets b e h why looked from is (refuses first octets b h st from is drawn));
        stands = subst (λ (l : List Act). PendingStands d n p o (add l h)) acts (refusal_stands d n p o octets e why looked h st);
      });
  refused = λ y is. refl;
  tells = tells;
  begun = subst (λ (z : Option Keyed). HasBegun z o o) (sym tells.derived) refl;
  whole = whole;
}

-- a request has no MIC
unsealed : (d : Domain) (first a : ℕ) (b : Management) (e : ElementFields) (h : List Act) → b.kind ≡ kind.FtReq → None ≡ refused_seal d first (Ap a) h (Managed b e)
unsealed d first a b e h is =
    sym (ap (λ (k : Kind). cond (comes_so_far (first_verdict d first (Ap a) h (Managed b e))) (management_seal d (Ap a) h b e k (management_sender d (Ap a) b.header)) None) is ∙ both (comes_so_far (first_verdict d first (Ap a) h (Managed b e))))
  where
    both : (x : Bool) → cond x (management_seal d (Ap a) h b e kind.FtReq (management_sender d (Ap a) b.header)) None ≡ None
    both true = refl
    both false = refl

knows_it : (d : Domain) (first a : ℕ) (b : Management) (e : ElementFields) (h : List Act) (k : Option PmkR1) → Knows d first (Ap a) h (Managed b e) (facts_of k)
knows_it d first a b e h k = λ so q peer. tt

first_out : (d : Domain) (first : ℕ) (n : Node) (h : List Act) (r : Reading) (facts : Facts) (why : Reason) → first_verdict d first n h r ≡ Refused why → verdict d first n h r facts ≡ Refused why
first_out d first n h r facts why is = ap (λ (x : Outcome). and_then x (further d first n h r facts)) is

-- refused before anything is looked up
refused_early : (d : Domain) (first a sta : ℕ) (octets : List ℕ) (b : Management) (e : ElementFields) (h : List Act) (why : Reason) → IsManagementFrom d (Ap a) (Sta sta) octets b e → b.kind ≡ kind.FtReq
    → ft_req_verdict d h (Sta sta) e ≡ Refused why → looked_for (Sta sta) (asked e) None ≡ looked_for (Sta sta) (asked e) (look_answer why None) → IsRefusedWith d first (Ap a) (Sta sta) h b e why None
refused_early d first a sta octets b e h why from is judged look =
    record {
      pulled = None;
      knows = knows_it d first a b e h None;
      refused = first_out d first (Ap a) h (Managed b e) (facts_of None) why (first_kind d first (Ap a) (Sta sta) octets b e h kind.FtReq from is ∙ judged);
      unsealed = unsealed d first a b e h is;
      look = look;
    }

-- by its elements
status_only : (protected : Bool) (mdid : List ℕ) (e : ElementFields) (why : Reason) → request_reason protected mdid e ≡ Some why → look_answer why None ≡ None
status_only protected mdid e why is = by (elements_status protected mdid e) (is_some (asked e)) is
  where
    by : (c : Option ℕ) (b : Bool) → status_first c (unless b (reason.Status 55) None) ≡ Some why → look_answer why None ≡ None
    by (Some code) b is = ap (λ (w : Reason). look_answer w None) (let same : why ≡ reason.Status code = cc in same)
    by None false is = ap (λ (w : Reason). look_answer w None) (let same : why ≡ reason.Status 55 = cc in same)
    by None true is = absurd cc

pub auth_elements : (d : Domain) (a sta : ℕ) (e : ElementFields) (anonce : Option (List ℕ)) (o : Option TargetState) (why : Reason) (w : Place) (old r : Reply) → d.akm ≡ FtPsk → request_reason (protects d) d.mdid e ≡ Some why → IsPlace d (Ap a) (Sta sta) w
    → old.len ≡ 0 → TellsOnly (auth_request_topics (Refused why)) r → r.looked ≡ None → IsWhole r → RefusesAuth w why old r → IsAuthTaken d a sta e anonce o o (Refused why) r
auth_elements d a sta e anonce o why w old r suite right at none tells look whole answers = auth_refused d a sta e anonce o why None w old r at.own at.peer none tells look whole answers
    (λ first octets b h st from is drawn. refused_early d first a sta octets b e h why from is (req_refused d h (Sta sta) e why suite right) (ap (λ (z : Option PullAnswer). looked_for (Sta sta) (asked e) z) (sym (status_only (protects d) d.mdid e why right))))

quiet_tells : (r : Reply) → IsQuiet None r → TellsOnly (auth_request_topics (Refused reason.Unawaited)) r
quiet_tells r q = record { frame = tt; sealed = q.sealed; verified = q.verified; derived = q.derived; installed = q.installed; gtk = q.gtk; igtk = q.igtk; looked = tt }

-- with another suite
pub auth_other : (d : Domain) (a sta : ℕ) (e : ElementFields) (anonce : Option (List ℕ)) (o : Option TargetState) (r : Reply) → (d.akm ≡ FtPsk → ⊥) → IsQuiet None r → IsWhole r
    → IsAuthTaken d a sta e anonce o o (Refused reason.Unawaited) r
auth_other d a sta e anonce o r other q whole = auth_refused d a sta e anonce o reason.Unawaited None
    (record { own = mac d (Ap a); peer = mac d (Sta sta); aid = aid (Sta sta); mdid = d.mdid; mfp = protects d }) r r refl refl q.len (quiet_tells r q) q.looked whole refl
    (λ first octets b h st from is drawn. refused_early d first a sta octets b e h reason.Unawaited from is (other_suite d.akm d (transition (Sta sta) h) e other) refl)

-- a request that asks for that, and repeats none
pub record Asks (d : Domain) (e : ElementFields) (o : Option TargetState) (x : Asked) : Type 0 where
  pub suite : d.akm ≡ FtPsk
  pub right : request_reason (protects d) d.mdid e ≡ None
  pub asks : asked e ≡ Some x
  pub fresh : is_pending_repeated x o ≡ false

judged_as_asked : (d : Domain) (a sta : ℕ) (e : ElementFields) (o : Option TargetState) (x : Asked) (h : List Act) → Asks d e o x → PendingStands d (Ap a) (Sta sta) o h → ft_req_verdict d h (Sta sta) e ≡ asked_verdict d x false
judged_as_asked d a sta e o x h k st = req_asked d h (Sta sta) e x false k.suite k.right k.asks (repeats_is d a (Sta sta) o h x k.suite st ∙ k.fresh)

-- it asks for no single name
unnamed_judged : (b : Bool) (n : Option (List ℕ)) → n ≡ None → (if not b then Refused reason.NoHolder else if is_some n then Accepted else Refused reason.Name) ≡ Refused (if b then reason.Name else reason.NoHolder)
unnamed_judged true n is = rw is refl
unnamed_judged false n is = refl

unnamed_look : (p : Node) (e : ElementFields) (x : Asked) (z : Option PullAnswer) → asked e ≡ Some x → single x.names ≡ None → looked_for p (asked e) None ≡ looked_for p (asked e) z
unnamed_look p e x z asks none = rw (asks, none) refl

pub auth_unnamed : (d : Domain) (a sta : ℕ) (e : ElementFields) (anonce : Option (List ℕ)) (o : Option TargetState) (x : Asked) (w : Place) (old r : Reply) → Asks d e o x → single x.names ≡ None → IsPlace d (Ap a) (Sta sta) w
    → old.len ≡ 0 → TellsOnly (auth_request_topics (Refused (unnamed_reason d x.r0kh_id))) r → r.looked ≡ None → IsWhole r → RefusesAuth w (unnamed_reason d x.r0kh_id) old r → IsAuthTaken d a sta e anonce o o (Refused (unnamed_reason d x.r0kh_id)) r
auth_unnamed d a sta e anonce o x w old r k unnamed at none tells look whole answers = auth_refused d a sta e anonce o (unnamed_reason d x.r0kh_id) None w old r at.own at.peer none tells look whole answers
    (λ first octets b h st from is drawn. refused_early d first a sta octets b e h (unnamed_reason d x.r0kh_id) from is
    (judged_as_asked d a sta e o x h k st ∙ unnamed_judged (is_some (holder_of d x.r0kh_id)) (single x.names) unnamed)
    (unnamed_look (Sta sta) e x (look_answer (unnamed_reason d x.r0kh_id) None) k.asks unnamed))

-- ---- what key holders answer

-- whether some access point has the R0KH-ID, by the answer
abbrev pub IsKnownBy : Domain → List ℕ → PullAnswer → Type 0
IsKnownBy d id NoHolder = is_some (holder_of d id) ≡ false
IsKnownBy d id (Found k) = is_some (holder_of d id) ≡ true
IsKnownBy d id Absent = is_some (holder_of d id) ≡ true

pub known_by : (d : Domain) (ids : List (List ℕ)) (id : List ℕ) (Of : ℕ → PullAnswer → Type 0) (answer : PullAnswer) → ids ≡ ids_of d → ByHolder ids id Of answer → IsKnownBy d id answer
known_by d ids id Of NoHolder is none = no_holder d id (λ r there. none r (ap (λ (l : List (List ℕ)). slice_get l r) is ∙ there))
known_by d ids id Of (Found k) is has = some_holder d id has.0 (ap (λ (l : List (List ℕ)). slice_get l has.0) (sym is) ∙ has.1)
known_by d ids id Of Absent is has = some_holder d id has.0 (ap (λ (l : List (List ℕ)). slice_get l has.0) (sym is) ∙ has.1)

first_known : (d : Domain) (x : Asked) (name : List ℕ) → single x.names ≡ Some name → is_some (holder_of d x.r0kh_id) ≡ true → asked_verdict d x false ≡ Accepted
first_known d x name named known = rw (known, named) refl

first_unknown : (d : Domain) (x : Asked) → is_some (holder_of d x.r0kh_id) ≡ false → asked_verdict d x false ≡ Refused reason.NoHolder
first_unknown d x unknown = rw unknown refl

further_asked : (drawn : ℕ) (h : List Act) (p : Node) (e : ElementFields) (x : Asked) (k : Option PmkR1) → asked e ≡ Some x → repeats x (transition p h) ≡ false → ft_req_further drawn h p e k ≡ pulled_verdict drawn k
further_asked drawn h p e x k asks fresh = rw (asks, fresh) refl

no_more : (d : Domain) (first a : ℕ) (h : List Act) → draw_end ≤ first + draws h → nat_lt (first + draws h) draw_end ≡ false
no_more d first a h past = le-ltb (first + draws h) draw_end past

refused_late : (d : Domain) (first a sta : ℕ) (octets : List ℕ) (b : Management) (e : ElementFields) (h : List Act) (o : Option TargetState) (x : Asked) (name : List ℕ) (k : Option PmkR1) (why : Reason) (answer : PullAnswer) → Asks d e o x → single x.names ≡ Some name
    → is_some (holder_of d x.r0kh_id) ≡ true → PendingStands d (Ap a) (Sta sta) o h → IsManagementFrom d (Ap a) (Sta sta) octets b e → b.kind ≡ kind.FtReq
    → pulled_verdict (first + draws h) k ≡ Refused why → look_answer why k ≡ Some answer → IsRefusedWith d first (Ap a) (Sta sta) h b e why (Some answer)
refused_late d first a sta octets b e h o x name k why answer y named known st from is refuses look = record {
  pulled = k;
  knows = knows_it d first a b e h k;
  refused = verdict_kind d first (Ap a) (Sta sta) octets b e h kind.FtReq (facts_of k) Accepted (Refused why) from is
      (first_kind d first (Ap a) (Sta sta) octets b e h kind.FtReq from is ∙ judged_as_asked d a sta e o x h y st ∙ first_known d x name named known)
      (further_asked (first + draws h) h (Sta sta) e x k y.asks (repeats_is d a (Sta sta) o h x y.suite st ∙ y.fresh) ∙ refuses);
  unsealed = unsealed d first a b e h is;
  look = ap (λ (z : Option PullAnswer). looked_for (Sta sta) (asked e) z) (sym look);
}

-- each refusal by an answer
pub auth_unheld : (d : Domain) (a sta : ℕ) (e : ElementFields) (anonce : Option (List ℕ)) (o : Option TargetState) (x : Asked) (name : List ℕ) (answer : PullAnswer) (why : Reason) (w : Place) (old r : Reply) → Asks d e o x → single x.names ≡ Some name
    → IsKnownBy d x.r0kh_id answer → granted_by answer name anonce ≡ Err why → IsPlace d (Ap a) (Sta sta) w
    → old.len ≡ 0 → TellsOnly (auth_request_topics (Refused why)) r → r.looked ≡ Some answer → IsWhole r → RefusesAuth w why old r → IsAuthTaken d a sta e anonce o o (Refused why) r
auth_unheld d a sta e anonce o x name answer why w old r k named known grants at none tells look whole answers =
    auth_refused d a sta e anonce o why (Some answer) w old r at.own at.peer none tells look whole answers (by answer anonce known grants)
  where
    by : (y : PullAnswer) (v : Option (List ℕ)) → IsKnownBy d x.r0kh_id y → granted_by y name v ≡ Err why → RefusesIt d a sta e v o why (Some y)
    by NoHolder v unknown grants first octets b h st from is drawn = subst (λ (z : Reason). IsRefusedWith d first (Ap a) (Sta sta) h b e z (Some NoHolder)) (let same : reason.NoHolder ≡ why = cc in same)
        (record {
          pulled = None;
          knows = knows_it d first a b e h None;
          refused = first_out d first (Ap a) h (Managed b e) (facts_of None) reason.NoHolder
              (first_kind d first (Ap a) (Sta sta) octets b e h kind.FtReq from is ∙ judged_as_asked d a sta e o x h k st ∙ first_unknown d x unknown);
          unsealed = unsealed d first a b e h is;
          look = refl;
        })
    by Absent v has grants first octets b h st from is drawn = subst (λ (z : Reason). IsRefusedWith d first (Ap a) (Sta sta) h b e z (Some Absent)) (let same : reason.Name ≡ why = cc in same)
        (refused_late d first a sta octets b e h o x name None reason.Name Absent k named has st from is refl refl)
    by (Found r1) None has grants first octets b h st from is drawn = subst (λ (z : Reason). IsRefusedWith d first (Ap a) (Sta sta) h b e z (Some (Found r1))) (let same : reason.Spent ≡ why = cc in same)
        (refused_late d first a sta octets b e h o x name (Some r1) reason.Spent (Found r1) k named has st from is (ap (λ (z : Bool). if z then Accepted else Refused reason.Spent) (no_more d first a h drawn)) refl)
    by (Found r1) (Some v) has grants first octets b h st from is drawn = absurd cc

-- ---- a repeated request is answered

pub auth_repeated : (d : Domain) (a sta : ℕ) (e : ElementFields) (anonce : Option (List ℕ)) (s : TargetState) (x : Asked) (r : Reply) → d.akm ≡ FtPsk → request_reason (protects d) d.mdid e ≡ None → asked e ≡ Some x → is_pending_repeated x (Some s) ≡ true
    → HasFrame s.stored kind.FtResp None r → TellsOnly (auth_request_topics Answered) r → IsAuthTaken d a sta e anonce (Some s) (Some s) Answered r
auth_repeated d a sta e anonce s x r suite right asks again f tells = record {
  steps = λ first octets b h st from is drawn.
      (let n : Node = Ap a in
      let p : Node = Sta sta in
      let i : IsPending d n p s h = subst (λ (z : Bool). IsHeldOrPending z d n p s h) st.0 st.1.holds in
      let repeated : repeats x (transition p h) ≡ true = repeats_is d a p (Some s) h x suite st ∙ again in
      let took : Act = Took (Some p) octets kind.FtReq Answered None in
      let says : Act = Sent (One p) kind.FtResp s.stored None in
      let acts : took ∷ says ∷ [] ≡ auth_request_acts d (root_asked d p (asked e)) n p (attempt p h) (came octets e Answered) r =
      sym (answering_is d (root_asked d p (asked e)) n p (attempt p h) octets e s r f tells.derived tells.looked)
      in
      record {
        adds = subst (λ (l : List Act). TakeRow (here d first n) h octets l) acts (record {
          r = Managed b e;
          reads = reads_so d octets (Managed b e) refl from.reads;
          facts = facts_of None;
          knows = knows_it d first a b e h None;
          row = By_repeated_ft_req (record {
            b = b;
            e = e;
            is = refl;
            kind_is = is;
            p = p;
            from = from.from;
            answered = verdict_kind d first n p octets b e h kind.FtReq (facts_of None) Answered Accepted from is
                (first_kind d first n p octets b e h kind.FtReq from is ∙ req_asked d h p e x true suite right asks repeated) (further_repeated (first + draws h) h p e x None asks repeated);
            part = i.part;
            awaited = i.awaited;
            says = ap (λ (z : Option Stored). took ∷ sent_again p kind.FtResp z) (sym i.stored);
          });
        });
        stands = subst (λ (l : List Act). PendingStands d n p (Some s) (add l h)) acts
            (pending_stands_more d n p (Some s) says (took ∷ h) (sent_passes p p kind.FtResp s.stored None) (pending_stands_more d n p (Some s) took h (took_passes p (Some p) octets kind.FtReq Answered None) st));
      });
  refused = λ w is. absurd cc;
  tells = tells;
  begun = subst (λ (z : Option Keyed). HasBegun z (Some s) (Some s)) (sym tells.derived) refl;
  whole = f.whole;
}
  where
    nothing_looked : (p : Node) (z : Option Asked) → looked_for p z None ≡ []
    nothing_looked p None = refl
    nothing_looked p (Some y) = by (single y.names)
      where
        by : (n : Option (List ℕ)) → looked_by p y n None ≡ []
        by None = refl
        by (Some name) = refl

    answering_is : (d : Domain) (root : Root) (n p : Node) (part : Option (List Act)) (octets : List ℕ) (e : ElementFields) (s : TargetState) (r : Reply) → HasFrame s.stored kind.FtResp None r → r.derived ≡ None → r.looked ≡ None
        → auth_request_acts d root n p part (came octets e Answered) r ≡ Took (Some p) octets kind.FtReq Answered None ∷ Sent (One p) kind.FtResp s.stored None ∷ []
    answering_is d root n p part octets e s r f derived look = rw (derived, look, nothing_looked p (asked e), frame_sent d n p s.stored kind.FtResp None r f) refl

    further_repeated : (drawn : ℕ) (h : List Act) (p : Node) (e : ElementFields) (x : Asked) (k : Option PmkR1) → asked e ≡ Some x → repeats x (transition p h) ≡ true → ft_req_further drawn h p e k ≡ Accepted
    further_repeated drawn h p e x k asks again = rw (asks, again) refl

-- ---- a request is accepted

-- the key, and what it is made of
abbrev pub inputs_granted : Domain → ℕ → ℕ → Place → Asked → Granted → Inputs
inputs_granted d a sta w x g = inputs_by d (root_at d (Sta sta) x.r0kh_id) (Ap a) (Sta sta) (key_granted w x g)

ptk_is : (d : Domain) (a sta : ℕ) (w : Place) (x : Asked) (g : Granted) → IsPlace d (Ap a) (Sta sta) w → (key_granted w x g).ptk ≡ (derived_from g.r1 (inputs_granted d a sta w x g)).ptk
ptk_is d a sta w x g at = rw (at.own, at.peer) refl

response_is : (d : Domain) (a sta : ℕ) (w : Place) (x : Asked) (g : Granted) (r : Reply) → d.akm ≡ FtPsk → IsPlace d (Ap a) (Sta sta) w → HasFrame (granting_octets w x g) kind.FtResp None r
    → transition_sent d (Ap a) (Sta sta) r ≡ sent_ft_resp d (Ap a) (Sta sta) g.asked (inputs_granted d a sta w x g) ∷ []
response_is d a sta w x g r suite at f =
    frame_sent d (Ap a) (Sta sta) (granting_octets w x g) kind.FtResp None r f
    ∙ ap (λ (b : Bool). Sent (One (Sta sta)) kind.FtResp (ft_resp_octets w.peer.0 w.own.0 w.own.0 0 (named_elements b g.asked w.mdid (plain_fte g.anonce x.snonce (Some w.own.0) x.r0kh_id))) None ∷ []) at.mfp_is
    ∙ rw (root_is d (Sta sta) x.r0kh_id suite, suite, at.own, at.peer, at.mdid) refl

abbrev pub granting_acts : Node → Option (List Act) → List ℕ → Asked → Granted → Inputs → Ptk → Act → List Act
granting_acts p part octets x g i k says =
    Took (Some p) octets kind.FtReq Accepted None ∷ Looked x.r0kh_id g.asked p (Found g.r1) ∷ close_attempt p part ++ Opened p Roam ∷ Drew (Nonce g.anonce) ∷ Derived p i k ∷ says ∷ []

granting_is : (d : Domain) (a sta : ℕ) (part : Option (List Act)) (octets : List ℕ) (e : ElementFields) (w : Place) (x : Asked) (g : Granted) (r : Reply) (says : Act) → asked e ≡ Some x → single x.names ≡ Some g.asked → r.looked ≡ Some (Found g.r1)
    → r.derived ≡ Some (key_granted w x g) → transition_sent d (Ap a) (Sta sta) r ≡ says ∷ []
    → auth_request_acts d (root_asked d (Sta sta) (asked e)) (Ap a) (Sta sta) part (came octets e Accepted) r ≡ granting_acts (Sta sta) part octets x g (inputs_granted d a sta w x g) (key_granted w x g).ptk says
granting_is d a sta None octets e w x g r says asks named look derived sends = rw (asks, named, look, derived, sends) refl
granting_is d a sta (Some part) octets e w x g r says asks named look derived sends = rw (asks, named, look, derived, sends) refl

granted_stands : (d : Domain) (a sta : ℕ) (part : Option (List Act)) (octets : List ℕ) (w : Place) (x : Asked) (g : Granted) (h : List Act) → d.akm ≡ FtPsk → IsPlace d (Ap a) (Sta sta) w
    → PendingStands d (Ap a) (Sta sta) (Some (target_granted w x g))
    (add (granting_acts (Sta sta) part octets x g (inputs_granted d a sta w x g) (key_granted w x g).ptk (Sent (One (Sta sta)) kind.FtResp (granting_octets w x g) None)) h)
granted_stands d a sta part octets w x g h suite at = (refl, record { suite = suite; place = at; holds = by part })
  where
    p : Node
    p = Sta sta

    says : Act
    says = Sent (One p) kind.FtResp (granting_octets w x g) None

    has : Act
    has = Derived p (inputs_granted d a sta w x g) (key_granted w x g).ptk

    begun : List Act
    begun = says ∷ has ∷ Drew (Nonce g.anonce) ∷ Opened p Roam ∷ []

    later : Option (List Act) → List Act
    later part = add (granting_acts p part octets x g (inputs_granted d a sta w x g) (key_granted w x g).ptk says) h

    awaits : (part : Option (List Act)) → attempt p (later part) ≡ Some begun
    awaits None = rw (same-refl p) refl
    awaits (Some old) = rw (same-refl p) refl

    made : (part : Option (List Act)) → transition_in p (later part) (Some begun) ≡ Some (transition_of d (Ap a) p (target_granted w x g))
    made None = rw (same-refl p) refl
    made (Some old) = rw (same-refl p) refl

    by : (part : Option (List Act)) → IsPending d (Ap a) p (target_granted w x g) (later part)
    by part = record {
      is = ap (λ (z : Option (List Act)). transition_in p (later part) z) (awaits part) ∙ made part;
      part = begun;
      awaited = awaits part;
      stored = rw (same-refl p) refl;
    }

-- in place of a result
abbrev pub ok : Granted → Result Granted Reason
ok g = Ok g

same_ok : (x y : Granted) → ok x ≡ ok y → x ≡ y
same_ok x y is = cc

abbrev granted : List ℕ → List ℕ → PmkR1 → Granted
granted v name k = record { anonce = v; asked = name; r1 = k }

granted_inv : (answer : PullAnswer) (name : List ℕ) (anonce : Option (List ℕ)) (g : Granted) → granted_by answer name anonce ≡ ok g → (answer ≡ Found g.r1) × (name ≡ g.asked) × (anonce ≡ Some g.anonce)
granted_inv NoHolder name anonce g is = absurd cc
granted_inv Absent name anonce g is = absurd cc
granted_inv (Found k) name None g is = absurd cc
granted_inv (Found k) name (Some v) g is =
    let same : granted v name k ≡ g = same_ok (granted v name k) g is in
    (ap (λ (z : Granted). Found z.r1) same, ap (λ (z : Granted). z.asked) same, ap (λ (z : Granted). Some z.anonce) same)

drawn_some : (d : Domain) (first : ℕ) (n : Node) (h : List Act) (anonce : Option (List ℕ)) (v : List ℕ) → anonce ≡ Some v → IsDrawn d first n h anonce → (first + draws h < draw_end) × (v ≡ next_nonce d first n h)
drawn_some d first n h anonce v is drawn = subst (λ (z : Option (List ℕ)). IsDrawn d first n h z) is drawn

pub auth_granted : (d : Domain) (a sta : ℕ) (e : ElementFields) (anonce : Option (List ℕ)) (o : Option TargetState) (x : Asked) (name : List ℕ) (answer : PullAnswer) (g : Granted) (w : Place) (t : TargetState) (old r : Reply) → Asks d e o x → single x.names ≡ Some name
    → IsKnownBy d x.r0kh_id answer → granted_by answer name anonce ≡ Ok g → IsPlace d (Ap a) (Sta sta) w → old.looked ≡ Some answer → TellsOnly (auth_request_topics Accepted) r → Begins w x g t old r → IsAuthTaken d a sta e anonce o (Some t) Accepted r
auth_granted d a sta e anonce o x name answer g w t old r k named known grants at look tells f = record {
  steps = λ first octets b h st from is drawn.
      (let n : Node = Ap a in
      let p : Node = Sta sta in
      let inv = granted_inv answer name anonce g grants in
      let named_g : single x.names ≡ Some g.asked = named ∙ ap Some inv.1 in
      let holder : is_some (holder_of d x.r0kh_id) ≡ true = subst (λ (z : PullAnswer). IsKnownBy d x.r0kh_id z) inv.0 known in
      let draws_one = drawn_some d first n h anonce g.anonce inv.2 drawn in
      let i : Inputs = inputs_granted d a sta w x g in
      let plain : Act = Sent (One p) kind.FtResp (granting_octets w x g) None in
      let sends : transition_sent d n p r ≡ plain ∷ [] = frame_sent d n p (granting_octets w x g) kind.FtResp None r f.sends in
      let acts = sym (granting_is d a sta (attempt p h) octets e w x g r plain k.asks named_g (f.looked ∙ look ∙ ap Some inv.0) f.derived sends) in
      let row : Ptk → List Act → List Act = λ z l. Took (Some p) octets kind.FtReq Accepted None ∷ Looked x.r0kh_id g.asked p (Found g.r1) ∷ close_attempt p (attempt p h) ++ Opened p Roam ∷ Drew (Nonce g.anonce) ∷ Derived p i z ∷ l in
      record {
        adds = subst (λ (l : List Act). TakeRow (here d first n) h octets l) acts (record {
          r = Managed b e;
          reads = reads_so d octets (Managed b e) refl from.reads;
          facts = facts_of (Some g.r1);
          knows = knows_it d first a b e h (Some g.r1);
          row = By_ft_req (record {
            b = b;
            e = e;
            is = refl;
            kind_is = is;
            p = p;
            from = from.from;
            accepted = verdict_kind d first n p octets b e h kind.FtReq (facts_of (Some g.r1)) Accepted Accepted from is
                (first_kind d first n p octets b e h kind.FtReq from is ∙ judged_as_asked d a sta e o x h k st ∙ first_known d x g.asked named_g holder)
                (further_asked (first + draws h) h p e x (Some g.r1) k.asks (repeats_is d a p o h x k.suite st ∙ k.fresh) ∙ ap (λ (z : Bool). if z then Accepted else Refused reason.Spent) (some_more d first a h draws_one.0));
            a = x;
            asks = k.asks;
            name = g.asked;
            named = named_g;
            k = g.r1;
            pulled = refl;
            i = i;
            inputs_are = ap (λ (v : List ℕ). inputs_at d n p x.r0kh_id v x.snonce) draws_one.1;
            says = ap (λ (z : Ptk). row z (plain ∷ [])) (ptk_is d a sta w x g at) ∙ ap (λ (l : List Act). row (derived_from g.r1 i).ptk l) (sym sends ∙ response_is d a sta w x g r k.suite at f.sends);
          });
        });
        stands = subst (λ (l : List Act). PendingStands d n p (Some t) (add l h)) acts
            (subst (λ (z : TargetState). PendingStands d n p (Some z) (add (row (key_granted w x g).ptk (plain ∷ [])) h)) (sym f.is) (granted_stands d a sta (attempt p h) octets w x g h k.suite at));
      });
  refused = λ y is. absurd cc;
  tells = tells;
  begun = subst (λ (z : Option Keyed). HasBegun z o (Some t)) (sym f.derived) (t, refl, ap (λ (z : TargetState). z.key) f.is);
  whole = f.sends.whole;
}
  where
    some_more : (d : Domain) (first a : ℕ) (h : List Act) → first + draws h < draw_end → nat_lt (first + draws h) draw_end ≡ true
    some_more d first a h less = lt-ltb (first + draws h) draw_end less
