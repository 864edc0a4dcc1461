-- An access point takes a reassociation request.
use Rattle.std.proofs.Common.{◌≡◌, ◌∙◌, ℕ, Bool, true, false, cond, List, [], ◌∷◌, ◌++◌, Option, Some, None, refl, sym, ap, subst, arith}
use Rattle.std.specs.Prelude.{◌&&◌, is_some}
use Rattle.domain_base.specs.declared.names.Node.{Node}
use Rattle.domain_base.specs.declared.names.Node.TheVariants.{Ap, Sta}
use Rattle.domain_base.specs.declared.names.Peer.TheVariants.{One}
use Rattle.rsn_elements.specs.Transition.{FteFields}
use Rattle.rsn_elements.specs.Elements.{ElementFields}
use Rattle.run_journal.specs.declared.domain.Domain.{Domain}
use Rattle.run_journal.specs.declared.acts.Kind.{Kind}
use Rattle.run_journal.specs.declared.acts.Kind.TheVariants as kind
use Rattle.run_journal.specs.declared.acts.Key.TheVariants.{Pairwise}
use Rattle.run_journal.specs.declared.acts.Part.TheVariants.{Session}
use Rattle.run_journal.specs.declared.acts.Reason.{Reason}
use Rattle.run_journal.specs.declared.acts.Reason.TheVariants as reason
use Rattle.run_journal.specs.declared.acts.Outcome.{Outcome}
use Rattle.run_journal.specs.declared.acts.Outcome.TheVariants.{Accepted, Answered, Refused}
use Rattle.run_journal.specs.declared.acts.Seal.{Seal}
use Rattle.run_journal.specs.declared.acts.Act.{Act}
use Rattle.run_journal.specs.declared.acts.Act.TheVariants.{Closed, Took, Installed, Finished, Sent}
use Rattle.run_journal.specs.declared.reply.Reply.{Reply}
use Rattle.run_journal.specs.declared.reply.Keyed.{Keyed}
use Rattle.run_journal.specs.Acts.{Derivation}
use Rattle.run_journal.specs.Replies.{IsWhole}
use Rattle.run_journal.specs.Questions.{session, add}
use Rattle.run_journal.specs.Holders.{Stored}
use Rattle.domain_rules.specs.Network.{Root, root_at, station_of}
use Rattle.domain_rules.specs.Closing.{close_session, sender}
use Rattle.domain_rules.specs.GroupKeys.{News as CarriedNews}
use Rattle.domain_rules.specs.Reading.{Management, Managed}
use Rattle.domain_rules.specs.StationKeys.{taken_in}
use Rattle.domain_rules.specs.TransitionFrames.{re_resp_fte, sent_re_resp}
use Rattle.domain_rules.specs.FastTransition.{counts_three, names_both, is_named}
use Rattle.domain_rules.specs.TransitionKeys.{judged, transition, re_req_covered, re_req_seal}
use Rattle.domain_rules.specs.TransitionRows.{sent_again, look_answer, look_of_kind, refused_look}
use Rattle.key_hierarchy.specs.declared.fast_transition.PmkR1.{PmkR1}
use Rattle.domain_rules.specs.Verdict.{KnowsManaged, Knows, comes_so_far, first_verdict, and_then, verdict}
use Rattle.domain_rules.specs.Rows.{TakeRow, By_re_req, By_repeated_re_req, By_refusal, seal_in, management_seal, refused_seal, refused_status, response_by, response}
use Rattle.domain_rules.specs.Here.{here}
use Rattle.domain_rules.specs.Replies.{replaced_acts, installed_acts, finished_acts}
use Rattle.domain_rules.proofs.Refused.{IsRefused, no_facts, refused_first, far_seal}
use Rattle.domain_rules.proofs.Parts.{same-refl}
use Rattle.domain_rules.proofs.Unprotected.{reads_so}
use Rattle.group_key.specs.declared.news.News.{News}
use Rattle.group_key.proofs.Newest.{news_is}
use Rattle.ft_exchange.specs.Comes.{IsManagementFrom}
use Rattle.ft_exchange.specs.Judged.{status_first, unless, outcome_by, reassociation_reason}
use Rattle.ft_exchange.specs.Elements.{elements_status}
use Rattle.ft_exchange.specs.Refusals.{RefusesReassocBy, RefusesReassoc}
use Rattle.ft_exchange.specs.Sent.{HasFrame}
use Rattle.ft_exchange.specs.State.{TargetState}
use Rattle.ft_exchange.specs.Stands.{transition_of, IsPending, IsHeld, IsHeldOrPending, TargetStands}
use Rattle.ft_exchange.specs.Exchange.{wanted_at, request_between, request_tried, installing_octets, target_installed, Installs, IsQuiet}
use Rattle.ft_exchange.specs.TargetSteps.{judged_by, IsChosen, HasInstalled, IsReassocTaken}
use Rattle.ft_exchange.specs.Topics.{TellsOnly, reassoc_request_topics, request_verified}
use Rattle.ft_exchange.specs.Told.{came, taken_seal, sent_seal, transition_sent, reassoc_request_acts}
use Rattle.ft_exchange.specs.Tried.{input_of, is_with, tried_reason, verified_key}
use Rattle.ft_exchange.specs.declared.mic.Tried.{Tried}
use Rattle.ft_exchange.specs.declared.mic.Tried.TheVariants as tries
use Rattle.ft_exchange.proofs.FramesSent.{frame_sent}
use Rattle.ft_exchange.proofs.StationRows.{first_kind, verdict_kind}
use Rattle.ft_exchange.proofs.TargetFrames.{reassoc_refusal, key_at, fte_at, installing_is}
use Rattle.ft_exchange.proofs.TargetStanding.{Passes, took_passes, sent_passes, transition_more, target_more, closed_more}
use Rattle.ft_exchange.proofs.TargetVerdicts.{reassoc_first, reassoc_behind, reassoc_seal, right_by}
use Rattle.ft_exchange.proofs.Trying.{out_or, none_sealed, no_key}

-- ---- refusals

-- no key holder was asked
no_look : (d : Domain) (a : ℕ) (b : Management) (e : ElementFields) (from : Option Node) (pulled : Option PmkR1) (why : Reason) → b.kind ≡ kind.ReReq → refused_look (Ap a) from (Managed b e) pulled why ≡ []
no_look d a b e None pulled why is = refl
no_look d a b e (Some p) pulled why is = ap (λ (k : Kind). look_of_kind k p e (look_answer why pulled)) is

-- the acts by what the reply tells
abbrev acts_by : Domain → Root → Node → Node → Bool → List ℕ → ElementFields → Outcome → Option (List ℕ) → Option Keyed → List Act → List Act
acts_by d root n p had octets e o v y l =
    Took (Some p) octets kind.ReReq o (taken_seal (re_req_covered d n p e) v) ∷ replaced_acts p had y ++ installed_acts d root n p y ++ finished_acts d root n p y ++ l

acts_are : (d : Domain) (root : Root) (n p : Node) (had : Bool) (octets : List ℕ) (e : ElementFields) (o : Outcome) (v : Option (List ℕ)) (y : Option Keyed) (l : List Act) (r : Reply) → r.verified ≡ v → r.installed ≡ y → transition_sent d n p r ≡ l
    → reassoc_request_acts d root n p had (came octets e o) r ≡ acts_by d root n p had octets e o v y l
acts_are d root n p had octets e o v y l r verified installed sends =
    ap (λ (z : Option (List ℕ)). acts_by d root n p had octets e o z r.installed (transition_sent d n p r)) verified
    ∙ ap (λ (z : Option Keyed). acts_by d root n p had octets e o v z (transition_sent d n p r)) installed
    ∙ ap (λ (z : List Act). acts_by d root n p had octets e o v y z) sends

refusal_acts : (d : Domain) (root : Root) (n p : Node) (had : Bool) (octets : List ℕ) (e : ElementFields) (why : Reason) (v : Option (List ℕ)) (r : Reply) → r.verified ≡ v → r.installed ≡ None
    → transition_sent d n p r ≡ response_by d n p kind.ReReq (refused_status why)
    → reassoc_request_acts d root n p had (came octets e (Refused why)) r ≡ Took (Some p) octets kind.ReReq (Refused why) (taken_seal (re_req_covered d n p e) v) ∷ response_by d n p kind.ReReq (refused_status why)
refusal_acts d root n p true octets e why v r verified installed sends = acts_are d root n p true octets e (Refused why) v None (response_by d n p kind.ReReq (refused_status why)) r verified installed sends
refusal_acts d root n p false octets e why v r verified installed sends = acts_are d root n p false octets e (Refused why) v None (response_by d n p kind.ReReq (refused_status why)) r verified installed sends

pub adds_refusal : (d : Domain) (first a sta : ℕ) (octets : List ℕ) (b : Management) (e : ElementFields) (h : List Act) (why : Reason) (s : Option Seal) → IsManagementFrom d (Ap a) (Sta sta) octets b e → b.kind ≡ kind.ReReq
    → IsRefused d first (Ap a) h (Managed b e) why s → TakeRow (here d first (Ap a)) h octets (Took (Some (Sta sta)) octets kind.ReReq (Refused why) s ∷ response_by d (Ap a) (Sta sta) kind.ReReq (refused_status why))
adds_refusal d first a sta octets b e h why s from is f = record {
  r = Managed b e;
  reads = reads_so d octets (Managed b e) refl from.reads;
  facts = f.facts;
  knows = f.knows;
  row = By_refusal (record {
    why = why;
    refused = f.refused;
    says = ap (λ (k : Kind). Took (Some (Sta sta)) octets k (Refused why) s ∷ response (d) (Ap a) (Some (Sta sta)) k why) (sym is)
        ∙ ap (λ (q : Option Node). Took q octets b.kind (Refused why) s ∷ response d (Ap a) q b.kind why) (sym from.from)
        ∙ ap (λ (x : Option Seal). Took (sender d (Ap a) (Managed b e)) octets b.kind (Refused why) x ∷ response d (Ap a) (sender d (Ap a) (Managed b e)) b.kind why) f.seal_is
        ∙ ap (λ (l : List Act). Took (sender d (Ap a) (Managed b e)) octets b.kind (Refused why) (refused_seal d first (Ap a) h (Managed b e)) ∷ l ++ response d (Ap a) (sender d (Ap a) (Managed b e)) b.kind why)
        (sym (no_look d a b e (sender d (Ap a) (Managed b e)) f.facts.pulled why is));
  });
}

response_stands : (d : Domain) (n p : Node) (s : TargetState) (o : Option ℕ) (h : List Act) → TargetStands d n p s h → TargetStands d n p s (add (response_by d n p kind.ReReq o) h)
response_stands d n p s None h st = st
response_stands d n p s (Some code) h st = target_more d n p s _ h (sent_passes p p kind.ReResp _ None) st

-- after each history it is refused so, with what it had sealed
abbrev pub RefusesIt : ElementFields → TargetState → Reason → Option (List ℕ) → Type 0
RefusesIt e s why v =
    (d : Domain) (first a sta : ℕ) (octets : List ℕ) (b : Management) (h : List Act) → IsChosen d (Ap a) (Sta sta) s e h → IsManagementFrom d (Ap a) (Sta sta) octets b e
    → b.kind ≡ kind.ReReq → IsRefused d first (Ap a) h (Managed b e) why (taken_seal (re_req_covered d (Ap a) (Sta sta) e) v)

refused : (e : ElementFields) (news : News) (s : TargetState) (why : Reason) (v : Option (List ℕ)) (old r : Reply) → old.len ≡ 0 → r.verified ≡ v → v ≡ request_verified s e → TellsOnly (reassoc_request_topics (Refused why)) r → IsWhole r → RefusesReassoc s.place why old r → RefusesIt e s why v
    → IsReassocTaken e news s s (Refused why) r
refused e news s why v old r none verified tried tells whole answers refuses = record {
  steps = λ d first a sta octets b h c from is newest.
      (let n : Node = Ap a in
      let p : Node = Sta sta in
      let seal : Option Seal = taken_seal (re_req_covered d n p e) v in
      let acts = sym (refusal_acts d (root_at d (station_of n p) s.r0kh_id) n p (is_some (session p h)) octets e why v r verified tells.installed (reassoc_refusal d n p s.place why old r c.stands.place none answers)) in
      let took : TargetStands d n p s (Took (Some p) octets kind.ReReq (Refused why) seal ∷ h) = target_more d n p s (Took (Some p) octets kind.ReReq (Refused why) seal) h (took_passes p (Some p) octets kind.ReReq (Refused why) seal) c.stands in
      record {
        adds = subst (λ (l : List Act). TakeRow (here d first n) h octets l) acts (adds_refusal d first a sta octets b e h why seal from is (refuses d first a sta octets b h c from is));
        stands = subst (λ (l : List Act). TargetStands d n p s (add l h)) acts (response_stands d n p s (refused_status why) (Took (Some p) octets kind.ReReq (Refused why) seal ∷ h) took);
      });
  refused = λ w is. (refl, tells.installed);
  tells = tells;
  verified = verified ∙ tried;
  became = subst (λ (z : Option Keyed). HasInstalled z s s) (sym tells.installed) refl;
  whole = whole;
}

-- by its nonces or its MIC, which are not answered
unanswered_why : (t : Tried) (why : Reason) → tried_reason t ≡ Some why → refused_status why ≡ None
unanswered_why tries.Nothing why is = absurd cc
unanswered_why tries.OtherNonces why is = ap refused_status (let same : why ≡ reason.Nonce = cc in same)
unanswered_why tries.OtherMic why is = ap refused_status (let same : why ≡ reason.Mic = cc in same)
unanswered_why tries.Verified why is = absurd cc

whole_none : (r : Reply) → r.len ≡ 0 → r.sealed ≡ None → IsWhole r
whole_none r len sealed = record { few = omega (arith, len); sealed = λ kck some. (let none : None ≡ Some kck = sym sealed ∙ some in cc) }

pub reassoc_tried : (e : ElementFields) (news : News) (s : TargetState) (why : Reason) (r : Reply) → tried_reason (request_tried s e) ≡ Some why → IsQuiet None r → IsReassocTaken e news s s (Refused why) r
reassoc_tried e news s why r tries q = refused e news s why None r r q.len q.verified (sym (no_key s.key (request_tried s e) why tries))
    (record { frame = tt; sealed = q.sealed; verified = tt; derived = q.derived; installed = q.installed; gtk = q.gtk; igtk = q.igtk; looked = q.looked }) (whole_none r q.len q.sealed)
    (subst (λ (o : Option ℕ). RefusesReassocBy s.place o r r) (sym (unanswered_why (request_tried s e) why tries)) refl)
    (λ d first a sta octets b h c from is.
    subst (λ (x : Option Seal). IsRefused d first (Ap a) h (Managed b e) why x) (sym (none_sealed (re_req_covered d (Ap a) (Sta sta) e)))
    (refused_first d first (Ap a) h (Managed b e) why (first_kind d first (Ap a) (Sta sta) octets b e h kind.ReReq from is ∙ reassoc_first d a (Sta sta) s e h c ∙ ap (λ (x : Option Reason). out_or (cond (is_with e s.key) (taken_in s.is_installed) Accepted) x) tries)))

-- what comes of a request that nonces and MIC do not refuse
first_is : (d : Domain) (first a sta : ℕ) (octets : List ℕ) (b : Management) (e : ElementFields) (h : List Act) (s : TargetState) → IsChosen d (Ap a) (Sta sta) s e h → IsManagementFrom d (Ap a) (Sta sta) octets b e → b.kind ≡ kind.ReReq
    → tried_reason (request_tried s e) ≡ None → first_verdict d first (Ap a) h (Managed b e) ≡ cond (is_with e s.key) (taken_in s.is_installed) Accepted
first_is d first a sta octets b e h s c from is right =
    first_kind d first (Ap a) (Sta sta) octets b e h kind.ReReq from is ∙ reassoc_first d a (Sta sta) s e h c ∙ ap (λ (x : Option Reason). out_or (cond (is_with e s.key) (taken_in s.is_installed) Accepted) x) right

taken_far : (b c : Bool) → comes_so_far (cond b (taken_in c) Accepted) ≡ true
taken_far true true = refl
taken_far true false = refl
taken_far false c = refl

refused_behind : (b c : Bool) (why : Reason) → and_then (cond b (taken_in c) Accepted) (Refused why) ≡ Refused why
refused_behind true true why = refl
refused_behind true false why = refl
refused_behind false c why = refl

sealed_in : (d : Domain) (a sta : ℕ) (octets : List ℕ) (b : Management) (e : ElementFields) (h : List Act) → IsManagementFrom d (Ap a) (Sta sta) octets b e → b.kind ≡ kind.ReReq
    → seal_in d (Ap a) h (Managed b e) ≡ re_req_seal d (Ap a) h (Sta sta) e
sealed_in d a sta octets b e h from is =
    ap (λ (q : Option Node). management_seal d (Ap a) h b e b.kind q) from.sender_is ∙ ap (λ (k : Kind). management_seal d (Ap a) h b e k (Some (Sta sta))) is

knows_it : (d : Domain) (first a : ℕ) (b : Management) (e : ElementFields) (h : List Act) → Knows d first (Ap a) h (Managed b e) no_facts
knows_it d first a b e h = λ so q peer. by b.kind q
  where
    by : (k : Kind) (q : Node) → KnowsManaged d (Ap a) h q e no_facts k
    by k q = tt

refuses_behind : (e : ElementFields) (s : TargetState) (why : Reason) → tried_reason (request_tried s e) ≡ None → reassociation_reason (wanted_at s) e true ≡ Some why → RefusesIt e s why (verified_key s.key (request_tried s e))
refuses_behind e s why right is_refused d first a sta octets b h c from is =
    let at = first_is d first a sta octets b e h s c from is right in
    record {
      facts = no_facts;
      knows = knows_it d first a b e h;
      refused = verdict_kind d first (Ap a) (Sta sta) octets b e h kind.ReReq no_facts (cond (is_with e s.key) (taken_in s.is_installed) Accepted) (Refused why) from is at (reassoc_behind d a (Sta sta) s e h c right ∙ ap outcome_by is_refused)
          ∙ refused_behind (is_with e s.key) s.is_installed why;
      seal_is = reassoc_seal d a (Sta sta) s e h c right ∙ sym (sealed_in d a sta octets b e h from is)
          ∙ far_seal d first (Ap a) h (Managed b e) (cond (is_with e s.key) (taken_in s.is_installed) Accepted) at (taken_far (is_with e s.key) s.is_installed);
    }

-- by what stands behind
pub reassoc_refused : (e : ElementFields) (news : News) (s : TargetState) (why : Reason) (old r : Reply) → tried_reason (request_tried s e) ≡ None → reassociation_reason (wanted_at s) e true ≡ Some why
    → old.len ≡ 0 → r.verified ≡ verified_key s.key (request_tried s e) → TellsOnly (reassoc_request_topics (Refused why)) r → IsWhole r → RefusesReassoc s.place why old r → IsReassocTaken e news s s (Refused why) r
reassoc_refused e news s why old r right is none verified tells whole answers =
    refused e news s why (verified_key s.key (request_tried s e)) old r none verified refl tells whole answers (refuses_behind e s why right is)

-- ---- acceptance, and an answer

-- a request that is accepted has the nonces
with_nonces : (s : TargetState) (e : ElementFields) → tried_reason (request_tried s e) ≡ None → reassociation_reason (wanted_at s) e true ≡ None → is_with e s.key ≡ true
with_nonces s e right accepts = by (is_with e s.key) refl
  where
    none_counts : (o : Option FteFields) → o ≡ None → counts_three o ≡ false
    none_counts None is = refl
    none_counts (Some f) is = absurd cc

    by_statuses : (o : Option ℕ) (b : Bool) (why : Option Reason) → b ≡ false → status_first o (unless b (reason.Status 55) why) ≡ None → ⊥
    by_statuses (Some code) b why is accepts = cc
    by_statuses None true why is accepts = cc
    by_statuses None false why is accepts = cc

    by : (b : Bool) → is_with e s.key ≡ b → is_with e s.key ≡ true
    by true is = is
    by false is = absurd (by_statuses (elements_status s.place.mfp s.place.mdid e) (counts_three e.fte && names_both s.place.own.0 s.r0kh_id e.fte && true) (unless (is_named s.name e) reason.Name None)
        (rw (none_counts e.fte (right_by s.key e.fte (input_of (request_between s) e) right is)) refl) accepts)

chosen_is : (d : Domain) (a sta : ℕ) (s : TargetState) (e : ElementFields) (h : List Act) → IsChosen d (Ap a) (Sta sta) s e h → is_with e s.key ≡ true
    → judged (Sta sta) h e ≡ Some (record { by_ = transition_of d (Ap a) (Sta sta) s; is_session = s.is_installed })
chosen_is d a sta s e h c has = c.by_this ∙ ap (λ (b : Bool). judged_by d (Ap a) (Sta sta) s b) has

verdict_is : (d : Domain) (first a sta : ℕ) (octets : List ℕ) (b : Management) (e : ElementFields) (h : List Act) (s : TargetState) → IsChosen d (Ap a) (Sta sta) s e h → IsManagementFrom d (Ap a) (Sta sta) octets b e → b.kind ≡ kind.ReReq
    → tried_reason (request_tried s e) ≡ None → reassociation_reason (wanted_at s) e true ≡ None → verdict d first (Ap a) h (Managed b e) no_facts ≡ taken_in s.is_installed
verdict_is d first a sta octets b e h s c from is right accepts =
    verdict_kind d first (Ap a) (Sta sta) octets b e h kind.ReReq no_facts (cond (is_with e s.key) (taken_in s.is_installed) Accepted) Accepted from is (first_is d first a sta octets b e h s c from is right) (reassoc_behind d a (Sta sta) s e h c right ∙ ap outcome_by accepts)
    ∙ ap (λ (x : Bool). and_then (cond x (taken_in s.is_installed) Accepted) Accepted) (with_nonces s e right accepts) ∙ taken_then s.is_installed
  where
    taken_then : (x : Bool) → and_then (taken_in x) Accepted ≡ taken_in x
    taken_then true = refl
    taken_then false = refl

-- an answer: the stored response goes out once more
answering_acts : (d : Domain) (n p : Node) (had : Bool) (octets : List ℕ) (e : ElementFields) (s : TargetState) (v : Option (List ℕ)) (r : Reply) → r.verified ≡ v → r.installed ≡ None
    → HasFrame s.stored kind.ReResp (Some s.key.ptk.kck) r
    → reassoc_request_acts d (root_at d (station_of n p) s.r0kh_id) n p had (came octets e Answered) r
    ≡ Took (Some p) octets kind.ReReq Answered (taken_seal (re_req_covered d n p e) v) ∷ Sent (One p) kind.ReResp s.stored (sent_seal d n p kind.ReResp (Some s.key.ptk.kck) s.stored) ∷ []
answering_acts d n p true octets e s v r verified installed f = acts_are d (root_at d (station_of n p) s.r0kh_id) n p true octets e Answered v None _ r verified installed (frame_sent d n p s.stored kind.ReResp (Some s.key.ptk.kck) r f)
answering_acts d n p false octets e s v r verified installed f = acts_are d (root_at d (station_of n p) s.r0kh_id) n p false octets e Answered v None _ r verified installed (frame_sent d n p s.stored kind.ReResp (Some s.key.ptk.kck) r f)

pub reassoc_answered : (e : ElementFields) (news : News) (s : TargetState) (r : Reply) → tried_reason (request_tried s e) ≡ None → reassociation_reason (wanted_at s) e true ≡ None → s.is_installed ≡ true
    → r.verified ≡ verified_key s.key (request_tried s e) → TellsOnly (reassoc_request_topics Answered) r → HasFrame s.stored kind.ReResp (Some s.key.ptk.kck) r → IsReassocTaken e news s s Answered r
reassoc_answered e news s r right accepts held verified tells f = record {
  steps = λ d first a sta octets b h c from is newest.
      (let n : Node = Ap a in
      let p : Node = Sta sta in
      let v : Option (List ℕ) = verified_key s.key (request_tried s e) in
      let seal : Option Seal = taken_seal (re_req_covered d n p e) v in
      let i : IsHeld d n p s h = subst (λ (x : Bool). IsHeldOrPending x d n p s h) held c.stands.holds in
      let says : Act = Sent (One p) kind.ReResp s.stored (sent_seal d n p kind.ReResp (Some s.key.ptk.kck) s.stored) in
      let took : Act = Took (Some p) octets kind.ReReq Answered seal in
      let acts = sym (answering_acts d n p (is_some (session p h)) octets e s v r verified tells.installed f) in
      record {
        adds = subst (λ (l : List Act). TakeRow (here d first n) h octets l) acts (record {
          r = Managed b e;
          reads = reads_so d octets (Managed b e) refl from.reads;
          facts = no_facts;
          knows = knows_it d first a b e h;
          row = By_repeated_re_req (record {
            b = b;
            e = e;
            is = refl;
            kind_is = is;
            p = p;
            from = from.from;
            answered = verdict_is d first a sta octets b e h s c from is right accepts ∙ ap taken_in held;
            y = record { by_ = transition_of d n p s; is_session = s.is_installed };
            awaited = chosen_is d a sta s e h c (with_nonces s e right accepts);
            says = ap (λ (z : Option Seal). Took (Some p) octets kind.ReReq Answered z ∷ says ∷ []) (reassoc_seal d a p s e h c right)
                ∙ ap (λ (o : Option Stored). Took (Some p) octets kind.ReReq Answered (re_req_seal d n h p e) ∷ sent_again p kind.ReResp o) (sym i.stored);
          });
        });
        stands = subst (λ (l : List Act). TargetStands d n p s (add l h)) acts (target_more d n p s says (took ∷ h) (sent_passes p p kind.ReResp _ _) (target_more d n p s took h (took_passes p (Some p) octets kind.ReReq Answered seal) c.stands));
      });
  refused = λ w is. absurd cc;
  tells = tells;
  verified = verified;
  became = subst (λ (z : Option Keyed). HasInstalled z s s) (sym tells.installed) refl;
  whole = f.whole;
}

-- an acceptance: the key is installed in place of the one in use
installing_acts : (d : Domain) (a sta : ℕ) (o : Option Derivation) (octets : List ℕ) (e : ElementFields) (s : TargetState) (v : Option (List ℕ)) (r : Reply) (says : Act) → r.verified ≡ v → r.installed ≡ Some s.key
    → transition_sent d (Ap a) (Sta sta) r ≡ says ∷ []
    → reassoc_request_acts d (root_at d (Sta sta) s.r0kh_id) (Ap a) (Sta sta) (is_some o) (came octets e Accepted) r
    ≡ Took (Some (Sta sta)) octets kind.ReReq Accepted (taken_seal (re_req_covered d (Ap a) (Sta sta) e) v) ∷ close_session (Sta sta) o ++ Installed (One (Sta sta)) (Pairwise s.key.ptk.tk (key_at d a sta s).inputs) ∷ Finished (Sta sta) (key_at d a sta s).inputs ∷ says ∷ []
installing_acts d a sta (Some x) octets e s v r says verified installed sends = acts_are d (root_at d (Sta sta) s.r0kh_id) (Ap a) (Sta sta) true octets e Accepted v (Some s.key) (says ∷ []) r verified installed sends
installing_acts d a sta None octets e s v r says verified installed sends = acts_are d (root_at d (Sta sta) s.r0kh_id) (Ap a) (Sta sta) false octets e Accepted v (Some s.key) (says ∷ []) r verified installed sends

installed_stands : (d : Domain) (a sta : ℕ) (o : Option Derivation) (octets : List ℕ) (seal : Option Seal) (s : TargetState) (news : News) (h : List Act) → s.is_installed ≡ false → TargetStands d (Ap a) (Sta sta) s h
    → TargetStands d (Ap a) (Sta sta) (target_installed s news)
    (add (Took (Some (Sta sta)) octets kind.ReReq Accepted seal ∷ close_session (Sta sta) o ++ Installed (One (Sta sta)) (Pairwise s.key.ptk.tk (key_at d a sta s).inputs) ∷ Finished (Sta sta) (key_at d a sta s).inputs
    ∷ Sent (One (Sta sta)) kind.ReResp (installing_octets s news) (sent_seal d (Ap a) (Sta sta) kind.ReResp (Some s.key.ptk.kck) (installing_octets s news)) ∷ []) h)
installed_stands d a sta o octets seal s news h pends st = by o
  where
    n : Node
    n = Ap a

    p : Node
    p = Sta sta

    took : Act
    took = Took (Some p) octets kind.ReReq Accepted seal

    i : IsPending d n p s h
    i = subst (λ (x : Bool). IsHeldOrPending x d n p s h) pends st.holds

    one : transition p (took ∷ h) ≡ Some (transition_of d n p s)
    one = transition_more p took h (took_passes p (Some p) octets kind.ReReq Accepted seal) ∙ i.is

    installs : Act
    installs = Installed (One p) (Pairwise s.key.ptk.tk (key_at d a sta s).inputs)

    installs_passes : Passes p installs
    installs_passes = record { opens_none = refl; ends_none = refl; closes_none = refl; finishes_none = refl; derives_none = refl }

    closing : (before : List Act) → transition p before ≡ Some (transition_of d n p s) → transition p (installs ∷ before) ≡ Some (transition_of d n p s)
    closing before is = transition_more p installs before installs_passes ∙ is

    by : (o : Option Derivation) → TargetStands d n p (target_installed s news)
        (add (took ∷ close_session p o ++ installs ∷ Finished p (key_at d a sta s).inputs ∷ Sent (One p) kind.ReResp (installing_octets s news) (sent_seal d n p kind.ReResp (Some s.key.ptk.kck) (installing_octets s news)) ∷ []) h)
    by None = record {
      suite = st.suite;
      place = st.place;
      holds = record {
        is = rw (same-refl p) (closing (took ∷ h) one);
        stored = rw (same-refl p) refl;
      };
    }
    by (Some x) = record {
      suite = st.suite;
      place = st.place;
      holds = record {
        is = rw (same-refl p) (closing (Closed p Session ∷ took ∷ h) (closed_more p (took ∷ h) ∙ one));
        stored = rw (same-refl p) refl;
      };
    }

pub reassoc_accepted : (e : ElementFields) (news : News) (s t : TargetState) (old r : Reply) → tried_reason (request_tried s e) ≡ None → reassociation_reason (wanted_at s) e true ≡ None → s.is_installed ≡ false
    → old.verified ≡ verified_key s.key (request_tried s e) → TellsOnly (reassoc_request_topics Accepted) r → Installs news s t old r → IsReassocTaken e news s t Accepted r
reassoc_accepted e news s t old r right accepts pends verified tells f = record {
  steps = λ d first a sta octets b h c from is newest.
      (let n : Node = Ap a in
      let p : Node = Sta sta in
      let v : Option (List ℕ) = verified_key s.key (request_tried s e) in
      let seal : Option Seal = taken_seal (re_req_covered d n p e) v in
      let x : Derivation = key_at d a sta s in
      let plain : Act = Sent (One p) kind.ReResp (installing_octets s news) (sent_seal d n p kind.ReResp (Some s.key.ptk.kck) (installing_octets s news)) in
      let acts = sym (installing_acts d a sta (session p h) octets e s v r plain (f.verified ∙ verified) f.installed (frame_sent d n p (installing_octets s news) kind.ReResp (Some s.key.ptk.kck) r f.sends)) in
      let said : plain ∷ [] ≡ sent_re_resp d n p s.name x (fte_at d a sta s news) ∷ [] =
      sym (frame_sent d n p (installing_octets s news) kind.ReResp (Some s.key.ptk.kck) r f.sends) ∙ installing_is d a sta s news r c.stands.suite c.stands.place f.covers f.sends
      in
      let row : Option Seal → List Act → List Act = λ z l. Took (Some p) octets kind.ReReq Accepted z ∷ close_session p (session p h) ++ Installed (One p) (Pairwise x.ptk.tk x.inputs) ∷ Finished p x.inputs ∷ l in
      record {
        adds = subst (λ (l : List Act). TakeRow (here d first n) h octets l) acts (record {
          r = Managed b e;
          reads = reads_so d octets (Managed b e) refl from.reads;
          facts = no_facts;
          knows = knows_it d first a b e h;
          row = By_re_req (record {
            b = b;
            e = e;
            is = refl;
            kind_is = is;
            p = p;
            from = from.from;
            accepted = verdict_is d first a sta octets b e h s c from is right accepts ∙ ap taken_in pends;
            y = record { by_ = transition_of d n p s; is_session = s.is_installed };
            awaited = chosen_is d a sta s e h c (with_nonces s e right accepts);
            x = x;
            keyed = refl;
            says = ap (λ (z : Option Seal). row z (plain ∷ [])) (reassoc_seal d a p s e h c right)
                ∙ ap (λ (l : List Act). row (re_req_seal d n h p e) l) said
                ∙ ap (λ (k : CarriedNews). row (re_req_seal d n h p e) (sent_re_resp d n p s.name x (re_resp_fte d n x k) ∷ [])) (sym (news_is d news h newest));
          });
        });
        stands = subst (λ (l : List Act). TargetStands d n p t (add l h)) acts (subst (λ (z : TargetState). TargetStands d n p z (add (row seal (plain ∷ [])) h)) (sym f.is) (installed_stands d a sta (session p h) octets seal s news h pends c.stands));
      });
  refused = λ w is. absurd cc;
  tells = tells;
  verified = f.verified ∙ verified;
  became = subst (λ (z : Option Keyed). HasInstalled z s t) (sym f.installed)
      (pends, ap (λ (z : TargetState). z.is_installed) f.is, ap (λ (z : TargetState). z.key) f.is);
  whole = f.sends.whole;
}
