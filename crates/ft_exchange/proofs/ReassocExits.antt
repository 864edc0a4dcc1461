-- Each way in which an access point takes a reassociation request.
use Rattle.std.proofs.Common.{◌≡◌, ◌∙◌, ℕ, true, false, List, Option, Some, None, sym, ap, subst}
use Rattle.rsn_elements.specs.Elements.{ElementFields}
use Rattle.run_journal.specs.declared.acts.Kind.TheVariants as kind
use Rattle.run_journal.specs.declared.acts.Reason.{Reason}
use Rattle.run_journal.specs.declared.acts.Outcome.TheVariants.{Accepted, Answered, Refused}
use Rattle.run_journal.specs.declared.reply.Reply.{Reply}
use Rattle.run_journal.specs.Replies.{IsEmpty}
use Rattle.domain_rules.specs.Rows.{refused_status}
use Rattle.group_key.specs.declared.news.News.{News}
use Rattle.ft_exchange.specs.Judged.{Wanted, reassociation_reason}
use Rattle.ft_exchange.specs.Refusals.{RefusesReassocBy, RefusesReassoc}
use Rattle.ft_exchange.specs.Sent.{HasFrame, Sends}
use Rattle.ft_exchange.specs.State.{TargetState}
use Rattle.ft_exchange.specs.Exchange.{wanted_at, request_between, request_tried, Installs}
use Rattle.ft_exchange.specs.TargetSteps.{IsReassocTaken}
use Rattle.ft_exchange.specs.Tried.{input_of, tried, tried_reason, verified_key}
use Rattle.ft_exchange.specs.declared.mic.Between.{Between}
use Rattle.ft_exchange.specs.declared.mic.Tried.{Tried}
use Rattle.ft_exchange.specs.declared.place.Place.{Place}
use Rattle.ft_exchange.proofs.AuthExits.{Tells, sends_tell, same_tells}
use Rattle.ft_exchange.proofs.StationAuths.{quiet_empty}
use Rattle.ft_exchange.proofs.TargetReassocs.{reassoc_tried, reassoc_refused, reassoc_answered, reassoc_accepted}

-- what came of nonces and MIC, under a target that is the same
pub found : (s v : TargetState) (e : ElementFields) (w : Between) (t : Tried) → v ≡ s → w ≡ request_between s → t ≡ tried v.key e.fte (input_of w e) → t ≡ request_tried s e
found s v e w t same ends is = is ∙ ap (λ (y : TargetState). tried y.key e.fte (input_of w e)) same ∙ ap (λ (z : Between). tried s.key e.fte (input_of z e)) ends

pub exit_tried : (e : ElementFields) (n : News) (s : TargetState) (t : Tried) (o : Option Reason) (why : Reason) (r : Reply) → t ≡ request_tried s e → o ≡ tried_reason t → o ≡ Some why → IsEmpty r
    → IsReassocTaken e n s s (Refused why) r
exit_tried e n s t o why r is tells refuses empty = reassoc_tried e n s why r (ap (λ (y : Tried). tried_reason y) (sym is) ∙ sym tells ∙ refuses) (quiet_empty r empty)

-- they refuse nothing, and this KCK verified, if one did
pub record Passed (s : TargetState) (e : ElementFields) (k : Option (List ℕ)) : Type 0 where
  pub right : tried_reason (request_tried s e) ≡ None
  pub verified : k ≡ verified_key s.key (request_tried s e)

pub passed : (e : ElementFields) (s v : TargetState) (t : Tried) (o : Option Reason) (k : Option (List ℕ)) → v ≡ s → t ≡ request_tried s e → o ≡ tried_reason t → o ≡ None → k ≡ verified_key v.key t → Passed s e k
passed e s v t o k same is tells right verified = record {
  right = ap (λ (y : Tried). tried_reason y) (sym is) ∙ sym tells ∙ right;
  verified = verified ∙ ap (λ (y : TargetState). verified_key y.key t) same ∙ ap (λ (y : Tried). verified_key s.key y) is;
}

-- the elements behind them
pub fault_is : (e : ElementFields) (s : TargetState) (x : Wanted) (f y : Option Reason) → x ≡ wanted_at s → f ≡ reassociation_reason x e true → f ≡ y → reassociation_reason (wanted_at s) e true ≡ y
fault_is e s x f y wants is has = sym (is ∙ ap (λ (z : Wanted). reassociation_reason z e true) wants) ∙ has

refusal_tells : (w : Place) (o : Option ℕ) (old r : Reply) → old.len ≡ 0 → old.sealed ≡ None → RefusesReassocBy w o old r → Tells old r
refusal_tells w None old r len sealed same = same_tells old r len sealed same
refusal_tells w (Some code) old r len sealed sends = sends_tell _ kind.ReResp old r sends

pub exit_elements : (e : ElementFields) (n : News) (s v : TargetState) (k : Option (List ℕ)) (why : Reason) (old r : Reply) → Passed s e k → v ≡ s → reassociation_reason (wanted_at s) e true ≡ Some why → IsEmpty old
    → RefusesReassoc v.place why (record old { verified = k }) r → IsReassocTaken e n s s (Refused why) r
exit_elements e n s v k why old r p same refuses empty answers =
    let mid : Reply = record old { verified = k } in
    let answers_s : RefusesReassoc s.place why mid r = subst (λ (y : TargetState). RefusesReassoc y.place why mid r) same answers in
    let t : Tells mid r = refusal_tells s.place (refused_status why) mid r empty.len empty.sealed answers_s in
    reassoc_refused e n s why mid r p.right refuses empty.len (t.verified ∙ p.verified) (record { frame = tt; sealed = t.sealed; verified = tt; derived = t.derived ∙ empty.derived; installed = t.installed ∙ empty.installed; gtk = t.gtk ∙ empty.gtk; igtk = t.igtk ∙ empty.igtk; looked = t.looked ∙ empty.looked }) t.whole answers_s

pub exit_held : (e : ElementFields) (n : News) (s v : TargetState) (k : Option (List ℕ)) (old r : Reply) → Passed s e k → v ≡ s → reassociation_reason (wanted_at s) e true ≡ None → v.is_installed ≡ true → IsEmpty old
    → Sends s.stored kind.ReResp (Some v.key.ptk.kck) (record old { verified = k }) r → IsReassocTaken e n s s Answered r
exit_held e n s v k old r p same accepts held empty sends =
    reassoc_answered e n s r p.right accepts (ap (λ (y : TargetState). y.is_installed) (sym same) ∙ held) (sends.verified ∙ p.verified)
    (record { frame = tt; sealed = tt; verified = tt; derived = sends.derived ∙ empty.derived; installed = sends.installed ∙ empty.installed; gtk = sends.gtk ∙ empty.gtk; igtk = sends.igtk ∙ empty.igtk; looked = sends.looked ∙ empty.looked })
    (subst (λ (y : TargetState). HasFrame s.stored kind.ReResp (Some y.key.ptk.kck) r) same sends.frame)

pub exit_pends : (e : ElementFields) (m n : News) (s v t : TargetState) (k : Option (List ℕ)) (old r : Reply) → m ≡ n → Passed s e k → v ≡ s → reassociation_reason (wanted_at s) e true ≡ None → v.is_installed ≡ false → IsEmpty old
    → Installs m s t (record old { verified = k }) r → IsReassocTaken e n s t Accepted r
exit_pends e m n s v t k old r news p same accepts pends empty i =
    let f : Installs n s t (record old { verified = k }) r = subst (λ (x : News). Installs x s t (record old { verified = k }) r) news i in
    reassoc_accepted e n s t (record old { verified = k }) r p.right accepts (ap (λ (y : TargetState). y.is_installed) (sym same) ∙ pends) p.verified
    (record { frame = tt; sealed = tt; verified = tt; derived = f.derived ∙ empty.derived; installed = tt; gtk = f.gtk ∙ empty.gtk; igtk = f.igtk ∙ empty.igtk; looked = f.looked ∙ empty.looked }) f
