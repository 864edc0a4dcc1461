-- Each way in which an access point takes an authentication request.
use Rattle.std.proofs.Common.{◌≡◌, ◌∙◌, ℕ, Bool, true, List, Option, Some, None, refl, sym, ap, subst, arith}
use Rattle.std.specs.Prelude.{Result, Ok, Err, option_and_then}
use Rattle.domain_base.specs.declared.names.Akm.TheVariants.{FtPsk}
use Rattle.domain_base.specs.declared.names.Mac.{Mac}
use Rattle.domain_base.specs.declared.names.Node.TheVariants.{Ap, Sta}
use Rattle.key_hierarchy.specs.declared.answers.PullAnswer.{PullAnswer}
use Rattle.key_hierarchy.specs.Sizes.{IsR0khId}
use Rattle.rsn_elements.specs.Framing.{Says}
use Rattle.rsn_elements.specs.Transition.{FteFields, SpellsFte, SpellsR0khId, has_id}
use Rattle.rsn_elements.specs.Elements.{ElementFields, HasRaw, IsRaw}
use Rattle.run_journal.specs.declared.domain.Domain.{Domain}
use Rattle.run_journal.specs.Events.{protects}
use Rattle.run_journal.specs.declared.acts.Kind.{Kind}
use Rattle.run_journal.specs.declared.acts.Kind.TheVariants as kind
use Rattle.run_journal.specs.declared.acts.Reason.{Reason}
use Rattle.run_journal.specs.declared.acts.Reason.TheVariants as reason
use Rattle.run_journal.specs.declared.acts.Outcome.TheVariants.{Accepted, Answered, Refused}
use Rattle.run_journal.specs.declared.reply.Reply.{Reply}
use Rattle.run_journal.specs.Replies.{IsEmpty, IsWhole}
use Rattle.domain_rules.specs.FastTransition.{single}
use Rattle.domain_rules.specs.Network.{mac}
use Rattle.domain_rules.specs.Rows.{refused_status}
use Rattle.domain_rules.specs.TransitionKeys.{Asked, asked, asked_by}
use Rattle.ft_exchange.specs.Asking.{is_pending_repeated, unnamed_reason, IsLookedBy, IsLooked}
use Rattle.ft_exchange.specs.Judged.{request_reason}
use Rattle.ft_exchange.specs.Refusals.{RefusesAuthBy, RefusesAuth, AnswersPending}
use Rattle.ft_exchange.specs.Sent.{Sends}
use Rattle.ft_exchange.specs.State.{TargetState}
use Rattle.ft_exchange.specs.Stands.{IsPlace}
use Rattle.ft_exchange.specs.Exchange.{Begins}
use Rattle.ft_exchange.specs.TargetSteps.{IsAuthTaken, LooksBy}
use Rattle.ft_exchange.specs.Topics.{TellsOnly, auth_request_topics}
use Rattle.ft_exchange.specs.declared.looking.Granted.{Granted}
use Rattle.ft_exchange.specs.declared.place.Place.{Place}
use Rattle.ft_exchange.proofs.StationAuths.{quiet_empty}
use Rattle.ft_exchange.proofs.StationRows.{whole_quiet}
use Rattle.ft_exchange.proofs.TargetAuths.{ok, Asks, IsKnownBy, auth_other, auth_elements, auth_unnamed, auth_unheld, auth_repeated, auth_granted}

-- ---- what a refusal tells

pub record Tells (old r : Reply) : Type 0 where
  pub sealed : r.sealed ≡ None
  pub verified : r.verified ≡ old.verified
  pub derived : r.derived ≡ old.derived
  pub installed : r.installed ≡ old.installed
  pub gtk : r.gtk ≡ old.gtk
  pub igtk : r.igtk ≡ old.igtk
  pub looked : r.looked ≡ old.looked
  pub whole : IsWhole r

whole_none : (r : Reply) → r.len ≡ 0 → r.sealed ≡ None → IsWhole r
whole_none r len sealed = record { few = omega (arith, len); sealed = λ kck some. (let none : None ≡ Some kck = sym sealed ∙ some in cc) }

pub sends_tell : (octets : List ℕ) (k : Kind) (old r : Reply) → Sends octets k None old r → Tells old r
sends_tell octets k old r s = record { sealed = s.frame.sealed_is; verified = s.verified; derived = s.derived; installed = s.installed; gtk = s.gtk; igtk = s.igtk; looked = s.looked; whole = s.frame.whole }

pub same_tells : (old r : Reply) → old.len ≡ 0 → old.sealed ≡ None → r ≡ old → Tells old r
same_tells old r len sealed same = subst (λ (x : Reply). Tells old x) (sym same) (record { sealed = sealed; verified = refl; derived = refl; installed = refl; gtk = refl; igtk = refl; looked = refl; whole = whole_none old len sealed })

refusal_tells : (w : Place) (o : Option ℕ) (old r : Reply) → old.len ≡ 0 → old.sealed ≡ None → RefusesAuthBy w o old r → Tells old r
refusal_tells w None old r len sealed same = same_tells old r len sealed same
refusal_tells w (Some code) old r len sealed sends = sends_tell _ kind.FtResp old r sends

pub auth_tells : (w : Place) (why : Reason) (old r : Reply) → old.len ≡ 0 → old.sealed ≡ None → RefusesAuth w why old r → Tells old r
auth_tells w why old r len sealed refuses = refusal_tells w (refused_status why) old r len sealed refuses

-- a reply that told of nothing but a look
pub record MayLook (r : Reply) : Type 0 where
  pub verified : r.verified ≡ None
  pub derived : r.derived ≡ None
  pub installed : r.installed ≡ None
  pub gtk : r.gtk ≡ None
  pub igtk : r.igtk ≡ None

may_look : (r : Reply) → IsEmpty r → MayLook r
may_look r e = record { verified = e.verified; derived = e.derived; installed = e.installed; gtk = e.gtk; igtk = e.igtk }

refusal_only : (why : Reason) (old r : Reply) → MayLook old → Tells old r → TellsOnly (auth_request_topics (Refused why)) r
refusal_only why old r m t = record {
  frame = tt;
  sealed = t.sealed;
  verified = t.verified ∙ m.verified;
  derived = t.derived ∙ m.derived;
  installed = t.installed ∙ m.installed;
  gtk = t.gtk ∙ m.gtk;
  igtk = t.igtk ∙ m.igtk;
  looked = tt;
}

-- ---- before a look

-- its elements are judged by what the network protects
pub reason_at : (d : Domain) (a sta : ℕ) (e : ElementFields) (w : Place) (o : Option Reason) → IsPlace d (Ap a) (Sta sta) w → request_reason w.mfp d.mdid e ≡ o → request_reason (protects d) d.mdid e ≡ o
reason_at d a sta e w o at is = ap (λ (b : Bool). request_reason b d.mdid e) (sym at.mfp_is) ∙ is

pub exit_other : (d : Domain) (a sta : ℕ) (e : ElementFields) (anonce : Option (List ℕ)) (o : Option TargetState) (r : Reply) → (d.akm ≡ FtPsk → ⊥) → IsEmpty r → IsAuthTaken d a sta e anonce o o (Refused reason.Unawaited) r
exit_other d a sta e anonce o r other empty = auth_other d a sta e anonce o r other (quiet_empty r empty) (whole_quiet None r (quiet_empty r empty))

pub exit_elements : (d : Domain) (a sta : ℕ) (e : ElementFields) (anonce : Option (List ℕ)) (o : Option TargetState) (why : Reason) (w : Place) (old r : Reply) → d.akm ≡ FtPsk → request_reason w.mfp d.mdid e ≡ Some why → IsPlace d (Ap a) (Sta sta) w → IsEmpty old
    → RefusesAuth w why old r → IsAuthTaken d a sta e anonce o o (Refused why) r
exit_elements d a sta e anonce o why w old r suite right at empty refuses =
    let t : Tells old r = auth_tells w why old r empty.len empty.sealed refuses in
    auth_elements d a sta e anonce o why w old r suite (reason_at d a sta e w (Some why) at right) at empty.len (refusal_only why old r (may_look old empty) t) (t.looked ∙ empty.looked) t.whole refuses

pub exit_repeated : (d : Domain) (a sta : ℕ) (e : ElementFields) (anonce : Option (List ℕ)) (o : Option TargetState) (x : Asked) (old r : Reply) → d.akm ≡ FtPsk → request_reason (protects d) d.mdid e ≡ None → asked e ≡ Some x → is_pending_repeated x o ≡ true → IsEmpty old
    → AnswersPending o old r → IsAuthTaken d a sta e anonce o o Answered r
exit_repeated d a sta e anonce None x old r suite right asks again empty answers = absurd cc
exit_repeated d a sta e anonce (Some s) x old r suite right asks again empty answers =
    auth_repeated d a sta e anonce s x r suite right asks again answers.frame (record {
      frame = tt;
      sealed = answers.frame.sealed_is;
      verified = answers.verified ∙ empty.verified;
      derived = answers.derived ∙ empty.derived;
      installed = answers.installed ∙ empty.installed;
      gtk = answers.gtk ∙ empty.gtk;
      igtk = answers.igtk ∙ empty.igtk;
      looked = answers.looked ∙ empty.looked;
    })

-- ---- behind a look

-- what is known of the R0KH-ID by what was answered
abbrev pub Knowing : Domain → Asked → (List ℕ → PullAnswer → Type 0) → Type 0
Knowing d x Answers = (name : List ℕ) (answer : PullAnswer) → Answers name answer → IsKnownBy d x.r0kh_id answer

abbrev pub err : Reason → Result Granted Reason
err why = Err why

same_err : (y z : Reason) → err y ≡ err z → y ≡ z
same_err y z is = cc

never : (g : Granted) (why : Reason) → ok g ≡ err why → ⊥
never g why is = cc

looked_may : (old mid : Reply) (answer : PullAnswer) → IsEmpty old → mid ≡ record old { looked = Some answer } → MayLook mid
looked_may old mid answer empty is = subst (λ (z : Reply). MayLook z) (sym is) (record { verified = empty.verified; derived = empty.derived; installed = empty.installed; gtk = empty.gtk; igtk = empty.igtk })

begins_only : (w : Place) (x : Asked) (g : Granted) (t : TargetState) (old r : Reply) → MayLook old → Begins w x g t old r → TellsOnly (auth_request_topics Accepted) r
begins_only w x g t old r m f = record {
  frame = tt;
  sealed = f.sends.sealed_is;
  verified = f.verified ∙ m.verified;
  derived = tt;
  installed = f.installed ∙ m.installed;
  gtk = f.gtk ∙ m.gtk;
  igtk = f.igtk ∙ m.igtk;
  looked = tt;
}

pub exit_granted : (d : Domain) (a sta : ℕ) (e : ElementFields) (anonce : Option (List ℕ)) (o : Option TargetState) (x : Asked) (g : Granted) (w : Place) (t : TargetState) (Answers : List ℕ → PullAnswer → Type 0) (Same : Type 0) (old mid r : Reply) → Asks d e o x → IsEmpty old
    → IsLooked d x anonce Answers Same old mid (Ok g) → Knowing d x Answers → IsPlace d (Ap a) (Sta sta) w → Begins w x g t mid r → IsAuthTaken d a sta e anonce o (Some t) Accepted r
exit_granted d a sta e anonce o x g w t Answers Same old mid r k empty looked knows at begins = by (single x.names) refl looked.by_name
  where
    by : (n : Option (List ℕ)) → single x.names ≡ n → IsLookedBy d x anonce Answers Same old mid n (Ok g) → IsAuthTaken d a sta e anonce o (Some t) Accepted r
    by None is u = absurd (never g (unnamed_reason d x.r0kh_id) u.is)
    by (Some name) is i = auth_granted d a sta e anonce o x name i.answer g w t mid r k is (knows name i.answer i.answered) (sym i.is) at (ap (λ (z : Reply). z.looked) i.reply) (begins_only w x g t mid r (looked_may old mid i.answer empty i.reply) begins) begins

pub exit_refused : (d : Domain) (a sta : ℕ) (e : ElementFields) (anonce : Option (List ℕ)) (o : Option TargetState) (x : Asked) (why : Reason) (w : Place) (Answers : List ℕ → PullAnswer → Type 0) (Same : Type 0) (old mid r : Reply) → Asks d e o x → IsEmpty old
    → IsLooked d x anonce Answers Same old mid (Err why) → Knowing d x Answers → IsPlace d (Ap a) (Sta sta) w → RefusesAuth w why mid r → IsAuthTaken d a sta e anonce o o (Refused why) r
exit_refused d a sta e anonce o x why w Answers Same old mid r k empty looked knows at refuses = by (single x.names) refl looked.by_name
  where
    by : (n : Option (List ℕ)) → single x.names ≡ n → IsLookedBy d x anonce Answers Same old mid n (Err why) → IsAuthTaken d a sta e anonce o o (Refused why) r
    by None is u =
        let len : mid.len ≡ 0 = ap (λ (z : Reply). z.len) u.reply ∙ empty.len in
        let t : Tells mid r = auth_tells w why mid r len (ap (λ (z : Reply). z.sealed) u.reply ∙ empty.sealed) refuses in
        let why_is : why ≡ unnamed_reason d x.r0kh_id = same_err why (unnamed_reason d x.r0kh_id) u.is in
        subst (λ (y : Reason). IsAuthTaken d a sta e anonce o o (Refused y) r) (sym why_is)
        (auth_unnamed d a sta e anonce o x w mid r k is at len (refusal_only (unnamed_reason d x.r0kh_id) mid r (subst (λ (z : Reply). MayLook z) (sym u.reply) (may_look old empty)) t) (t.looked ∙ ap (λ (z : Reply). z.looked) u.reply ∙ empty.looked) t.whole
        (subst (λ (y : Reason). RefusesAuth w y mid r) why_is refuses))
    by (Some name) is i =
        let len : mid.len ≡ 0 = ap (λ (z : Reply). z.len) i.reply ∙ empty.len in
        let t : Tells mid r = auth_tells w why mid r len (ap (λ (z : Reply). z.sealed) i.reply ∙ empty.sealed) refuses in
        auth_unheld d a sta e anonce o x name i.answer why w mid r k is (knows name i.answer i.answered) (sym i.is) at len (refusal_only why mid r (looked_may old mid i.answer empty i.reply) t)
        (t.looked ∙ ap (λ (z : Reply). z.looked) i.reply) t.whole refuses

-- ---- what is told of a look

pub exit_looks : (d : Domain) (a sta : ℕ) (e : ElementFields) (anonce : Option (List ℕ)) (x : Asked) (w : Place) (P : List ℕ → Mac → Mac → List ℕ → PullAnswer → Type 0) (Same : Type 0) (old mid r : Reply) (result : Result Granted Reason) → IsPlace d (Ap a) (Sta sta) w
    → asked e ≡ Some x → IsEmpty old → IsLooked d x anonce (λ name answer. P x.r0kh_id w.own w.peer name answer) Same old mid result → r.looked ≡ mid.looked
    → LooksBy e (λ id name answer. P id (mac d (Ap a)) (mac d (Sta sta)) name answer) Same r.looked
exit_looks d a sta e anonce x w P Same old mid r result at asks empty looked told = by (single x.names) refl looked.by_name
  where
    by : (n : Option (List ℕ)) → single x.names ≡ n → IsLookedBy d x anonce (λ name answer. P x.r0kh_id w.own w.peer name answer) Same old mid n result
        → LooksBy e (λ id name answer. P id (mac d (Ap a)) (mac d (Sta sta)) name answer) Same r.looked
    by None is u = subst (λ (z : Option PullAnswer). LooksBy e (λ id name answer. P id (mac d (Ap a)) (mac d (Sta sta)) name answer) Same z) (sym (told ∙ ap (λ (z : Reply). z.looked) u.reply ∙ empty.looked)) u.same
    by (Some name) is i =
        subst (λ (z : Option PullAnswer). LooksBy e (λ id name answer. P id (mac d (Ap a)) (mac d (Sta sta)) name answer) Same z) (sym (told ∙ ap (λ (z : Reply). z.looked) i.reply)) (record {
          a = x;
          asks = asks;
          name = name;
          named = is;
          answered = subst (λ (m : Mac). P x.r0kh_id m (mac d (Sta sta)) name i.answer) at.own (subst (λ (m : Mac). P x.r0kh_id w.own m name i.answer) at.peer i.answered);
        })

-- ---- nothing was looked up

pub looks_none : (e : ElementFields) (A : List ℕ → List ℕ → PullAnswer → Type 0) (Same : Type 0) (z : Option PullAnswer) → z ≡ None → Same → LooksBy e A Same z
looks_none e A Same z none same = subst (λ (y : Option PullAnswer). LooksBy e A Same y) (sym none) same

-- a response that goes out once more tells of the look that was told before
pending_looked : (o : Option TargetState) (old r : Reply) → AnswersPending o old r → r.looked ≡ old.looked
pending_looked None old r same = ap (λ (z : Reply). z.looked) same
pending_looked (Some s) old r sends = sends.looked

pub looks_repeated : (e : ElementFields) (A : List ℕ → List ℕ → PullAnswer → Type 0) (Same : Type 0) (o : Option TargetState) (old r : Reply) → IsEmpty old → AnswersPending o old r → Same → LooksBy e A Same r.looked
looks_repeated e A Same o old r empty answers same = looks_none e A Same r.looked (pending_looked o old r answers ∙ empty.looked) same

-- ---- what a look leaves, and what is asked for

-- a look sends nothing
pub looked_len : (d : Domain) (x : Asked) (anonce : Option (List ℕ)) (A : List ℕ → PullAnswer → Type 0) (Same : Type 0) (old mid : Reply) (result : Result Granted Reason) → IsLooked d x anonce A Same old mid result → old.len ≡ 0 → mid.len ≡ 0
looked_len d x anonce A Same old mid result looked len = by (single x.names) looked.by_name
  where
    by : (n : Option (List ℕ)) → IsLookedBy d x anonce A Same old mid n result → mid.len ≡ 0
    by None u = ap (λ (z : Reply). z.len) u.reply ∙ len
    by (Some name) i = ap (λ (z : Reply). z.len) i.reply ∙ len

id_fits : (body id : List ℕ) → SpellsR0khId body id → IsR0khId id
id_fits body id (least, most, is) = subst (λ (z : List ℕ). IsR0khId z) (sym is) (record { least = least; most = most })

same_asked : (y x : Asked) → Some y ≡ Some x → y ≡ x
same_asked y x is = cc

no_asked : (x : Asked) → None ≡ Some x → ⊥
no_asked x is = cc

asked_in : (fte : Option FteFields) (octets names : Option (List ℕ)) (x : Asked) → IsRaw 0x37 SpellsFte fte octets → asked_by fte (option_and_then (λ (f : FteFields). f.r0kh_id) fte) names ≡ Some x → IsR0khId x.r0kh_id
asked_in None octets names x raw is = absurd (no_asked x is)
asked_in (Some f) octets names x raw is = by f.r0kh_id raw.2.say.third is
  where
    by : (o : Option (List ℕ)) → Says (has_id 3) SpellsR0khId raw.2.subelements o → asked_by (Some f) o names ≡ Some x → IsR0khId x.r0kh_id
    by None say is = absurd (no_asked x is)
    by (Some id) say is = subst (λ (y : Asked). IsR0khId y.r0kh_id) (same_asked _ x is) (id_fits say.0.body id say.2)

-- the R0KH-ID for which a request asks is one
pub asked_id : (e : ElementFields) (x : Asked) → HasRaw e → asked e ≡ Some x → IsR0khId x.r0kh_id
asked_id e x raw is = asked_in e.fte e.fte_octets _ x raw.fte is
