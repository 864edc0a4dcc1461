-- An EAPOL-Key message, by what there is in the place of its station.
use Rattle.std.proofs.Common.{◌≡◌, false, List, Option, Some, None, refl, sym, ap, subst, ◌∙◌, inl, inr}
use Rattle.run_journal.specs.declared.acts.Outcome.{Outcome}
use Rattle.run_journal.specs.declared.acts.Outcome.TheVariants.{Refused}
use Rattle.run_journal.specs.declared.acts.Reason.{Reason}
use Rattle.run_journal.specs.declared.acts.Reason.TheVariants as reason
use Rattle.run_journal.specs.declared.acts.Act.{Act}
use Rattle.run_journal.specs.declared.reply.Keyed.{Keyed}
use Rattle.run_journal.specs.declared.reply.Reply.{Reply}
use Rattle.run_journal.specs.Replies.{IsEmpty}
use Rattle.domain_rules.specs.Replies.{Pair, Taken, Between, replied_acts}
use Rattle.authenticator.specs.State.{State as Part}
use Rattle.authenticator.specs.Taken.{Given, Installs}
use Rattle.ft_exchange.specs.State.{TargetState}
use Rattle.ap_node.specs.declared.station.Station.{Station}
use Rattle.ap_node.specs.declared.station.Attempt.{Attempt as Trying}
use Rattle.ap_node.specs.declared.station.Attempt.TheVariants.{Association, Transition}
use Rattle.ap_node.specs.declared.station.Session.{Session as Kept}
use Rattle.ap_node.specs.State.{no_station}
use Rattle.ap_node.specs.Parts.{IsNotByAssociation, IsForSession, after_step, kept_after, InAttempt, HearsInSession, IsHanded}
use Rattle.ap_node.proofs.InUse.{the_station}

-- ---- the attempt that there is

-- is by association
pub by_association : (o : Option Trying) (f : Trying) (a : Part) → o ≡ Some f → f ≡ Association a → o ≡ Some (Association a)
by_association o f a there is = there ∙ ap (λ (x : Trying). Some x) is

-- or by fast transition
pub not_by_transition : (f : Trying) (t : TargetState) → f ≡ Transition t → IsNotByAssociation (Some f)
not_by_transition f t is = subst (λ (x : Trying). IsNotByAssociation (Some x)) (sym is) tt

-- or there is none
pub not_by_none : (o : Option Trying) → o ≡ None → IsNotByAssociation o
not_by_none o none = subst (λ (x : Option Trying). IsNotByAssociation x) (sym none) tt

-- what there is, by another name of the attempt
pub place_as : (x : Station) (o : Option Trying) → x.attempt ≡ o → the_station o x.session ≡ x
place_as x o is = ap (λ (a : Option Trying). the_station a x.session) (sym is)

-- ---- a refusal installs nothing

pub refused_none : (o : Outcome) (r : Reply) (part : Part) (why : Reason) → Installs o r part → o ≡ Refused why → r.installed ≡ None
refused_none o r part why installs is = by r.installed refl
  where
    by : (i : Option Keyed) → r.installed ≡ i → r.installed ≡ None
    by None none = none
    by (Some y) some = absurd (cc (is, (installs y some).0))

-- the session then does not go by the part that it had
pub kept_same : (part was : Part) (i : Option Keyed) (s : Kept) → kept_after part i (record { part = was; key = s.key; came_of = s.came_of }) ≡ kept_after part i s
kept_same part was None s = refl
kept_same part was (Some y) s = refl

-- then a session is as it was, where its part is
pub kept_back : (part : Part) (i : Option Keyed) (s : Kept) → i ≡ None → part ≡ s.part → kept_after part i s ≡ s
kept_back part i s none same = ap (λ (j : Option Keyed). kept_after part j s) none ∙ ap (λ (q : Part). kept_after q None s) same

-- what a part that took a message has become, by what it installed
pub seated : (x y : Station) (part : Part) (i : Option Keyed) → ((p : Part) → Some (Association part) ≡ Some (Association p) → y ≡ after_step p i (the_station (Some (Association part)) x.session)) → y ≡ after_step part i x
seated x y part None is = is part refl
seated x y part (Some k) is = is part refl

pub step_back : (x y : Station) (was part : Part) (i : Option Keyed) → x.attempt ≡ Some (Association was) → y ≡ after_step part i x → i ≡ None → part ≡ was → y ≡ x
step_back x y was part i there is none same =
    is ∙ ap (λ (z : Option Keyed). after_step part z x) none ∙ ap (λ (p : Part). the_station (Some (Association p)) x.session) same ∙ place_as x (Some (Association was)) there

-- ---- as the code comes by them

-- by other names of what there was and is
pub handed_so : (w : Pair) (x : Given) (t : Taken) (b : Between) (o n old new : Station) (acts : List Act) → o ≡ old → n ≡ new → IsHanded w x t b old new acts → IsHanded w x t b o n acts
handed_so w x t b o n old new acts was now is =
    subst (λ (s : Station). IsHanded w x t b s n acts) (sym was) (subst (λ (s : Station). IsHanded w x t b old s acts) (sym now) is)

pub attempt_so : (w : Pair) (x : Given) (t : Taken) (b : Between) (old new now : Station) (acts : List Act) → now ≡ new → InAttempt w x t b old new acts → IsHanded w x t b old now acts
attempt_so w x t b old new now acts is at = inl (subst (λ (s : Station). InAttempt w x t b old s acts) (sym is) at)

pub in_session_so : (w : Pair) (x : Given) (t : Taken) (b : Between) (old new : Station) (s now : Kept) (acts : List Act) → old.session ≡ Some s → new ≡ the_station old.attempt (Some now) → IsForSession x.message old → HearsInSession w x t b s now acts
    → ((why : Reason) → t.outcome ≡ Refused why → now ≡ s) → IsHanded w x t b old new acts
in_session_so w x t b old new s now acts there is which hears refused = inr (inl (record {
  s = s;
  now = now;
  there = there;
  is = is;
  which = which;
  hears = hears;
  refused = λ why came. is ∙ ap (λ (k : Kept). the_station old.attempt (Some k)) (refused why came) ∙ sym (ap (λ (o : Option Kept). the_station old.attempt o) there);
}))

pub in_none_so : (w : Pair) (x : Given) (t : Taken) (b : Between) (old new : Station) (r : Reply) (acts : List Act) → old.session ≡ None → new ≡ old → IsForSession x.message old → t.outcome ≡ Refused reason.Unawaited → IsEmpty r → acts ≡ replied_acts w false t r b → IsHanded w x t b old new acts
in_none_so w x t b old new r acts none is which came empty says = inr (inr (record { reply = r; none = none; is = is; which = which; came = came; empty = empty; says = says }))

-- without a place
pub in_nothing : (w : Pair) (x : Given) (t : Taken) (b : Between) (o n : Station) (r : Reply) (acts : List Act) → o ≡ no_station → n ≡ no_station → t.outcome ≡ Refused reason.Unawaited → IsEmpty r → acts ≡ replied_acts w false t r b → IsHanded w x t b o n acts
in_nothing w x t b o n r acts was now came empty says = handed_so w x t b o n no_station no_station acts was now (in_none_so w x t b no_station no_station r acts refl refl (inr tt) came empty says)
