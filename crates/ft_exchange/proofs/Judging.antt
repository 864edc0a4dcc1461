-- Each way in which a reassociation response is judged.
use Rattle.std.proofs.Common.{◌≡◌, ◌≢◌, ◌∙◌, ℕ, Bool, true, false, List, Option, Some, None, refl, sym, ap, subst}
use Rattle.std.proofs.lemmas.Bool.{ne_eqb}
use Rattle.std.specs.Prelude.{◌==◌, ◌&&◌, ◌||◌, not, is_some, Result, Ok, Err}
use Rattle.rsn_elements.specs.Transition.{FteFields}
use Rattle.rsn_elements.specs.Elements.{ElementFields}
use Rattle.run_journal.specs.declared.acts.Reason.{Reason}
use Rattle.run_journal.specs.declared.acts.Reason.TheVariants as reason
use Rattle.run_journal.specs.declared.reply.Reply.{Reply}
use Rattle.run_journal.specs.Replies.{IsEmpty}
use Rattle.domain_rules.specs.FastTransition.{to_unwrap, igtk_to_unwrap, counts_three, names_both, is_named}
use Rattle.ft_exchange.specs.Elements.{elements_status}
use Rattle.ft_exchange.specs.Group.{IsOpened, AreOpened, plain_of, is_bad, has_bad, carries_keys, AreCarried}
use Rattle.ft_exchange.specs.Judged.{Wanted, status_first, unless, reassociation_reason, opened_reason, IsJudged}
use Rattle.ft_exchange.specs.State.{OriginatorState}
use Rattle.ft_exchange.specs.Exchange.{wanted_by, response_tried, IsQuiet, IsTriedFirst, IsResponse}
use Rattle.ft_exchange.specs.Tried.{tried_reason, verified_key}
use Rattle.ft_exchange.specs.declared.group.CarriedKeys.{CarriedKeys}
use Rattle.ft_exchange.specs.declared.group.Opened.{Opened}
use Rattle.ft_exchange.specs.declared.group.Opened.TheVariants.{Nothing, Bad, Plain}
use Rattle.ft_exchange.specs.declared.group.Unwrapped.{Unwrapped}
use Rattle.ft_exchange.specs.declared.originator.Transit.{Transit}
use Rattle.ft_exchange.proofs.Trying.{no_key}

-- ---- behind the MIC

-- what stands behind the wrapped octets
abbrev behind : Wanted → ℕ → ElementFields → Option Reason
behind x status e = unless (status == 0) (reason.Status status) (reassociation_reason x e (carries_keys x.mfp e.fte))

opened_as : (x : Wanted) (status : ℕ) (e : ElementFields) (u : Unwrapped) (b : Bool) → has_bad u ≡ b → opened_reason x status e u ≡ unless (not b) reason.Wrap (behind x status e)
opened_as x status e u b is = ap (λ (c : Bool). unless (not c) reason.Wrap (behind x status e)) is

pub judged_bad : (x : Wanted) (kek : List ℕ) (status : ℕ) (e : ElementFields) (u : Unwrapped) → has_bad u ≡ true → AreOpened kek x.mfp e.fte u → IsJudged x kek status e (Err reason.Wrap)
judged_bad x kek status e u is opened = record { opened = u; is = opened; keys = opened_as x status e u true is }

other_status : (status : ℕ) → status ≢ 0 → (status == 0) ≡ false
other_status status other = ne_eqb status 0 other

pub judged_status : (x : Wanted) (kek : List ℕ) (status : ℕ) (e : ElementFields) (u : Unwrapped) → has_bad u ≡ false → AreOpened kek x.mfp e.fte u → status ≢ 0 → IsJudged x kek status e (Err (reason.Status status))
judged_status x kek status e u is opened not_zero = record {
  opened = u;
  is = opened;
  keys = opened_as x status e u false is ∙ ap (λ (b : Bool). unless b (reason.Status status) (reassociation_reason x e (carries_keys x.mfp e.fte))) (other_status status not_zero);
}

-- the plain text is there where there is something to be unwrapped
opened_some : (kek : List ℕ) (octets : Option (List ℕ)) (o : Opened) → is_bad o ≡ false → IsOpened kek octets o → is_some (plain_of o) ≡ is_some octets
opened_some kek octets Nothing other none = rw none refl
opened_some kek octets Bad other has = absurd (cc other)
opened_some kek octets (Plain key) other has = rw has.1 refl

first_right : (a b : Bool) → (a || b) ≡ false → a ≡ false
first_right true b is = absurd (cc is)
first_right false b is = refl

second_right : (a b : Bool) → (a || b) ≡ false → b ≡ false
second_right true b is = absurd (cc is)
second_right false b is = is

pub gtk_some : (kek : List ℕ) (protected : Bool) (f : Option FteFields) (u : Unwrapped) → has_bad u ≡ false → AreOpened kek protected f u → is_some (plain_of u.gtk) ≡ is_some (to_unwrap f)
gtk_some kek protected f u is opened = opened_some kek (to_unwrap f) u.gtk (first_right (is_bad u.gtk) (is_bad u.igtk) is) opened.gtk

pub igtk_some : (kek : List ℕ) (protected : Bool) (f : Option FteFields) (u : Unwrapped) → has_bad u ≡ false → AreOpened kek protected f u → is_some (plain_of u.igtk) ≡ is_some (igtk_to_unwrap protected f)
igtk_some kek protected f u is opened = opened_some kek (igtk_to_unwrap protected f) u.igtk (second_right (is_bad u.gtk) (is_bad u.igtk) is) opened.igtk

with_status : (x : Wanted) (status : ℕ) (e : ElementFields) (u : Unwrapped) (why : Option Reason) → has_bad u ≡ false → status ≡ 0 → reassociation_reason x e (carries_keys x.mfp e.fte) ≡ why → opened_reason x status e u ≡ why
with_status x status e u why other is_zero is = opened_as x status e u false other ∙ rw is_zero is

pub judged_fault : (x : Wanted) (kek : List ℕ) (status : ℕ) (e : ElementFields) (u : Unwrapped) (carries : Bool) (why : Reason) → has_bad u ≡ false → AreOpened kek x.mfp e.fte u → status ≡ 0 → carries_keys x.mfp e.fte ≡ carries
    → reassociation_reason x e carries ≡ Some why → IsJudged x kek status e (Err why)
judged_fault x kek status e u carries why other opened is_zero same is =
    record { opened = u; is = opened; keys = with_status x status e u (Some why) other is_zero (ap (λ (b : Bool). reassociation_reason x e b) same ∙ is) }

pub judged_keys : (x : Wanted) (kek : List ℕ) (status : ℕ) (e : ElementFields) (u : Unwrapped) (c : CarriedKeys) → has_bad u ≡ false → AreOpened kek x.mfp e.fte u → status ≡ 0 → carries_keys x.mfp e.fte ≡ true
    → AreCarried x.mfp e.fte u c → reassociation_reason x e true ≡ None → IsJudged x kek status e (Ok c)
judged_keys x kek status e u c other opened is_zero carries are is =
    record { opened = u; is = opened; keys = (with_status x status e u None other is_zero (ap (λ (b : Bool). reassociation_reason x e b) carries ∙ is), are) }

-- a response that is accepted carries the group keys
pub never_without : (x : Wanted) (e : ElementFields) → reassociation_reason x e false ≡ None → ⊥
never_without x e accepts = by_statuses (elements_status x.mfp x.mdid e) accepts
  where
    by_tests : (b c : Bool) (why : Option Reason) → unless (b && c && false) (reason.Status 55) why ≡ None → ⊥
    by_tests true true why is = cc
    by_tests true false why is = cc
    by_tests false c why is = cc

    by_statuses : (o : Option ℕ) → status_first o (unless (counts_three e.fte && names_both x.r1kh_id x.r0kh_id e.fte && false) (reason.Status 55) (unless (is_named x.name e) reason.Name None)) ≡ None → ⊥
    by_statuses (Some code) is = cc
    by_statuses None is = by_tests (counts_three e.fte) (names_both x.r1kh_id x.r0kh_id e.fte) (unless (is_named x.name e) reason.Name None) is

-- ---- with nonces and MIC

pub judged_first : (s : OriginatorState) (t : Transit) (status : ℕ) (e : ElementFields) (r : Reply) (why : Reason) → IsEmpty r → tried_reason (response_tried s t.key status e) ≡ Some why → IsResponse s t status e r (Err why)
judged_first s t status e r why empty is = record {
  judged = subst (λ (o : Option Reason). IsTriedFirst o (IsJudged (wanted_by s t.name) t.key.ptk.kek status e) (Err why)) (sym is) refl;
  quiet = record {
    len = empty.len;
    sealed = empty.sealed;
    verified = empty.verified ∙ sym (no_key t.key (response_tried s t.key status e) why is);
    derived = empty.derived;
    installed = empty.installed;
    gtk = empty.gtk;
    igtk = empty.igtk;
    looked = empty.looked;
  };
}

pub judged_then : (s : OriginatorState) (t : Transit) (status : ℕ) (e : ElementFields) (old r : Reply) (result : Result CarriedKeys Reason) → IsEmpty old → tried_reason (response_tried s t.key status e) ≡ None
    → r ≡ record old { verified = verified_key t.key (response_tried s t.key status e) } → IsJudged (wanted_by s t.name) t.key.ptk.kek status e result → IsResponse s t status e r result
judged_then s t status e old r result empty is told j = record {
  judged = subst (λ (o : Option Reason). IsTriedFirst o (IsJudged (wanted_by s t.name) t.key.ptk.kek status e) result) (sym is) j;
  quiet = subst (λ (x : Reply). IsQuiet (verified_key t.key (response_tried s t.key status e)) x) (sym told) (record {
    len = empty.len;
    sealed = empty.sealed;
    verified = refl;
    derived = empty.derived;
    installed = empty.installed;
    gtk = empty.gtk;
    igtk = empty.igtk;
    looked = empty.looked;
  });
}
