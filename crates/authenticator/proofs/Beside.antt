-- An attempt beside a session, and a session beside an attempt.
use Rattle.std.proofs.Common.{◌≡◌, ◌≢◌, ◌<◌, ◌^◌, ℕ, suc, Bool, true, false, Option, Some, None, refl, sym, ap, subst, ◌∙◌}
use Rattle.std.specs.Prelude.{is_some}
use Rattle.eapol_key.specs.declared.messages.Message.{Message}
use Rattle.eapol_key.specs.declared.messages.Message.TheVariants.{M1, M2, M3, M4, G1, G2}
use Rattle.run_journal.specs.declared.reply.Keyed.{Keyed}
use Rattle.authenticator.specs.Beside.{session_after, LeavesAttempt, LeavesAgain}
use Rattle.authenticator.specs.Counters.{last_for, moved}
use Rattle.authenticator.specs.Judged.{IsInVain}
use Rattle.authenticator.specs.Kinds.{renews_in}
use Rattle.authenticator.specs.State.{State}
use Rattle.authenticator.specs.declared.attempt.Attempt.{Attempt}
use Rattle.authenticator.specs.declared.authenticator.Again.{Again}
use Rattle.authenticator.specs.declared.authenticator.Again.TheVariants as again
use Rattle.authenticator.specs.declared.session.Session.{Session}
use Rattle.authenticator.proofs.Agreeing.{last_own}

-- the session goes on where no key was installed, and else is the new one
pub none_after : (o : Option Keyed) (now was : Option Session) → o ≡ None → was ≡ session_after o now was
none_after None now was none = refl
none_after (Some y) now was none = absurd (cc none)

pub some_after : (o : Option Keyed) (y : Keyed) (now was : Option Session) → o ≡ Some y → now ≡ session_after o now was
some_after None y now was some = absurd (cc some)
some_after (Some x) y now was some = refl

pub shown_as : (s : State) (a b : Option Attempt) (o q : Option Session) → a ≡ b → o ≡ q → record s { attempt = a; session = o } ≡ record s { attempt = b; session = q }
shown_as s a b o q e f = λ i. record s { attempt = e i; session = f i }

pub leaves_none : (o : Option Keyed) (old new : State) → o ≡ None → is_some new.attempt ≡ is_some old.attempt → LeavesAttempt o old new
leaves_none None old new none same = same
leaves_none (Some y) old new none same = absurd (cc none)

pub leaves_some : (o : Option Keyed) (y : Keyed) (old new : State) → o ≡ Some y → new.attempt ≡ None → LeavesAttempt o old new
leaves_some None y old new some none = absurd (cc some)
leaves_some (Some x) y old new some none = none

-- ---- sent again

not_g1 : (a : Attempt) (m : Message) → IsInVain a m → m ≢ G1
not_g1 a M1 vain = λ is. cc is
not_g1 a M3 vain = λ is. cc is
not_g1 a M2 vain = absurd vain
not_g1 a M4 vain = absurd vain
not_g1 a G1 vain = absurd vain
not_g1 a G2 vain = absurd vain

pub leaves_sent : (o : Option Attempt) (a : Attempt) (old new : State) → o ≡ Some a → is_some new.attempt ≡ true → LeavesAgain o again.Sent old new
leaves_sent None a old new some is = absurd (cc some)
leaves_sent (Some b) a old new some is = is

pub leaves_given_up : (o : Option Attempt) (a : Attempt) (m : Message) (old new : State) → o ≡ Some a → IsInVain a m → new.attempt ≡ None → LeavesAgain o (again.GaveUp m) old new
leaves_given_up None a m old new some vain none = absurd (cc some)
leaves_given_up (Some b) a m old new some vain none = (not_g1 a m vain, none)

-- in a session alone
pub leaves_alone : (o : Option Attempt) (came : Again) (old new : State) → o ≡ None → LeavesAgain None came old new → LeavesAgain o came old new
leaves_alone o came old new none at = subst (λ (x : Option Attempt). LeavesAgain x came old new) (sym none) at

-- ---- beside another session, where no key is renewed

pub moved_plain : (b : Bool) (counter : ℕ) (o : Option Session) → b ≡ false → moved b counter o ≡ o
moved_plain b counter o plain = ap (λ (c : Bool). moved c counter o) plain

pub plain_in : (s t : State) (a : Attempt) → s ≡ t → s.attempt ≡ Some a → renews_in t.attempt ≡ false → a.renews ≡ false
plain_in s t a same is plain = sym (ap renews_in is) ∙ ap (λ (z : State). renews_in z.attempt) same ∙ plain

pub last_plain : (a : Attempt) (o q : Option Session) → a.renews ≡ false → last_for a o ≡ last_for a q
last_plain a o q plain = last_own a o plain ∙ sym (last_own a q plain)

pub next_plain : (a : Attempt) (o q : Option Session) (counter : ℕ) → a.renews ≡ false → (suc (last_for a o) < 2 ^ 64 → counter ≡ suc (last_for a o)) → suc (last_for a q) < 2 ^ 64 → counter ≡ suc (last_for a q)
next_plain a o q counter plain next = subst (λ (x : ℕ). suc x < 2 ^ 64 → counter ≡ suc x) (last_plain a o q plain) next
