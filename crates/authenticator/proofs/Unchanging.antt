-- What replies that tell of no key leave, and states by another name.
use Rattle.std.proofs.Common.{◌≡◌, true, List, ℕ, Option, Some, None, sym, ap, ◌∙◌}
use Rattle.std.specs.Prelude.{is_some}
use Rattle.run_journal.specs.declared.acts.Reason.{Reason}
use Rattle.run_journal.specs.declared.acts.Outcome.TheVariants.{Accepted, Refused}
use Rattle.run_journal.specs.declared.reply.Keyed.{Keyed}
use Rattle.run_journal.specs.declared.reply.Reply.{Reply}
use Rattle.run_journal.specs.Replies.{IsEmpty, IsWhole}
use Rattle.authenticator.specs.State.{State}
use Rattle.authenticator.specs.declared.attempt.Attempt.{Attempt}
use Rattle.authenticator.specs.declared.session.Session.{Session}
use Rattle.authenticator.proofs.Replying.{empty_whole}

-- where there is none, none is it
pub none_some : (o : Option Keyed) (y : Keyed) → o ≡ None → o ≡ Some y → ⊥
none_some o y none some = cc

-- what is accepted is not refused
pub not_refused : (why : Reason) → Accepted ≡ Refused why → ⊥
not_refused why is = cc

-- there is an attempt
pub in_attempt : (s t : State) (a : Attempt) → s ≡ t → s.attempt ≡ Some a → is_some t.attempt ≡ true
in_attempt s t a same is = ap (λ (x : State). is_some x.attempt) (sym same) ∙ ap (λ (o : Option Attempt). is_some o) is

-- an empty reply that names the key of the frame is whole
pub named_whole : (r : Reply) (kck : Option (List ℕ)) → IsEmpty r → IsWhole (record r { verified = kck })
named_whole r kck e = let w = empty_whole r e in record { few = w.few; sealed = w.sealed }

-- with what it had, it is as it was
pub attempt_back : (s t : State) (o : Option Attempt) → s ≡ t → s.attempt ≡ o → record s { attempt = o } ≡ t
attempt_back s t o same is = sym (ap (λ (x : Option Attempt). record s { attempt = x }) is) ∙ same

pub session_back : (s t : State) (o : Option Session) → s ≡ t → s.session ≡ o → record s { session = o } ≡ t
session_back s t o same is = sym (ap (λ (x : Option Session). record s { session = x }) is) ∙ same
