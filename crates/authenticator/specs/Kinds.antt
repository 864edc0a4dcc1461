-- Which kinds of attempt and of session there are (profile).
use Rattle.std.specs.Prelude.{Bool, true, false, not, ◌&&◌, Option, Some, None, is_some, option_map}
use Rattle.eapol_key.specs.declared.messages.Message.{Message}
use Rattle.eapol_key.specs.declared.messages.Message.TheVariants.{G1}
use Rattle.run_journal.specs.declared.reply.Keyed.{Keyed}
use Rattle.authenticator.specs.State.{State}
use Rattle.authenticator.specs.declared.attempt.Attempt.{Attempt}
use Rattle.authenticator.specs.declared.authenticator.Again.{Again}
use Rattle.authenticator.specs.declared.authenticator.Again.TheVariants as again
use Rattle.authenticator.specs.declared.authenticator.ApStart.{ApStart}
use Rattle.authenticator.specs.declared.authenticator.ApStart.TheVariants.{Connect, Ft}
use Rattle.authenticator.specs.declared.session.Session.{Session}

-- where there is an attempt, whether it renews the key of the session; where there is a session, whether it goes back to
-- an association, and not to a fast transition
pub record Kinds : Type 0 where
  pub attempt : Option Bool
  pub session : Option Bool

-- those of an authenticator
abbrev pub kinds : State → Kinds
kinds s = record {
  attempt = option_map (λ (a : Attempt). a.renews) s.attempt;
  session = option_map (λ (t : Session). is_some t.association) s.session;
}

-- there is an attempt that renews the key of the session
abbrev pub renews_in : Option Attempt → Bool
renews_in None = false
renews_in (Some a) = a.renews

-- there is a session that goes back to an association
abbrev pub has_association : Option Session → Bool
has_association None = false
has_association (Some t) = is_some t.association

-- the key of such a session can be renewed: no attempt stands beside it
abbrev pub can_renew : State → Bool
can_renew s = not (is_some s.attempt) && has_association s.session

-- as an authenticator begins
abbrev pub kinds_at_first : ApStart → Kinds
kinds_at_first (Connect anonce rsne) = record { attempt = Some false; session = None }
kinds_at_first (Ft ptk) = record { attempt = None; session = Some false }

-- an attempt that renews the key of a session, beside it
abbrev pub renewing : Kinds
renewing = record { attempt = Some true; session = Some true }

-- where a key was installed the attempt has become the session
abbrev pub kinds_after : Option Keyed → Kinds → Kinds
kinds_after None k = k
kinds_after (Some y) k = record { attempt = None; session = Some true }

-- what is given up with a message is gone: with G1 the session, and else the attempt
abbrev pub kinds_without : Message → Kinds → Kinds
kinds_without G1 k = record { attempt = k.attempt; session = None }
kinds_without _ k = record { attempt = None; session = k.session }

-- as a message was sent again, or something was given up with it
abbrev pub kinds_again : Again → Kinds → Kinds
kinds_again again.Sent k = k
kinds_again (again.GaveUp m) k = kinds_without m k
kinds_again again.Nothing k = k

-- an attempt that renews the key of the session is dropped
abbrev pub abandoned_in : Bool → Option Attempt → Option Attempt
abandoned_in true o = None
abandoned_in false o = o

-- the authenticator without it
abbrev pub abandoned : State → State
abandoned s = record s { attempt = abandoned_in (renews_in s.attempt) s.attempt }
