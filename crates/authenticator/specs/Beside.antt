-- What an attempt and a session do, each kept by an authenticator of its own, beside the other (IEEE Std 802.11-2020, 12.7.6,
-- 12.7.7, profile).
use Rattle.std.specs.Prelude.{◌≡◌, ◌≢◌, Bool, true, false, Option, Some, None, is_some}
use Rattle.eapol_key.specs.declared.messages.Message.TheVariants.{G1, G2}
use Rattle.run_journal.specs.declared.acts.Outcome.{Outcome}
use Rattle.run_journal.specs.declared.reply.Keyed.{Keyed}
use Rattle.run_journal.specs.declared.reply.Reply.{Reply}
use Rattle.group_key.specs.declared.news.News.{News}
use Rattle.authenticator.specs.Kinds.{renews_in}
use Rattle.authenticator.specs.State.{State, with_session, with_attempt}
use Rattle.authenticator.specs.Taken.{Given, StepsFrom, RetriesFrom, GivesFrom}
use Rattle.authenticator.specs.declared.attempt.Attempt.{Attempt}
use Rattle.authenticator.specs.declared.session.Session.{Session}
use Rattle.authenticator.specs.declared.authenticator.Again.{Again}
use Rattle.authenticator.specs.declared.authenticator.Again.TheVariants as again
use Rattle.authenticator.specs.declared.authenticator.ApStart.{ApStart}
use Rattle.authenticator.specs.declared.authenticator.ApStart.TheVariants.{Connect, Ft}

-- whether an authenticator begins with an attempt
abbrev pub attempt_at_first : ApStart → Bool
attempt_at_first (Connect anonce rsne) = true
attempt_at_first (Ft ptk) = false

-- the session that there is: that of the key, where one was installed, and else the one that there was
abbrev pub session_after : Option Keyed → Option Session → Option Session → Option Session
session_after None now was = was
session_after (Some y) now was = now

-- the message takes an attempt, which renews no key, beside whatever session there is; G2 is for the session
abbrev pub StepsBeside : State → State → Given → Outcome → Reply → Type 0
StepsBeside old new x o r =
    (s : Option Session) → renews_in old.attempt ≡ false → x.message ≢ G2 → StepsFrom (with_session s old) (with_session (session_after r.installed new.session s) new) x o r

-- G2 takes a session beside whatever attempt there is
abbrev pub StepsInSession : State → State → Given → Outcome → Reply → Type 0
StepsInSession old new x o r = (a : Option Attempt) → x.message ≡ G2 → StepsFrom (with_attempt a old) (with_attempt a new) x o r

-- the attempt is at its end as its key is installed, and else goes on, if there is one
abbrev pub LeavesAttempt : Option Keyed → State → State → Type 0
LeavesAttempt None old new = is_some new.attempt ≡ is_some old.attempt
LeavesAttempt (Some y) old new = new.attempt ≡ None

-- an attempt, which renews no key, is sent again beside whatever session there is
abbrev pub RetriesBeside : State → State → News → Again → Reply → Type 0
RetriesBeside old new g came r =
    (s : Option Session) → renews_in old.attempt ≡ false → is_some old.attempt ≡ true → RetriesFrom (with_session s old) (with_session s new) g came r

-- given up is an attempt, or without one the session; G1 is sent in the session
abbrev pub LeavesAgain : Option Attempt → Again → State → State → Type 0
LeavesAgain None again.Sent old new = (new.attempt ≡ None) × (is_some new.session ≡ true)
LeavesAgain None (again.GaveUp m) old new = (m ≡ G1) × (new.attempt ≡ None) × (new.session ≡ None)
LeavesAgain None again.Nothing old new = new ≡ old
LeavesAgain (Some a) again.Sent old new = is_some new.attempt ≡ true
LeavesAgain (Some a) (again.GaveUp m) old new = (m ≢ G1) × (new.attempt ≡ None)
LeavesAgain (Some a) again.Nothing old new = ⊥

-- G1 is given in a session beside whatever attempt there is
abbrev pub GivesBeside : State → State → News → Reply → Type 0
GivesBeside old new g r = (a : Option Attempt) → GivesFrom (with_attempt a old) (with_attempt a new) g r
