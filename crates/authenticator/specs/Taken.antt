-- What a message and sending again do, after every history that the authenticator stands for (profile).
use Rattle.std.specs.Prelude.{◌≡◌, ◌<◌, ◌-◌, ◌^◌, ℕ, Bool, true, List, [], ◌∷◌, Option, Some, None, is_some}
use Rattle.domain_base.specs.declared.names.Node.{Node}
use Rattle.domain_base.specs.declared.names.Node.TheVariants.{Ap, Sta}
use Rattle.eapol_key.specs.declared.messages.Message.{Message}
use Rattle.run_journal.specs.declared.domain.Domain.{Domain}
use Rattle.run_journal.specs.declared.acts.Outcome.{Outcome}
use Rattle.run_journal.specs.declared.acts.Outcome.TheVariants.{Accepted}
use Rattle.run_journal.specs.declared.acts.Part.TheVariants.{Attempt as OfAttempt}
use Rattle.run_journal.specs.declared.acts.Act.{Act}
use Rattle.run_journal.specs.declared.acts.Act.TheVariants.{Closed}
use Rattle.run_journal.specs.declared.reply.Keyed.{Keyed}
use Rattle.run_journal.specs.declared.reply.Reply.{Reply}
use Rattle.run_journal.specs.Questions.{session}
use Rattle.run_journal.specs.Acts.{Derivation}
use Rattle.domain_rules.specs.Here.{Here, here}
use Rattle.domain_rules.specs.Reading.{KeyMessage}
use Rattle.domain_rules.specs.Counters.{next_in_session}
use Rattle.domain_rules.specs.Replies.{IsMessageFrom, key_by, replied_acts, sent_acts, pair, taken_as}
use Rattle.domain_rules.specs.KeyHolders.{put_acts}
use Rattle.group_key.specs.declared.news.News.{News}
use Rattle.group_key.specs.News.{IsNewest}
use Rattle.authenticator.specs.Bases.{home, own_pair}
use Rattle.authenticator.specs.State.{State}
use Rattle.authenticator.specs.Stands.{AuthenticatorStands}
use Rattle.authenticator.specs.Judged.{Frame}
use Rattle.authenticator.specs.Kinds.{renews_in}
use Rattle.authenticator.specs.Steps.{Steps, Retries, Gives, Renews, again_acts}
use Rattle.authenticator.specs.declared.authenticator.Again.{Again}
use Rattle.authenticator.specs.declared.session.Session.{Session}

-- what an authenticator is given: a message and its frame, and the newest group keys, with how many packet numbers were used under
-- them
pub record Given : Type 0 where
  pub message : Message
  pub frame : Frame
  pub news : News

-- that message with its frame, beside those group keys
abbrev pub given : Message → Frame → News → Given
given message frame news = record { message = message; frame = frame; news = news }

-- the frame of a message
abbrev pub frame_in : KeyMessage → Frame
frame_in k = record { fields = k.fields; octets = k.octets }

-- where there is a session with p, its replay counters have not come to their end (IEEE Std 802.11-2020, 12.7.2)
abbrev pub HasCounters : Node → List Act → Type 0
HasCounters p h = (x : Derivation) → session p h ≡ Some x → next_in_session p h < 2 ^ 64 - 1

-- after the history h it comes as the octet string that is the EAPOL-Key message k of p
pub record Comes (w : Here) (p : Node) (x : Given) (octets : List ℕ) (k : KeyMessage) (h : List Act) : Type 0 where
  pub from : IsMessageFrom w.domain w.node p octets k
  pub message : k.message ≡ x.message
  pub frame : frame_in k ≡ x.frame
  pub newest : IsNewest w.domain x.news h
  pub low : HasCounters p h

-- where a key was installed, what is put with the key holder (IEEE Std 802.11-2020, 13.2.2, profile)
abbrev pub put_for : Domain → Node → List Act → Node → Option Keyed → List Act
put_for d n h p None = []
put_for d n h p (Some y) = put_acts d n h p (key_by d (home d n p) n p y)

-- what the node adds as it takes the message
abbrev pub told_acts : Domain → Node → Node → Bool → List ℕ → KeyMessage → Outcome → Reply → List Act → List Act
told_acts d n p had octets k outcome r h =
    replied_acts (own_pair d n p) had (taken_as octets k outcome) r (record { opened = []; put = put_for d n h p r.installed })

-- what it is given takes the authenticator from old to new
abbrev pub StepsFrom : State → State → Given → Outcome → Reply → Type 0
StepsFrom old new x outcome r =
    (d : Domain) (first ap sta : ℕ) (octets : List ℕ) (k : KeyMessage) (h : List Act)
    → AuthenticatorStands d (Ap ap) (Sta sta) old h → Comes (here d first (Ap ap)) (Sta sta) x octets k h
    → Steps (here d first (Ap ap)) (Sta sta) octets
    (told_acts d (Ap ap) (Sta sta) (is_some old.session) octets k outcome r h) new h

-- a key is installed by a message that is accepted alone, and is then the key of the session
abbrev pub Installs : Outcome → Reply → State → Type 0
Installs outcome r new = (y : Keyed) → r.installed ≡ Some y → (outcome ≡ Accepted) × (s : Session) × (new.session ≡ Some s) × (s.ptk ≡ y.ptk)

-- a key is derived in an attempt alone
abbrev pub Derives : State → Reply → Type 0
Derives old r = (y : Keyed) → r.derived ≡ Some y → is_some old.attempt ≡ true

-- after the history h these are the newest group keys, and there are replay counters for p (IEEE Std 802.11-2020,
-- 12.7.7.2)
pub record Newest (d : Domain) (p : Node) (g : News) (h : List Act) : Type 0 where
  pub newest : IsNewest d g h
  pub low : HasCounters p h

-- for every history that it stands for, sending again adds what came of it (IEEE Std 802.11-2020, 12.7.6.6, 12.7.7.4,
-- profile)
abbrev pub RetriesFrom : State → State → News → Again → Reply → Type 0
RetriesFrom old new g came r =
    (d : Domain) (ap sta : ℕ) (h : List Act) → AuthenticatorStands d (Ap ap) (Sta sta) old h → Newest d (Sta sta) g h
    → Retries (pair d (Ap ap) (Sta sta)) (again_acts (Sta sta) came r) new h

-- for every such history with a session, what is sent is G1 (IEEE Std 802.11-2020, 12.7.7.2)
abbrev pub GivesFrom : State → State → News → Reply → Type 0
GivesFrom old new g r =
    (d : Domain) (ap sta : ℕ) (h : List Act) → AuthenticatorStands d (Ap ap) (Sta sta) old h → Newest d (Sta sta) g h
    → Gives (pair d (Ap ap) (Sta sta)) (sent_acts (Sta sta) r) new h

-- for every history with a session that it stands for, the attempt that was opened begins with M1 (IEEE Std 802.11-2020,
-- 12.7.6.2)
abbrev pub RenewsFrom : State → State → List ℕ → Reply → Type 0
RenewsFrom old new anonce r =
    (d : Domain) (ap sta : ℕ) (h : List Act) → AuthenticatorStands d (Ap ap) (Sta sta) old h → HasCounters (Sta sta) h
    → Renews (pair d (Ap ap) (Sta sta)) anonce (sent_acts (Sta sta) r) new h

-- for every history with an attempt that renews the key of the session, it stands without the attempt as that is closed
-- (profile)
abbrev pub AbandonsFrom : State → State → Type 0
AbandonsFrom old new =
    (d : Domain) (ap sta : ℕ) (h : List Act) → AuthenticatorStands d (Ap ap) (Sta sta) old h → renews_in old.attempt ≡ true
    → AuthenticatorStands d (Ap ap) (Sta sta) new (Closed (Sta sta) OfAttempt ∷ h)
