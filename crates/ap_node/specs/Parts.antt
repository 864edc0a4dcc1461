-- What messages and retries do to what there is with a station (this project's choice).
-- For the code alone: no public contract speaks of it.
use Rattle.std.specs.Prelude.{◌≡◌, ◌≢◌, ◌⊎◌, ℕ, Bool, true, false, List, [], ◌∷◌, Option, Some, None, is_some}
use Rattle.domain_base.specs.declared.names.Node.TheVariants.{Sta}
use Rattle.eapol_key.specs.declared.messages.Message.{Message}
use Rattle.eapol_key.specs.declared.messages.Message.TheVariants.{G1, G2}
use Rattle.run_journal.specs.declared.acts.Reason.{Reason}
use Rattle.run_journal.specs.declared.acts.Reason.TheVariants as reason
use Rattle.run_journal.specs.declared.acts.Why.TheVariants as why
use Rattle.run_journal.specs.declared.acts.Outcome.TheVariants.{Refused}
use Rattle.run_journal.specs.declared.acts.Act.{Act}
use Rattle.run_journal.specs.declared.acts.Act.TheVariants.{Idle}
use Rattle.run_journal.specs.declared.reply.Keyed.{Keyed}
use Rattle.run_journal.specs.declared.reply.Reply.{Reply}
use Rattle.run_journal.specs.Replies.{IsEmpty}
use Rattle.domain_rules.specs.Replies.{Pair, Taken, Between, replied_acts}
use Rattle.authenticator.specs.Beside.{StepsBeside, StepsInSession, RetriesBeside, LeavesAgain}
use Rattle.authenticator.specs.Kinds.{kinds, kinds_after, kinds_again}
use Rattle.authenticator.specs.Judged.{Frame, is_final}
use Rattle.authenticator.specs.State.{State as Part}
use Rattle.authenticator.specs.declared.authenticator.Again.{Again}
use Rattle.authenticator.specs.declared.authenticator.Again.TheVariants as again
use Rattle.authenticator.specs.Steps.{again_acts}
use Rattle.authenticator.specs.Taken.{Given, StepsFrom, Installs, Derives, RetriesFrom}
use Rattle.group_key.specs.declared.news.News.{News}
use Rattle.ap_node.specs.declared.station.Station.{Station}
use Rattle.ap_node.specs.declared.station.Attempt.{Attempt as Trying}
use Rattle.ap_node.specs.declared.station.Attempt.TheVariants.{Association, Transition}
use Rattle.ap_node.specs.declared.station.Session.{Session as Kept}
use Rattle.ap_node.specs.Keys.{fresh}

-- no attempt by association is under way
abbrev pub IsNotByAssociation : Option Trying → Type 0
IsNotByAssociation None = Unit {0}
IsNotByAssociation (Some (Association a)) = ⊥
IsNotByAssociation (Some (Transition t)) = Unit {0}

-- the part of an attempt by association
abbrev pub part_by : Option Trying → Option Part
part_by None = None
part_by (Some (Association a)) = Some a
part_by (Some (Transition t)) = None

-- without one by association
abbrev pub transited : Option Trying → Option Trying
transited None = None
transited (Some (Association a)) = None
transited (Some (Transition t)) = Some (Transition t)

-- a message that is for the session: G2, or each without an attempt by association
abbrev pub IsForSession : Message → Station → Type 0
IsForSession m x = (m ≡ G2) ⊎ IsNotByAssociation x.attempt

-- the part of the attempt that was, beside the session: where it installed a key it is that of the session from now on
abbrev pub after_step : Part → Option Keyed → Station → Station
after_step part None x = record { attempt = Some (Association part); session = x.session }
after_step part (Some y) x = record { attempt = None; session = Some (record { part = part; key = fresh y.ptk.tk; came_of = None }) }

-- the part of the attempt took a message that it was given: these acts are those of its reply
pub record InAttempt (w : Pair) (x : Given) (t : Taken) (b : Between) (old new : Station) (acts : List Act) : Type 0 where
  pub reply : Reply
  pub was : Part
  pub part : Part
  pub there : old.attempt ≡ Some (Association was)
  pub is : new ≡ after_step part reply.installed old
  pub other : x.message ≢ G2
  pub says : acts ≡ replied_acts w (is_some old.session) t reply b
  pub steps : StepsBeside was part x t.outcome reply
  pub installs : Installs t.outcome reply part
  pub derives : Derives was reply
  pub final : is_some reply.installed ≡ is_final was.ends.akm was.attempt x.message x.frame
  pub kinds_are : kinds part ≡ kinds_after reply.installed (kinds was)
  pub refused : (why : Reason) → t.outcome ≡ Refused why → new ≡ old

-- the session whose part that is: where the part installed a key, that is in use, and it came of no fast transition
abbrev pub kept_after : Part → Option Keyed → Kept → Kept
kept_after part None s = record { part = part; key = s.key; came_of = s.came_of }
kept_after part (Some y) s = record { part = part; key = fresh y.ptk.tk; came_of = None }

-- the part of a session took it
pub record HearsInSession (w : Pair) (x : Given) (t : Taken) (b : Between) (old new : Kept) (acts : List Act) : Type 0 where
  pub reply : Reply
  pub part : Part
  pub is : new ≡ kept_after part reply.installed old
  pub says : acts ≡ replied_acts w true t reply b
  pub steps : StepsFrom old.part part x t.outcome reply
  pub beside : StepsInSession old.part part x t.outcome reply
  pub installs : Installs t.outcome reply part
  pub derives : Derives old.part reply
  pub final : is_some reply.installed ≡ is_final old.part.ends.akm old.part.attempt x.message x.frame
  pub kinds_are : kinds part ≡ kinds_after reply.installed (kinds old.part)

pub record InSession (w : Pair) (x : Given) (t : Taken) (b : Between) (old new : Station) (acts : List Act) : Type 0 where
  pub s : Kept
  pub now : Kept
  pub there : old.session ≡ Some s
  pub is : new ≡ record { attempt = old.attempt; session = Some now }
  pub which : IsForSession x.message old
  pub hears : HearsInSession w x t b s now acts
  pub refused : (why : Reason) → t.outcome ≡ Refused why → new ≡ old

-- or there was no part for it: the message is unawaited
pub record InNone (w : Pair) (x : Given) (t : Taken) (b : Between) (old new : Station) (acts : List Act) : Type 0 where
  pub reply : Reply
  pub none : old.session ≡ None
  pub is : new ≡ old
  pub which : IsForSession x.message old
  pub came : t.outcome ≡ Refused reason.Unawaited
  pub empty : IsEmpty reply
  pub says : acts ≡ replied_acts w false t reply b

abbrev pub IsHanded : Pair → Given → Taken → Between → Station → Station → List Act → Type 0
IsHanded w x t b old new acts = InAttempt w x t b old new acts ⊎ (InSession w x t b old new acts ⊎ InNone w x t b old new acts)

-- the message becomes the last of the attempt that renews the key of a session, where there is one
abbrev pub is_final_in : Option Kept → Message → Frame → Bool
is_final_in None m f = false
is_final_in (Some s) m f = is_final s.part.ends.akm s.part.attempt m f

-- or of the attempt by association beside the session
abbrev pub is_final_by : Option Trying → Option Kept → Message → Frame → Bool
is_final_by None o m f = is_final_in o m f
is_final_by (Some (Association a)) o m f = is_final a.ends.akm a.attempt m f
is_final_by (Some (Transition t)) o m f = is_final_in o m f

abbrev pub is_final_at : Station → Message → Frame → Bool
is_final_at x m f = is_final_by x.attempt x.session m f

-- an attempt that is given up is at its end
abbrev pub attempt_again : Part → Again → Option Trying
attempt_again part (again.GaveUp m) = None
attempt_again part again.Sent = Some (Association part)
attempt_again part again.Nothing = Some (Association part)

-- and so is a session with G1: with another message an attempt in it is
abbrev pub given_up_session : Message → Part → Kept → Option Kept
given_up_session G1 part s = None
given_up_session _ part s = Some (record { part = part; key = s.key; came_of = s.came_of })

abbrev pub session_again : Part → Kept → Again → Option Kept
session_again part s (again.GaveUp m) = given_up_session m part s
session_again part s again.Sent = Some (record { part = part; key = s.key; came_of = s.came_of })
session_again part s again.Nothing = Some (record { part = part; key = s.key; came_of = s.came_of })

-- the part of the attempt sent again by those newest group keys: this is what came of it
pub record AttemptAgain (newest : News) (old new : Station) (came : Again) (reply : Reply) : Type 0 where
  pub was : Part
  pub part : Part
  pub there : old.attempt ≡ Some (Association was)
  pub is : new ≡ record { attempt = attempt_again part came; session = old.session }
  pub retries : RetriesBeside was part newest came reply
  pub leaves : LeavesAgain was.attempt came was part
  pub kinds_are : kinds part ≡ kinds_again came (kinds was)

-- that of the session did
pub record KeptAgain (newest : News) (old new : Option Kept) (came : Again) (reply : Reply) : Type 0 where
  pub s : Kept
  pub part : Part
  pub there : old ≡ Some s
  pub is : new ≡ session_again part s came
  pub retries : RetriesFrom s.part part newest came reply
  pub leaves : LeavesAgain s.part.attempt came s.part part
  pub kinds_are : kinds part ≡ kinds_again came (kinds s.part)

-- or there was none
pub record NoneAgain (old new : Option Kept) (came : Again) : Type 0 where
  pub none : old ≡ None
  pub is : new ≡ old
  pub nothing : came ≡ again.Nothing

abbrev pub IsAgainInSession : News → Option Kept → Option Kept → Again → Reply → Type 0
IsAgainInSession newest old new came reply = KeptAgain newest old new came reply ⊎ NoneAgain old new came

-- that of the session sent again, without an attempt by association
pub record SessionAgain (newest : News) (old new : Station) (came : Again) (reply : Reply) : Type 0 where
  pub alone : IsNotByAssociation old.attempt
  pub attempt : new.attempt ≡ old.attempt
  pub again_is : IsAgainInSession newest old.session new.session came reply

abbrev pub IsSentAgain : News → Station → Station → Again → Reply → Type 0
IsSentAgain newest old new came reply = AttemptAgain newest old new came reply ⊎ SessionAgain newest old new came reply

-- these acts are what came of sending again
pub record CameAgain (station : ℕ) (newest : News) (old new : Station) (acts : List Act) : Type 0 where
  pub came : Again
  pub reply : Reply
  pub says : acts ≡ again_acts (Sta station) came reply
  pub again_is : IsSentAgain newest old new came reply

-- or nothing was to be sent
pub record StaysIdle (old new : Station) (acts : List Act) : Type 0 where
  pub none : old.session ≡ None
  pub alone : IsNotByAssociation old.attempt
  pub is : new ≡ old
  pub says : acts ≡ Idle why.Nothing ∷ []

abbrev pub IsResent : ℕ → News → Station → Station → List Act → Type 0
IsResent station newest old new acts = CameAgain station newest old new acts ⊎ StaysIdle old new acts
