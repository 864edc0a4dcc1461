-- What the frames of a station do, after every history that the target stands for (IEEE Std 802.11-2020, 13.8.2 to
-- 13.8.5).
use Rattle.std.specs.Prelude.{◌≡◌, ℕ, Bool, true, false, List, [], Option, Some, None, is_some}
use Rattle.domain_base.specs.declared.names.Node.{Node}
use Rattle.domain_base.specs.declared.names.Node.TheVariants.{Ap, Sta}
use Rattle.key_hierarchy.specs.declared.answers.PullAnswer.{PullAnswer}
use Rattle.rsn_elements.specs.Elements.{ElementFields}
use Rattle.run_journal.specs.declared.domain.Domain.{Domain}
use Rattle.run_journal.specs.declared.acts.Kind.TheVariants as kind
use Rattle.run_journal.specs.declared.acts.Reason.{Reason}
use Rattle.run_journal.specs.declared.acts.Outcome.{Outcome}
use Rattle.run_journal.specs.declared.acts.Outcome.TheVariants.{Refused}
use Rattle.run_journal.specs.declared.acts.Act.{Act}
use Rattle.run_journal.specs.declared.reply.Reply.{Reply}
use Rattle.run_journal.specs.declared.reply.Keyed.{Keyed}
use Rattle.run_journal.specs.Replies.{IsWhole}
use Rattle.run_journal.specs.Questions.{attempt, session, add}
use Rattle.domain_rules.specs.Network.{Root, root_at}
use Rattle.domain_rules.specs.FastTransition.{single}
use Rattle.domain_rules.specs.Here.{Here, here}
use Rattle.domain_rules.specs.Reading.{Management}
use Rattle.domain_rules.specs.Rows.{TakeRow}
use Rattle.domain_rules.specs.TransitionKeys.{Asked, asked, Judged, judged}
use Rattle.group_key.specs.declared.news.News.{News}
use Rattle.group_key.specs.News.{IsNewest}
use Rattle.ft_exchange.specs.Asking.{IsDrawn}
use Rattle.ft_exchange.specs.Comes.{IsManagementFrom}
use Rattle.ft_exchange.specs.State.{TargetState}
use Rattle.ft_exchange.specs.Stands.{transition_of, TargetStands, PendingStands}
use Rattle.ft_exchange.specs.Told.{came, auth_request_acts, reassoc_request_acts}
use Rattle.ft_exchange.specs.Topics.{TellsOnly, auth_request_topics, reassoc_request_topics, request_verified}
use Rattle.ft_exchange.specs.Tried.{is_with}

-- ---- authentication request

-- what the keys go back to of which a request of a station asks (profile)
abbrev pub root_asked : Domain → Node → Option Asked → Root
root_asked d s None = root_at d s []
root_asked d s (Some a) = root_at d s a.r0kh_id

-- an authentication request adds its row, and the pending target stands for the longer history
pub record AuthSteps (w : Here) (p : Node) (octets : List ℕ) (acts : List Act) (new : Option TargetState) (h : List Act) : Type 0 where
  pub adds : TakeRow w h octets acts
  pub stands : PendingStands w.domain w.node p new (add acts h)

-- an authentication request takes the pending target from old to new, at an access point that draws that nonce next, if any
abbrev pub AuthStepsFrom : Domain → ℕ → ℕ → ElementFields → Option (List ℕ) → Option TargetState → Option TargetState → Outcome → Reply → Type 0
AuthStepsFrom d ap sta e anonce old new outcome r =
    (first : ℕ) (octets : List ℕ) (b : Management) (h : List Act)
    → PendingStands d (Ap ap) (Sta sta) old h → IsManagementFrom d (Ap ap) (Sta sta) octets b e
    → b.kind ≡ kind.FtReq → IsDrawn d first (Ap ap) h anonce
    → AuthSteps (here d first (Ap ap)) (Sta sta) octets
    (auth_request_acts d (root_asked d (Sta sta) (asked e)) (Ap ap) (Sta sta) (attempt (Sta sta) h) (came octets e outcome) r) new h

-- where a key is derived it is that of a new attempt; else the pending target is as it was
abbrev pub HasBegun : Option Keyed → Option TargetState → Option TargetState → Type 0
HasBegun None old new = new ≡ old
HasBegun (Some y) old new = (s : TargetState) × (new ≡ Some s) × (s.key ≡ y)

-- what an authentication request does: its row for every history that the target stands for; a refusal changes nothing;
-- and what the reply tells
pub record IsAuthTaken (d : Domain) (ap sta : ℕ) (e : ElementFields) (anonce : Option (List ℕ)) (old new : Option TargetState)
    (outcome : Outcome) (r : Reply) : Type 0 where
  pub steps : AuthStepsFrom d ap sta e anonce old new outcome r
  pub refused : (why : Reason) → outcome ≡ Refused why → new ≡ old
  pub tells : TellsOnly (auth_request_topics outcome) r
  pub begun : HasBegun r.derived old new
  pub whole : IsWhole r

-- what was asked of key holders, and what they answered: the R0KH-ID and the one name that the request asks for
-- (13.8.2, profile)
pub record IsLook (e : ElementFields) (Answered : List ℕ → List ℕ → PullAnswer → Type 0) (answer : PullAnswer) : Type 0 where
  pub a : Asked
  pub asks : asked e ≡ Some a
  pub name : List ℕ
  pub named : single a.names ≡ Some name
  pub answered : Answered a.r0kh_id name answer

-- nothing was asked of them, and all is as it was; or one thing was (13.8.2, profile)
abbrev pub LooksBy : ElementFields → (List ℕ → List ℕ → PullAnswer → Type 0) → Type 0 → Option PullAnswer → Type 0
LooksBy e Answered Same None = Same
LooksBy e Answered Same (Some answer) = IsLook e Answered answer

-- ---- reassociation request

-- the target by which a request is judged, where its FTE has the nonces of that; with other nonces, or without an FTE,
-- it is judged by none (profile)
abbrev pub judged_by : Domain → Node → Node → TargetState → Bool → Option Judged
judged_by d n p s true = Some (record { by_ = transition_of d n p s; is_session = s.is_installed })
judged_by d n p s false = None

-- the target is the one that is meant, if one is
pub record IsChosen (d : Domain) (n p : Node) (s : TargetState) (e : ElementFields) (h : List Act) : Type 0 where
  pub stands : TargetStands d n p s h
  pub by_this : judged p h e ≡ judged_by d n p s (is_with e s.key)

-- a reassociation request adds its row, and the target stands for the longer history
pub record ReassocSteps (w : Here) (p : Node) (octets : List ℕ) (acts : List Act) (new : TargetState) (h : List Act) : Type 0 where
  pub adds : TakeRow w h octets acts
  pub stands : TargetStands w.domain w.node p new (add acts h)

-- a reassociation request takes the target from old to new, at an access point that has those newest group keys
abbrev pub ReassocStepsFrom : ElementFields → News → TargetState → TargetState → Outcome → Reply → Type 0
ReassocStepsFrom e news old new outcome r =
    (d : Domain) (first ap sta : ℕ) (octets : List ℕ) (b : Management) (h : List Act)
    → IsChosen d (Ap ap) (Sta sta) old e h → IsManagementFrom d (Ap ap) (Sta sta) octets b e
    → b.kind ≡ kind.ReReq → IsNewest d news h
    → ReassocSteps (here d first (Ap ap)) (Sta sta) octets
    (reassoc_request_acts d (root_at d (Sta sta) old.r0kh_id) (Ap ap) (Sta sta) (is_some (session (Sta sta) h)) (came octets e outcome) r) new h

-- where a key is installed it is that of an attempt, which is a session's from then on; else the target is as it was
abbrev pub HasInstalled : Option Keyed → TargetState → TargetState → Type 0
HasInstalled None old new = new ≡ old
HasInstalled (Some y) old new = (old.is_installed ≡ false) × (new.is_installed ≡ true) × (new.key ≡ y)

-- what a reassociation request does: its row for every history that the target stands for; a refusal changes and
-- installs nothing; and what the reply tells
pub record IsReassocTaken (e : ElementFields) (news : News) (old new : TargetState) (outcome : Outcome) (r : Reply) : Type 0 where
  pub steps : ReassocStepsFrom e news old new outcome r
  pub refused : (why : Reason) → outcome ≡ Refused why → (new ≡ old) × (r.installed ≡ None)
  pub tells : TellsOnly (reassoc_request_topics outcome) r
  pub verified : r.verified ≡ request_verified old e
  pub became : HasInstalled r.installed old new
  pub whole : IsWhole r
