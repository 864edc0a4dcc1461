-- What a roam and the frames of an access point do, after every history that the originator stands for (IEEE Std
-- 802.11-2020, 13.8.2 to 13.8.5).
use Rattle.std.specs.Prelude.{◌≡◌, ◌⊎◌, ℕ, ◌==◌, true, false, List, [], ◌∷◌, Option, Some, None}
use Rattle.domain_base.specs.declared.names.Node.{Node}
use Rattle.domain_base.specs.declared.names.Node.TheVariants.{Ap, Sta}
use Rattle.rsn_elements.specs.Elements.{ElementFields}
use Rattle.run_journal.specs.declared.domain.Domain.{Domain}
use Rattle.run_journal.specs.declared.acts.Kind.TheVariants as kind
use Rattle.run_journal.specs.declared.acts.Reason.{Reason}
use Rattle.run_journal.specs.declared.acts.Outcome.{Outcome}
use Rattle.run_journal.specs.declared.acts.Outcome.TheVariants.{Refused}
use Rattle.run_journal.specs.declared.acts.Act.{Act}
use Rattle.run_journal.specs.declared.reply.Reply.{Reply}
use Rattle.run_journal.specs.declared.reply.Keyed.{Keyed}
use Rattle.run_journal.specs.Replies.{IsWhole}
use Rattle.run_journal.specs.Questions.{attempt, own_nonce, associated, add}
use Rattle.run_journal.specs.Holders.{last_r0kh_id}
use Rattle.domain_rules.specs.Network.{root_at}
use Rattle.domain_rules.specs.Here.{Here, here}
use Rattle.domain_rules.specs.Reading.{Management}
use Rattle.domain_rules.specs.Asking.{is_by_roam, has_heard}
use Rattle.domain_rules.specs.Rows.{TakeRow}
use Rattle.domain_rules.specs.TransitionFrames.{sent_ft_req}
use Rattle.group_key.specs.Keys.{Kept, given}
use Rattle.group_key.specs.Holds.{RemembersAll}
use Rattle.ft_exchange.specs.Comes.{IsManagementFrom}
use Rattle.ft_exchange.specs.Exchange.{Both, IsQuiet}
use Rattle.ft_exchange.specs.State.{OriginatorState}
use Rattle.ft_exchange.specs.declared.originator.Stage.TheVariants as stage
use Rattle.ft_exchange.specs.declared.originator.Transit.{Transit}
use Rattle.ft_exchange.specs.Stands.{OriginatorStands}
use Rattle.ft_exchange.specs.Told.{came, transition_sent, auth_response_acts, reassoc_response_acts}
use Rattle.ft_exchange.specs.Topics.{TellsOnly, only_frame, auth_response_topics, reassoc_response_topics, response_verified}

-- an attempt with p began by fast transition, from the session with q, in which that nonce was drawn and nothing was heard
pub record IsRoaming (p q : Node) (id snonce : List ℕ) (h : List Act) : Type 0 where
  pub from : associated h ≡ Some q
  pub r0kh_id : last_r0kh_id h ≡ id
  pub part : List Act
  pub is : attempt p h ≡ Some part
  pub begun : is_by_roam part ≡ true
  pub nonce : own_nonce part ≡ Some snonce
  pub hears : has_heard p kind.FtResp part ≡ false

-- the reply has the authentication request and nothing else, and the originator stands for the history with it
pub record IsBegun (d : Domain) (n p q : Node) (id snonce : List ℕ) (s : OriginatorState) (r : Reply) : Type 0 where
  pub sends : transition_sent d n p r ≡ sent_ft_req d n p (root_at d n id) snonce ∷ []
  pub stands : (h : List Act) → IsRoaming p q id snonce h → OriginatorStands d n p s (sent_ft_req d n p (root_at d n id) snonce ∷ h)
  pub tells : TellsOnly (only_frame true) r
  pub whole : IsWhole r

-- After the history h, these acts are what the octet string adds, and the originator then stands for the longer
-- history.
pub record Steps (w : Here) (p : Node) (octets : List ℕ) (acts : List Act) (new : OriginatorState) (h : List Act) : Type 0 where
  pub adds : TakeRow w h octets acts
  pub stands : OriginatorStands w.domain w.node p new (add acts h)

-- an authentication response of that status takes the originator from old to new
abbrev pub AuthStepsFrom : ℕ → ElementFields → OriginatorState → OriginatorState → Outcome → Reply → Type 0
AuthStepsFrom status e old new outcome r =
    (d : Domain) (first sta ap : ℕ) (octets : List ℕ) (b : Management) (h : List Act)
    → OriginatorStands d (Sta sta) (Ap ap) old h → IsManagementFrom d (Sta sta) (Ap ap) octets b e
    → b.kind ≡ kind.FtResp → b.status ≡ status
    → Steps (here d first (Sta sta)) (Ap ap) octets (auth_response_acts d (root_at d (Sta sta) old.r0kh_id) (Sta sta) (Ap ap) (came octets e outcome) r) new h

-- a refusal changes nothing, and nothing answers it
pub record IsAuthTaken (status : ℕ) (e : ElementFields) (old new : OriginatorState) (outcome : Outcome) (r : Reply) : Type 0 where
  pub steps : AuthStepsFrom status e old new outcome r
  pub refused : (why : Reason) → outcome ≡ Refused why → (new ≡ old) × IsQuiet None r
  pub tells : TellsOnly (auth_response_topics outcome) r
  pub whole : IsWhole r

-- and the memory for the group keys of that access point
pub record BothStep (w : Here) (p : Node) (octets : List ℕ) (acts : List Act) (new : Both) (h : List Act) : Type 0 where
  pub step : Steps w p octets acts new.part h
  pub remembers : RemembersAll p new.keys (add acts h)

-- for every history that they stand for, a reassociation response adds its row
abbrev pub ReassocStepsFrom : ℕ → ElementFields → Both → Both → Outcome → Reply → Type 0
ReassocStepsFrom status e old new outcome r =
    (d : Domain) (first sta ap : ℕ) (octets : List ℕ) (b : Management) (h : List Act)
    → OriginatorStands d (Sta sta) (Ap ap) old.part h → RemembersAll (Ap ap) old.keys h → IsManagementFrom d (Sta sta) (Ap ap) octets b e
    → b.kind ≡ kind.ReResp → b.status ≡ status
    → BothStep (here d first (Sta sta)) (Ap ap) octets
    (reassoc_response_acts d (root_at d (Sta sta) old.part.r0kh_id) (Sta sta) (Ap ap) (associated h) (came octets e outcome) r) new h

-- a key that is installed is that of the attempt
abbrev pub IsUnder : Option Keyed → OriginatorState → Type 0
IsUnder None s = Unit {0}
IsUnder (Some y) s = (t : Transit) × (s.stage ≡ stage.Keyed t) × (t.key ≡ y)

-- the GTKs are those that were kept, or one was given, under a key id other than 0, which is that of pairwise keys
abbrev pub AreGiven : List Kept → List Kept → Type 0
AreGiven old new = (new ≡ old) ⊎ ((key : List ℕ) × (id : ℕ) × (rsc : ℕ) × (new ≡ given key id rsc old) × ((id == 0) ≡ false))

-- what a reassociation response does: its row for every history that they stand for; a refusal changes nothing and
-- sends nothing; and what the reply tells
pub record IsReassocTaken (status : ℕ) (e : ElementFields) (old new : Both) (outcome : Outcome) (r : Reply) : Type 0 where
  pub steps : ReassocStepsFrom status e old new outcome r
  pub refused : (why : Reason) → outcome ≡ Refused why → (new ≡ old) × (r.len ≡ 0) × (r.installed ≡ None)
  pub tells : TellsOnly (reassoc_response_topics outcome) r
  pub verified : r.verified ≡ response_verified old.part old.part.stage status e
  pub whole : IsWhole r
  pub under : IsUnder r.installed old.part
  pub keys : AreGiven old.keys.gtks new.keys.gtks
