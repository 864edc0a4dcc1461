-- What the frames of a station do to its fast transitions with an access point, after every history that they stand for
-- (profile).
use Rattle.std.specs.Prelude.{◌≡◌, ◌++◌, ℕ, Bool, true, false, List, Option, Some, None, is_some}
use Rattle.domain_base.specs.declared.names.Node.TheVariants.{Ap, Sta}
use Rattle.key_hierarchy.specs.declared.answers.PullAnswer.{PullAnswer}
use Rattle.rsn_elements.specs.Elements.{ElementFields}
use Rattle.run_journal.specs.declared.domain.Domain.{Domain}
use Rattle.run_journal.specs.declared.acts.Kind.TheVariants as kind
use Rattle.run_journal.specs.declared.acts.Reason.{Reason}
use Rattle.run_journal.specs.declared.acts.Reason.TheVariants as reason
use Rattle.run_journal.specs.declared.acts.Outcome.{Outcome}
use Rattle.run_journal.specs.declared.acts.Outcome.TheVariants.{Refused}
use Rattle.run_journal.specs.declared.acts.Act.{Act}
use Rattle.run_journal.specs.declared.reply.Reply.{Reply}
use Rattle.run_journal.specs.declared.reply.Keyed.{Keyed}
use Rattle.run_journal.specs.Replies.{IsEmpty}
use Rattle.run_journal.specs.Questions.{attempt, session, add}
use Rattle.domain_rules.specs.Network.{root_at}
use Rattle.domain_rules.specs.Here.{here}
use Rattle.domain_rules.specs.Reading.{Management}
use Rattle.domain_rules.specs.Rows.{TakeRow}
use Rattle.domain_rules.specs.TransitionKeys.{asked}
use Rattle.group_key.specs.declared.news.News.{News}
use Rattle.group_key.specs.News.{IsNewest}
use Rattle.ft_exchange.specs.Asking.{IsDrawn}
use Rattle.ft_exchange.specs.Comes.{IsManagementFrom}
use Rattle.ft_exchange.specs.State.{TargetState}
use Rattle.ft_exchange.specs.TargetSteps.{root_asked, HasBegun, IsReassocTaken}
use Rattle.ft_exchange.specs.Told.{came, auth_request_acts, reassoc_request_acts}
use Rattle.targets.specs.declared.moves.Moves.{Moves}
use Rattle.targets.specs.declared.taken.Taken.{Taken}
use Rattle.targets.specs.State.{without_pending, means_held, meant, id_of}
use Rattle.targets.specs.Stands.{HasMoves}

-- access point number `ap` takes these octets of station number `sta`, with these elements
pub record Request : Type 0 where
  pub domain : Domain
  pub ap : ℕ
  pub sta : ℕ
  pub octets : List ℕ
  pub fields : ElementFields

-- that request, at that access point of that station
abbrev pub request : Domain → ℕ → ℕ → List ℕ → ElementFields → Request
request d ap sta octets e = record { domain = d; ap = ap; sta = sta; octets = octets; fields = e }

-- the acts are the row of the event, and after them the fast transitions are these (IEEE Std 802.11-2020, 13.8.2,
-- 13.8.3)
pub record MovesOn (q : Request) (first : ℕ) (acts : List Act) (new : Moves) (h : List Act) : Type 0 where
  pub adds : TakeRow (here q.domain first (Ap q.ap)) h q.octets acts
  pub stands : HasMoves q.domain (Ap q.ap) (Sta q.sta) new (add acts h)

-- ---- authentication request

-- it takes the fast transitions from old to new, at an access point that had an attempt with the station or not, and
-- that draws that nonce next, if any (IEEE Std 802.11-2020, 13.8.2, 13.8.3)
abbrev pub AuthMovesFrom : Request → Option (List ℕ) → Bool → Moves → Moves → List Act → Type 0
AuthMovesFrom q anonce had old new acts =
    (first : ℕ) (b : Management) (h : List Act) → HasMoves q.domain (Ap q.ap) (Sta q.sta) old h
    → IsManagementFrom q.domain (Ap q.ap) (Sta q.sta) q.octets b q.fields → b.kind ≡ kind.FtReq
    → is_some (attempt (Sta q.sta) h) ≡ had → IsDrawn q.domain first (Ap q.ap) h anonce
    → MovesOn q first acts new h

-- what an authentication request does: the key derived, the acts, and which fast transitions there are then (IEEE Std
-- 802.11-2020, 13.8.2, 13.8.3)
pub record AuthMoves (q : Request) (anonce : Option (List ℕ)) (had : Bool) (old new : Moves) (t : Taken) (r : Reply)
    (acts : List Act) : Type 0 where
  pub key : t.key ≡ r.derived
  pub says : (part : Option (List Act)) → is_some part ≡ had
      → acts ≡ auth_request_acts q.domain (root_asked q.domain (Sta q.sta) (asked q.fields)) (Ap q.ap) (Sta q.sta) part (came q.octets q.fields t.outcome) r
  pub held : new.held ≡ old.held
  pub begun : HasBegun r.derived old.pending new.pending
  pub refused : (why : Reason) → t.outcome ≡ Refused why → new ≡ old
  pub steps : AuthMovesFrom q anonce had old new acts

-- what came of it is told by a reply, whose acts have been added; so has what was asked of key holders (IEEE Std
-- 802.11-2020, 13.8.2, 13.8.3)
pub record AuthTaken (q : Request) (anonce : Option (List ℕ)) (had : Bool) (Looks : Option PullAnswer → Type 0) (before after : List Act)
    (old new : Moves) (t : Taken) : Type 0 where
  pub reply : Reply
  pub acts : List Act
  pub adds : after ≡ before ++ acts
  pub moves : AuthMoves q anonce had old new t reply acts
  pub looks : Looks reply.looked

-- ---- reassociation request

-- the target is a session's from now on, or an attempt's still
abbrev pub put_back : TargetState → Bool → Moves → Moves
put_back s true m = record { pending = m.pending; held = Some s }
put_back s false m = record { pending = Some s; held = m.held }

-- no target takes it: it is refused, and nothing else is done
pub record IsUnawaited (outcome : Outcome) (r : Reply) : Type 0 where
  pub outcome_is : outcome ≡ Refused reason.Unawaited
  pub empty : IsEmpty r

-- the session's takes it, where there is one
abbrev pub ByHeld : ElementFields → News → Option TargetState → Option TargetState → Outcome → Reply → Type 0
ByHeld e news None new outcome r = (new ≡ None) × IsUnawaited outcome r
ByHeld e news (Some s) new outcome r = (t : TargetState) × (new ≡ Some t) × IsReassocTaken e news s t outcome r

-- the pending one takes it, where there is one
abbrev pub ByPending : ElementFields → News → Option TargetState → Moves → Moves → Outcome → Reply → Type 0
ByPending e news None old new outcome r = (new ≡ old) × IsUnawaited outcome r
ByPending e news (Some s) old new outcome r =
    (t : TargetState) × (new ≡ put_back t (is_some r.installed) (without_pending old)) × IsReassocTaken e news s t outcome r

-- the one of the session takes it, or the pending one
abbrev pub IsMovedBy : Bool → ElementFields → News → Moves → Moves → Outcome → Reply → Type 0
IsMovedBy true e news old new outcome r = (new.pending ≡ old.pending) × ByHeld e news old.held new.held outcome r
IsMovedBy false e news old new outcome r = ByPending e news old.pending old new outcome r

-- the one that is meant takes the request
pub record IsMoved (e : ElementFields) (news : News) (old new : Moves) (outcome : Outcome) (r : Reply) : Type 0 where
  pub by_meant : IsMovedBy (means_held e old) e news old new outcome r

-- where a key is installed it is that of the attempt, of which the session is from then on; else all is as it was (IEEE
-- Std 802.11-2020, 13.8.4, 13.8.5)
abbrev pub HasMoved : Option Keyed → Moves → Moves → Type 0
HasMoved None old new = new ≡ old
HasMoved (Some y) old new = (s : TargetState) × (new ≡ record { pending = None; held = Some s }) × (s.key ≡ y)

-- the request adds its row, and the fast transitions stand for the longer history (IEEE Std 802.11-2020, 13.8.4,
-- 13.8.5)
pub record ReassocMovesOn (q : Request) (first : ℕ) (acts : List Act) (old new : Moves) (y : Option Keyed) (h : List Act) : Type 0 where
  pub adds : TakeRow (here q.domain first (Ap q.ap)) h q.octets acts
  pub stands : HasMoves q.domain (Ap q.ap) (Sta q.sta) new (add acts h)
  pub moved : HasMoved y old new

-- it takes the fast transitions from old to new, at an access point that had a session with the station or not, and
-- that has those newest group keys; that key is installed, if any (IEEE Std 802.11-2020, 13.8.4, 13.8.5)
abbrev pub ReassocMovesFrom : Request → News → Bool → Moves → Moves → Option Keyed → List Act → Type 0
ReassocMovesFrom q news had old new y acts =
    (first : ℕ) (b : Management) (h : List Act) → HasMoves q.domain (Ap q.ap) (Sta q.sta) old h
    → IsManagementFrom q.domain (Ap q.ap) (Sta q.sta) q.octets b q.fields → b.kind ≡ kind.ReReq
    → is_some (session (Sta q.sta) h) ≡ had → IsNewest q.domain news h
    → ReassocMovesOn q first acts old new y h

-- what a reassociation request does: the key installed, the acts, and which fast transitions there are then (IEEE Std
-- 802.11-2020, 13.8.4, 13.8.5)
pub record ReassocMoves (q : Request) (news : News) (had : Bool) (old new : Moves) (t : Taken) (r : Reply)
    (acts : List Act) : Type 0 where
  pub key : t.key ≡ r.installed
  pub says : acts ≡ reassoc_request_acts q.domain (root_at q.domain (Sta q.sta) (id_of (meant q.fields old))) (Ap q.ap) (Sta q.sta) had (came q.octets q.fields t.outcome) r
  pub refused : (why : Reason) → t.outcome ≡ Refused why → new ≡ old
  pub steps : ReassocMovesFrom q news had old new r.installed acts

-- a reassociation request adds these acts, for every history that the fast transitions stand for (IEEE Std 802.11-2020,
-- 13.8.4, 13.8.5)
pub record ReassocTaken (q : Request) (news : News) (had : Bool) (before after : List Act) (old new : Moves)
    (t : Taken) : Type 0 where
  pub reply : Reply
  pub acts : List Act
  pub adds : after ≡ before ++ acts
  pub moves : ReassocMoves q news had old new t reply acts
