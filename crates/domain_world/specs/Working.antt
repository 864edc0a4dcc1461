-- What the workers of a round do. A history of the key holders is what happened at them all, newest first.
-- For the code alone: no public contract speaks of it.
use Rattle.std.specs.Prelude.{◌≡◌, ℕ, zero, suc, ◌+◌, ◌<◌, ◌≤◌, true, cond, List, [], ◌∷◌, ◌++◌, length, Some, slice_get, IfOk}
use Rattle.std.specs.List.{AllByRecursion}
use Rattle.domain_base.specs.declared.names.Node.TheVariants.{Ap, Sta}
use Rattle.key_hierarchy.specs.declared.answers.PullAnswer.{PullAnswer}
use Rattle.key_holders.specs.Pulls.{MayPull, ByHolder, Answers}
use Rattle.run_journal.specs.declared.domain.Domain.{Domain}
use Rattle.run_journal.specs.declared.acts.Act.{Act}
use Rattle.run_journal.specs.declared.acts.Entry.{Entry}
use Rattle.run_journal.specs.Acts.{same}
use Rattle.run_journal.specs.Questions.{add}
use Rattle.domain_rules.specs.Network.{InForm, mac}
use Rattle.run_journal.specs.Events.{IsListed}
use Rattle.domain_rules.specs.Here.{here}
use Rattle.domain_rules.specs.Explained.{HappensAt}
use Rattle.domain_world.specs.Ordering.{node_of}
use Rattle.domain_rules.specs.Rows.{NodeEvent, Adds}
use Rattle.ft_exchange.specs.Asking.{ids_of}
use Rattle.node_base.specs.Changing.{IsStill}
use Rattle.node_base.specs.Events.{IsEventAt}
use Rattle.held_rows.specs.Looks.{AreLooked}
use Rattle.holder_table.specs.declared.history.HolderEvent.{HolderEvent}
use Rattle.holder_table.specs.Histories.{held_at, Follows}
use Rattle.holder_table.specs.Rule.{is_in}
use Rattle.holder_table.specs.Pass.{Pass}
use Rattle.holder_table.specs.Knowledge.{GaveFrom}
use Rattle.atomic_table.specs.Seated.{TableId}
use Rattle.ap_node.specs.State.{State as ApState}
use Rattle.ap_node.specs.Putting.{OneMove}
use Rattle.ap_node.specs.Stands.{StandsWith as ApStands}
use Rattle.domain_world.specs.declared.part.Part.{Part}
use Rattle.domain_world.specs.declared.working.Turn.{Turn}
use Rattle.domain_world.specs.declared.working.Batch.{Batch}
use Rattle.domain_world.specs.declared.working.Ran.{Ran}
use Rattle.domain_world.specs.declared.world.Coming.{Coming}
use Rattle.domain_world.specs.Acting.{IsChanged}
use Rattle.domain_world.specs.Comings.{event_at}
use Rattle.domain_world.specs.Holding.{HasFrom}

-- ---- one event

-- what key holders answered to access point a: its own by what it had before the event, and any by what it had after it
abbrev pub LookedAt : Domain → ℕ → List HolderEvent → List HolderEvent → List ℕ → List ℕ → ℕ → PullAnswer → Type 0
LookedAt d a old new id name k answer =
    Answers (ids_of d) (a ∷ []) (λ r. held_at r old) id name (mac d (Ap a)) (mac d (Sta k)) answer
    × ByHolder (ids_of d) id (λ r x. MayPull (held_at r new) name (mac d (Ap a)) (mac d (Sta k)) x) answer

-- after its history h an access point did these acts, and stands for all with the rows of its key holder
pub record Turns (d : Domain) (a : ℕ) (event : NodeEvent) (t : ApState) (old new : List HolderEvent) (g h : List Act) : Type 0 where
  pub adds : Adds (here d 0 (Ap a)) h event g
  pub stands : ApStands d 0 t (held_at a new) (add g h)
  pub looks : AreLooked (LookedAt d a old new) d g

-- an event took access point a, with the rows of its key holder, from one history of the key holders to another
pub record Turned (d : Domain) (a : ℕ) (event : NodeEvent) (s t : ApState) (old new : List HolderEvent) (g : List Act) : Type 0 where
  pub turns : (h : List Act) → ApStands d 0 s (held_at a old) h → Turns d a event t old new g h
  pub one : OneMove (held_at a old) (held_at a new)
  pub since : Follows old new

-- ---- the events of a round

-- what it is at its node
abbrev pub turn_event : Turn → NodeEvent
turn_event t = event_at t.event.now t.comes.now

-- the event is for a listed node, may come to it, and changes no key
abbrev pub IsFor : Domain → Turn → Type 0
IsFor d t = IsListed d (node_of t.event.now) × IsEventAt d (node_of t.event.now) (turn_event t) × IsStill (turn_event t)

-- the octets that come by the event
abbrev pub IsComing : List Entry → ℕ → Coming → Type 0
IsComing j round c = IsChanged c.event.now j round c.changed.items

-- after that journal the event is that to its node
abbrev pub IsTurn : Domain → List Entry → ℕ → Turn → Type 0
IsTurn d j round t = HappensAt t.event.now j round (node_of t.event.now) (turn_event t) × IsFor d t

-- those of access point k
abbrev pub turns_at : ℕ → List Turn → List Turn
turns_at k [] = []
turns_at k (t ∷ ts) = cond (same (Ap k) (node_of t.event.now)) (t ∷ turns_at k ts) (turns_at k ts)

-- so many access points from one on have none
abbrev pub AreIdle : ℕ → ℕ → List Turn → Type 0
AreIdle first count turns = (k : ℕ) → first ≤ k → k < first + count → turns_at k turns ≡ []

-- the network is in form, the key holders are its own, and so are the nodes of the events
pub record IsRound (d : Domain) (ids : List (List ℕ)) (turns : List Turn) : Type 0 where
  pub form : InForm d
  pub ids_are : ids ≡ ids_of d
  pub turns_are : AllByRecursion (IsFor d) turns

-- ---- a worker

-- Events took access point a from one state to another, one after the other, between two histories of the key holders, and these are
-- its acts. What happens between two of its events changes none of its rows.
unfoldable pub Worked : Domain → ℕ → List Turn → ApState → ApState → List HolderEvent → List HolderEvent → List Part → Type 0
Worked d a [] s t old new [] = (t ≡ s) × Follows old new × (held_at a new ≡ held_at a old)
Worked d a [] s t old new (p ∷ ps) = ⊥
Worked d a (e ∷ es) s t old new [] = ⊥
Worked d a (e ∷ es) s t old new (p ∷ ps) =
    (m : ApState) × (from : List HolderEvent) × (mid : List HolderEvent) × Follows old from × (held_at a from ≡ held_at a old) × (m.number ≡ s.number)
    × (p.node ≡ Ap a) × Turned d a (turn_event e) s m from mid p.out.acts × Worked d a es m t mid new ps

-- ---- all workers

-- each has its number
abbrev pub AreNumbered : List ApState → Type 0
AreNumbered aps = (k : ℕ) (s : ApState) → slice_get aps k ≡ Some s → s.number ≡ k

-- no access point is lost
abbrev pub StillHas : List ℕ → List ℕ → Type 0
StillHas before after = (r : ℕ) → is_in r before ≡ true → is_in r after ≡ true

-- what is handed back: the access points and the pass, which knows no less; those beside them moved none of their rows
pub record HandedBack (aps back : List ApState) (p q : Pass) : Type 0 where
  pub table : q.table ≡ p.table
  pub seen : Follows p.knows.seen q.knows.seen
  pub has : StillHas p.knows.has q.knows.has
  pub others : (r : ℕ) → length aps ≤ r → is_in r p.knows.has ≡ true → held_at r q.knows.seen ≡ held_at r p.knows.seen
  pub numbered : AreNumbered back
  pub count : length back ≡ length aps

-- the workers of the first n access points took them from one state to another between two histories of the key holders, and these are
-- their acts, by access points
unfoldable pub AllWorked : Domain → ℕ → List Turn → List HolderEvent → List HolderEvent → List ApState → List ApState → List Part → Type 0
AllWorked d zero turns old new aps back parts = (aps ≡ []) × (back ≡ []) × (parts ≡ [])
AllWorked d (suc n) turns old new aps back parts =
    (s : ApState) × (t : ApState) × (before : List ApState) × (behind : List ApState) × (front : List Part) × (mine : List Part)
    × (aps ≡ before ++ s ∷ []) × (back ≡ behind ++ t ∷ []) × (parts ≡ front ++ mine)
    × AllWorked d n turns old new before behind front × Worked d n (turns_at n turns) s t old new mine

-- ---- the workers of a batch

-- each has its number, the first of them that one
abbrev pub AreNumberedFrom : ℕ → List ApState → Type 0
AreNumberedFrom first aps = (k : ℕ) (s : ApState) → slice_get aps k ≡ Some s → s.number ≡ first + k

-- a batch is of access points of the network, in order, and its pass has them
pub record IsBatch (d : Domain) (id : TableId) (b : Batch) : Type 0 where
  pub listed : b.first + length b.aps.items ≤ length d.aps
  pub numbered : AreNumberedFrom b.first b.aps.items
  pub table : b.pass.table ≡ id
  pub has : HasFrom b.first (length b.aps.items) b.pass.knows.has

-- a batch in two, neither of them empty: the pass of the second has all from its first access point on
pub record IsHalved (b front back : Batch) : Type 0 where
  pub aps : b.aps.items ≡ front.aps.items ++ back.aps.items
  pub some : (0 < length front.aps.items) × (0 < length back.aps.items)
  pub first : front.first ≡ b.first
  pub next : back.first ≡ b.first + length front.aps.items
  pub table : (front.pass.table ≡ b.pass.table) × (back.pass.table ≡ b.pass.table)
  pub gave : GaveFrom back.first b.pass.knows front.pass.knows back.pass.knows

-- The workers of these access points, of which that is the first, took them from one state to another between two histories of the
-- key holders, and these are their acts, by access points.
unfoldable pub WorkedFrom : Domain → ℕ → List Turn → List HolderEvent → List HolderEvent → List ApState → List ApState → List Part → Type 0
WorkedFrom d n turns old new [] [] parts = parts ≡ []
WorkedFrom d n turns old new [] (t ∷ back) parts = ⊥
WorkedFrom d n turns old new (s ∷ aps) [] parts = ⊥
WorkedFrom d n turns old new (s ∷ aps) (t ∷ back) parts =
    (mine : List Part) × (rest : List Part) × (parts ≡ mine ++ rest) × Worked d n (turns_at n turns) s t old new mine × WorkedFrom d (suc n) turns old new aps back rest

-- the workers of a batch did these events: what they hand back, with a pass that knows no less; those beside them moved none of their rows
pub record HasRun (d : Domain) (turns : List Turn) (b : Batch) (r : Ran) : Type 0 where
  pub table : r.pass.table ≡ b.pass.table
  pub seen : Follows b.pass.knows.seen r.pass.knows.seen
  pub has : StillHas b.pass.knows.has r.pass.knows.has
  pub others : (k : ℕ) → (b.first ≤ k → k < b.first + length b.aps.items → ⊥) → is_in k b.pass.knows.has ≡ true → held_at k r.pass.knows.seen ≡ held_at k b.pass.knows.seen
  pub numbered : AreNumberedFrom b.first r.aps.items
  pub count : length r.aps.items ≡ length b.aps.items
  pub worked : IfOk r.parts (λ parts. WorkedFrom d b.first turns b.pass.knows.seen r.pass.knows.seen b.aps.items r.aps.items parts.items)
