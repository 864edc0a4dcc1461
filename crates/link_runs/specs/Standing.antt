-- Where a run of one end stands: what its lines have told, and what the outside was asked for.
-- For the code alone: no public contract speaks of it.
use Rattle.std.specs.Prelude.{◌≡◌, ◌≢◌, ◌⊎◌, ℕ, ◌<◌, ◌≤◌, Bool, true, false, List, [], length, Option, None, Some, Result, Ok, Err}
use Rattle.domain_base.specs.Causes.{Rose}
use Rattle.domain_base.specs.Told.{Attaches, LinkStory, AirStory}
use Rattle.domain_base.specs.declared.names.Node.{Node}
use Rattle.domain_base.specs.declared.outside.LinkError.TheVariants as link
use Rattle.run_journal.specs.Limits.{most_polls}
use Rattle.run_journal.specs.declared.acts.Entry.{Entry}
use Rattle.link_steps.specs.Ends.{node_of}
use Rattle.link_steps.specs.declared.ends.LinkEnd.{LinkEnd}
use Rattle.link_steps.specs.declared.steps.LinkEvent.{LinkEvent}
use Rattle.holder_link.specs.Between.{state_of_ends}
use Rattle.link_lines.specs.declared.draft.LinkDue.{LinkDue}
use Rattle.link_lines.specs.declared.draft.LinkHeader.{LinkHeader}
use Rattle.link_lines.specs.declared.said.LinkSaid.{LinkSaid}
use Rattle.link_lines.specs.Asked.{event_of, revoked_of}
use Rattle.link_lines.specs.Drafts.{LinkDraft, is_whole, seeded}
use Rattle.link_lines.specs.declared.said.LinkSaid.TheVariants as said
use Rattle.link_lines.specs.Lines.{line_says}
use Rattle.link_runs.specs.declared.found.Breach.{Breach}
use Rattle.link_runs.specs.declared.found.Breach.TheVariants.{ByLink, ByWrite}
use Rattle.link_runs.specs.declared.found.Halt.{Halt}
use Rattle.link_runs.specs.declared.found.Halt.TheVariants as halt
use Rattle.link_runs.specs.declared.found.Undone.{Undone}
use Rattle.link_runs.specs.declared.found.Undone.TheVariants.{Refused, NoMemory, DrawFault, Broken}
use Rattle.link_runs.specs.declared.state.LinkState.{LinkState}
use Rattle.link_runs.specs.declared.steps.Running.{Running}
use Rattle.link_runs.specs.Endings.{Breaks}
use Rattle.link_runs.specs.Outer.{AreHeard, IsDrawn, StoryPart, story_of}
use Rattle.link_runs.specs.Stepping.{IsAfter, StaysTold, Steps, Takes, asked_in}
use Rattle.link_runs.specs.Told.{Note, Told, Began, Hears, Refuses, asked_by, entries_of}

-- ---- the outside

-- what contracts see of it: what the air tells, and the seed last given
pub record Outer : Type 0 where
  pub air : Option AirStory
  pub last : Option (List ℕ)

abbrev pub outer : Option AirStory → Option (List ℕ) → Outer
outer air last = record { air = air; last = last }

-- the end's link was attached: the air has the datagrams of other nodes, and took no link back
pub record HasLink (end : LinkEnd) (start : AirStory) (air : Option AirStory) : Type 0 where
  pub now : AirStory
  pub is : air ≡ Some now
  pub others : (node : Node) → node ≢ node_of end → now.frames node ≡ start.frames node
  pub returned : now.returned ≡ start.returned

-- it tells what the steps sent, and has left what no turn took
pub record IsMet {L : Type 0} (told : L → Option LinkStory) (start : AirStory) (r : Running L) (air : Option AirStory) (t : Told) : Type 0 where
  pub has : HasLink t.draft.end start air
  pub heard : AreHeard (start.frames (node_of t.draft.end)) t.turns
  pub tells : told r.link ≡ Some (story_of t.draft.end (start.frames (node_of t.draft.end)) t)

-- the same after a line that was not done wholly
pub record IsMetPart {L : Type 0} (told : L → Option LinkStory) (why : Breach) (start : AirStory) (r : Running L) (air : Option AirStory) (t : Told) : Type 0 where
  pub has : HasLink t.draft.end start air
  pub story : LinkStory
  pub tells : told r.link ≡ Some story
  pub part : StoryPart why t.draft.end (start.frames (node_of t.draft.end)) t story

-- before the header is whole there is no link, and no turn
pub record IsUnmet (first air : Option AirStory) (t : Told) : Type 0 where
  pub due_is : is_whole t.draft.due ≡ false
  pub same : air ≡ first

abbrev pub MetBy : {L : Type 0} → (L → Option LinkStory) → Option AirStory → Option (Running L) → Option AirStory → Told → Type 0
MetBy told first None air t = IsUnmet first air t
MetBy told first (Some r) air t = (is_whole t.draft.due ≡ true) × ((start : AirStory) → first ≡ Some start → IsMet told start r air t)

-- an end whose link could not be attached
pub record IsUnlinked (first air : Option AirStory) (t : Told) : Type 0 where
  pub began : t.last ≡ Began
  pub due_is : is_whole t.draft.due ≡ true
  pub same : air ≡ first

abbrev pub MetPartBy : {L : Type 0} → (L → Option LinkStory) → Breach → Option AirStory → Option (Running L) → Option AirStory → Told → Type 0
MetPartBy told why first None air t = IsUnlinked first air t
MetPartBy told why first (Some r) air t = (is_whole t.draft.due ≡ true) × ((t.last ≢ Began) × ((start : AirStory) → first ≡ Some start → IsMetPart told why start r air t))

-- since the outside was as at first
pub record Met {L : Type 0} (told : L → Option LinkStory) (first now : Outer) (running : Option (Running L)) (t : Told) : Type 0 where
  pub drawn : IsDrawn t.drawn first.last now.last
  pub met : MetBy told first.air running now.air t

pub record MetPart {L : Type 0} (told : L → Option LinkStory) (why : Breach) (first now : Outer) (running : Option (Running L)) (t : Told) : Type 0 where
  pub drawn : IsDrawn t.drawn first.last now.last
  pub met : MetPartBy told why first.air running now.air t

-- ---- the end

-- an end that has not begun has done no step
pub record IsIdle (t : Told) (j : List Entry) : Type 0 where
  pub notes_are : t.notes ≡ []
  pub turns_are : t.turns ≡ []
  pub journal : j ≡ []

abbrev pub StandsBy : {L : Type 0} → Option (Running L) → Told → List Entry → Type 0
StandsBy None t j = IsIdle t j
StandsBy (Some r) t j = IsAfter t.draft.header r t.notes j

-- the lines so far told this
pub record Stands {L : Type 0} (told : L → Option LinkStory) (first now : Outer) (s : LinkState L) (j : List Entry) (t : Told) : Type 0 where
  pub draft_is : s.reader ≡ t.draft
  pub steps : StandsBy s.running t j
  pub met : Met told first now s.running t

-- ---- what is ready

-- how many questions were asked
abbrev pub asked_of : {L : Type 0} → Option (Running L) → ℕ
asked_of None = 0
asked_of (Some r) = asked_in r

-- an end has begun exactly where its header is whole
abbrev pub IsBegun : {L : Type 0} → LinkDue → Option (Running L) → Type 0
IsBegun due None = is_whole due ≡ false
IsBegun due (Some r) = (is_whole due ≡ true) × (length r.ends.holders.ids ≡ 1)

-- ---- what one line does

-- the reader was told the seed that was given last
abbrev pub IsSeeded : LinkDraft → LinkDraft → Option (List ℕ) → Type 0
IsSeeded old new last = (seed : List ℕ) × ((last ≡ Some seed) × (new ≡ seeded old seed))

-- an end that has begun with that header, and whose link was attached
pub record Begins {L : Type 0} (told : L → Option LinkStory) (end : LinkEnd) (h : LinkHeader) (r : Running L) (old new : Option AirStory) : Type 0 where
  pub after_ : IsAfter h r [] []
  pub none : asked_in r ≡ 0
  pub attached : Attaches old new (node_of end) (told r.link)

-- it has not, as memory ran out or its link could not be attached
abbrev pub IsUnbegun : Undone → Type 0
IsUnbegun NoMemory = Unit {0}
IsUnbegun (Broken (ByLink link.Failed)) = Unit {0}
IsUnbegun _ = ⊥

-- a line that asks for an event, and not for a turn
abbrev pub IsEvent : LinkSaid → Type 0
IsEvent (said.Row sta) = Unit {0}
IsEvent (said.Revoke sta) = Unit {0}
IsEvent (said.Ask sta r1kh) = Unit {0}
IsEvent (said.Forget n) = Unit {0}
IsEvent _ = ⊥

-- why it was not done wholly
abbrev pub undone_by : Halt → Undone
undone_by halt.NoMemory = NoMemory
undone_by halt.Unwritten = Broken ByWrite
undone_by (halt.Unsent error) = Broken (ByLink error)

-- the event happened at the end, or memory ran out before it
pub record StepsAs {L T : Type 0} (told : L → Option LinkStory) (h : LinkHeader) (end : LinkEnd) (old new : Running L) (asked : ℕ) (said_ : LinkSaid) (j k : List Entry) (result : Result T Halt) : Type 0 where
  pub event : LinkEvent
  pub asks : event_of h asked said_ ≡ Some event
  pub steps : Steps told end (revoked_of said_) event old new j k result

abbrev pub IsUnstepped : {L : Type 0} → (L → Option LinkStory) → Running L → Running L → List Entry → List Entry → Type 0
IsUnstepped told old new j k = (state_of_ends new.ends ≡ state_of_ends old.ends) × ((k ≡ j) × StaysTold (told old.link) (told new.link))

abbrev pub StepsIn : {L T : Type 0} → (L → Option LinkStory) → LinkHeader → LinkEnd → Running L → Running L → ℕ → LinkSaid → List Entry → List Entry → Result T Undone → Type 0
StepsIn {L = L} {T = T} told h end old new asked said_ j k (Ok x) = StepsAs {L = L} {T = T} told h end old new asked said_ j k (Ok x)
StepsIn {L = L} {T = T} told h end old new asked said_ j k (Err (Broken ByWrite)) = StepsAs {L = L} {T = T} told h end old new asked said_ j k (Err halt.Unwritten)
StepsIn {L = L} {T = T} told h end old new asked said_ j k (Err (Broken (ByLink error))) = StepsAs {L = L} {T = T} told h end old new asked said_ j k (Err (halt.Unsent error))
StepsIn told h end old new asked said_ j k (Err NoMemory) = IsUnstepped told old new j k
StepsIn told h end old new asked said_ j k (Err _) = ⊥

abbrev pub StepsBy : {L T : Type 0} → (L → Option LinkStory) → LinkDraft → Option (Running L) → Option (Running L) → ℕ → LinkSaid → List Entry → List Entry → Result T Undone → Type 0
StepsBy told d (Some old) (Some new) asked said_ j k result = StepsIn told d.header d.end old new asked said_ j k result
StepsBy told d old new asked said_ j k result = ⊥

abbrev pub StepsFor : {L T : Type 0} → (L → Option LinkStory) → LinkState L → LinkState L → ℕ → LinkSaid → List Entry → List Entry → Result T Undone → Type 0
StepsFor told s s' asked said_ j k result = StepsBy told s.reader s.running s'.running asked said_ j k result

-- a turn, after whatever notes
abbrev pub TurnsIn : {L T : Type 0} → (L → Option LinkStory) → LinkEnd → Running L → Running L → List Entry → List Entry → Result T Undone → Type 0
TurnsIn {L = L} {T = T} told end old new j k (Ok x) = (h : LinkHeader) (notes : List Note) → IsAfter h old notes j → Takes {L = L} {T = T} told end h most_polls old new notes k (Ok x)
TurnsIn {L = L} {T = T} told end old new j k (Err (Broken why)) = (h : LinkHeader) (notes : List Note) → IsAfter h old notes j → Takes {L = L} {T = T} told end h most_polls old new notes k (Err why)
TurnsIn told end old new j k (Err _) = ⊥

abbrev pub TurnsBy : {L T : Type 0} → (L → Option LinkStory) → LinkEnd → Option (Running L) → Option (Running L) → List Entry → List Entry → Result T Undone → Type 0
TurnsBy told end (Some old) (Some new) j k result = TurnsIn told end old new j k result
TurnsBy told end old new j k result = ⊥

abbrev pub TurnsFor : {L T : Type 0} → (L → Option LinkStory) → LinkState L → LinkState L → List Entry → List Entry → Result T Undone → Type 0
TurnsFor told s s' j k result = TurnsBy told s.reader.end s.running s'.running j k result

-- ---- a line

-- it was done
pub record TellsLine {L : Type 0} (told : L → Option LinkStory) (first now : Outer) (s : LinkState L) (line : List ℕ) (k : List Entry) (before : Told) : Type 0 where
  pub t : Told
  pub hears : Hears line before t
  pub stands : Stands told first now s k t

-- it was not done wholly
pub record BreaksLine {L : Type 0} (told : L → Option LinkStory) (why : Breach) (first now : Outer) (s : LinkState L) (line : List ℕ) (k : List Entry) (before : Told) : Type 0 where
  pub t : Told
  pub hears : Hears line before t
  pub end_is : t.draft.end ≡ s.reader.end
  pub breaks : Breaks why t
  pub journal : k ≡ entries_of t.notes
  pub met : MetPart told why first now s.running t

-- nothing was done
pub record Unmoved {L : Type 0} (told : L → Option LinkStory) (first now : Outer) (s : LinkState L) (k : List Entry) (before : Told) : Type 0 where
  pub end_is : before.draft.end ≡ s.reader.end
  pub journal : k ≡ entries_of before.notes
  pub met : Met told first now s.running before

abbrev pub LeavesLine : {L T : Type 0} → (L → Option LinkStory) → Outer → Outer → LinkState L → List ℕ → List Entry → Told → Result T Undone → Type 0
LeavesLine told first now s line k before (Ok x) = TellsLine told first now s line k before
LeavesLine told first now s line k before (Err (Refused refusal)) = Refuses line before refusal × Stands told first now s k before
LeavesLine told first now s line k before (Err NoMemory) = Unmoved told first now s k before
LeavesLine told first now s line k before (Err DrawFault) = (line_says before.draft (asked_by before) line ≡ Ok (before.draft, said.Draw)) × ((before.notes ≡ []) × Unmoved told first now s k before)
LeavesLine told first now s line k before (Err (Broken why)) = BreaksLine told why first now s line k before

-- ---- faults

abbrev pub undone_short : {T : Type 0} → Result T Undone → Bool
undone_short (Err (Broken ByWrite)) = true
undone_short result = false

abbrev pub undone_hurt : {T : Type 0} → Result T Undone → Bool
undone_hurt (Err (Broken (ByLink link.Failed))) = true
undone_hurt result = false

abbrev pub undone_undrawn : {T : Type 0} → Result T Undone → Bool
undone_undrawn (Err DrawFault) = true
undone_undrawn result = false

-- how often the link failed
abbrev pub faults_of : {L : Type 0} → (L → ℕ) → Option (Running L) → ℕ
faults_of faults None = 0
faults_of faults (Some r) = faults r.link

-- the counts of the air and of the link: one of them tells of a fault there, and else both are as they were
pub record AreHurt (hurt : Bool) (air_old air_new link_old link_new : ℕ) : Type 0 where
  pub later : air_old ≤ air_new
  pub failed : hurt ≡ true → Rose air_old air_new ⊎ (0 < link_new)
  pub kept : hurt ≡ false → (air_new ≡ air_old) × (link_new ≡ link_old)

-- the count of the draws
pub record IsDrained (undrawn : Bool) (old new : ℕ) : Type 0 where
  pub failed : undrawn ≡ true → Rose old new
  pub kept : undrawn ≡ false → new ≡ old

-- of an end that has just begun, or has not
abbrev pub begun_faults : {L : Type 0} → (L → ℕ) → Result (Running L) Undone → ℕ
begun_faults faults (Ok r) = faults r.link
begun_faults faults (Err undone) = 0
