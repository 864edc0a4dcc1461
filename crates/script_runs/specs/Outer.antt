-- What the outside of a live run was asked for: seeds, links, and frames. Lists of turns are NEWEST FIRST (profile).
use Rattle.std.specs.Prelude.{◌≡◌, ◌≢◌, ◌⊎◌, ℕ, ◌+◌, ◌*◌, ◌<◌, ◌≤◌, List, [], ◌∷◌, ◌++◌, length, drop, reverse, Option, Some, None}
use Rattle.std.specs.List.{AllByRecursion}
use Rattle.domain_base.specs.Causes.{Rose}
use Rattle.domain_base.specs.Told.{LinkStory, AirStory}
use Rattle.domain_base.specs.declared.names.Node.{Node}
use Rattle.run_journal.specs.Limits.{most_polls}
use Rattle.run_journal.specs.declared.domain.Domain.{Domain}
use Rattle.run_journal.specs.declared.acts.Entry.{Entry}
use Rattle.domain_links.specs.declared.breaks.Break.{Break}
use Rattle.domain_links.specs.declared.breaks.Break.TheVariants.{ByLink, ByWrite}
use Rattle.domain_links.specs.NodeOrder.{count, node_at}
use Rattle.domain_links.specs.Sends.{Send, sends}
use Rattle.domain_links.specs.Telling.{Tell, HasFailed, NoneFailed, left_after}
use Rattle.domain_links.specs.Attached.{IsBehind, frames_at}
use Rattle.domain_links.specs.Turns.{Delivery, IsLost, in_order, left_heard, turn_of}
use Rattle.domain_world.specs.State.{State}
use Rattle.script_lines.specs.Script.{Draft, AtNodes, InRound, seeded}
use Rattle.frame_script.specs.Headers.{Reading}
use Rattle.frame_script.specs.declared.reader.Mode.{Mode}
use Rattle.frame_script.specs.declared.reader.Mode.TheVariants.{Replay, Live}
use Rattle.script_runs.specs.Script.{Rounds, LastLine, Listed, Ran, Turned, Other}

-- what contracts see of it: the links of the nodes so far, in node order, what the air tells, and the seed last given
pub record Outer (L : Type 0) : Type 0 where
  pub links : List L
  pub air : Option AirStory
  pub last : Option (List ℕ)

-- those links, what the air tells, and the seed last given
abbrev pub outer : {L : Type 0} → List L → Option AirStory → Option (List ℕ) → Outer L
outer links air last = record { links = links; air = air; last = last }

-- ---- seeds

-- the seed that a script was told, if one was, is the one last given; else none was given since
abbrev pub IsDrawn : Option (List ℕ) → Option (List ℕ) → Option (List ℕ) → Type 0
IsDrawn None before now = now ≡ before
IsDrawn (Some seed) before now = now ≡ Some seed

-- a reader was told that seed, which was due
abbrev pub IsTold : Reading → Reading → Option (List ℕ) → Type 0
IsTold old new last =
    (seed : List ℕ) × ((last ≡ Some seed) × (new ≡ record old { draft = seeded old.draft seed }))

-- ---- turns

-- what links have left of these frames after so many turns
abbrev pub left_behind : (ℕ → List (List ℕ)) → ℕ → ℕ → List (List ℕ)
left_behind frames turns i = drop (most_polls * turns) (frames i)

-- what nodes took in each of these turns is what their links had in front, each frame cut to 2,400 octets, up to that many a node
unfoldable pub AreHeard : Domain → (ℕ → List (List ℕ)) → List (List Delivery) → Type 0
AreHeard d frames [] = Unit {0}
AreHeard d frames (given ∷ turns) =
    AreHeard d frames turns × (given ≡ turn_of (node_at d) (left_behind frames (length turns)) (count d))

-- the same, but in the last turn only a front was taken
abbrev pub IsHeardPart : Domain → (ℕ → List (List ℕ)) → List (List Delivery) → Type 0
IsHeardPart d frames [] = Unit {0}
IsHeardPart d frames (given ∷ turns) =
    AreHeard d frames turns × ((rest : List Delivery) × (given ++ rest ≡ turn_of (node_at d) (left_behind frames (length turns)) (count d)))

-- only where the last line, which broke, is a turn was a front of the last turn taken
abbrev pub IsHeardBy : LastLine → Domain → (ℕ → List (List ℕ)) → List (List Delivery) → Type 0
IsHeardBy Turned d frames turns = IsHeardPart d frames turns
IsHeardBy line d frames turns = AreHeard d frames turns

-- ---- links

-- after a last line that broke all nodes have a link, but for the last one where that line listed it
abbrev pub AllButNew : LastLine → ℕ → ℕ → Type 0
AllButNew Listed nodes links = links + 1 ≡ nodes
AllButNew line nodes links = links ≡ nodes

-- what goes out for a journal, which has its last entry first
abbrev pub sends_for : Domain → List Entry → List Send
sends_for d j = sends d (reverse j)

-- in the last turn nodes took frames
abbrev pub TookSome : List (List Delivery) → Type 0
TookSome [] = ⊥
TookSome (given ∷ turns) = given ≢ []

-- what did not go out after a last line that a link broke: of the line of a node no frame, of that of a round one at least. Of
-- a turn any, as it may be a frame that could not be taken, but none where the turn took nothing.
abbrev pub Cuts : LastLine → List (List Delivery) → List Send → Type 0
Cuts Listed turns rest = rest ≡ []
Cuts Ran turns rest = rest ≢ []
Cuts Turned turns rest = (rest ≡ []) ⊎ TookSome turns
Cuts Other turns rest = ⊥

-- the last line was run as a round, or was a turn in which a node took a frame
abbrev pub HasRun : LastLine → List (List Delivery) → Type 0
HasRun Ran turns = Unit {0}
HasRun Turned turns = TookSome turns
HasRun line turns = ⊥

-- the lines of the last round could not be written: frames are sent after their round's lines, so of that round none went out, and of
-- those before it all
pub record IsUnsent (rounds : Rounds) (early : List Entry) (front : List Send) : Type 0 where
  pub ran : HasRun rounds.last rounds.turns
  pub earlier : AllByRecursion (λ (e : Entry). e.round < length rounds.run) early
  pub none : front ≡ []

-- what went out of the last round, by why its line was not done wholly
abbrev pub IsCutBy : Break → Rounds → List Entry → List Send → List Send → Type 0
IsCutBy (ByLink error) rounds early front rest = Cuts rounds.last rounds.turns rest
IsCutBy ByWrite rounds early front rest = IsUnsent rounds early front

-- what links have left after a turn that broke, of what they had before it: all but what their nodes took, and where memory ran out one
-- frame less at most, which no node took
pub record IsPolled (why : Break) (d : Domain) (due left : ℕ → List (List ℕ)) (given : List Delivery) : Type 0 where
  pub heard : ℕ → List (List ℕ)
  pub order : given ≡ in_order (node_at d) heard (count d)
  pub place : ℕ
  pub lost : ℕ
  pub few_lost : IsLost why lost
  pub left_are : (i : ℕ) → left i ≡ left_after (left_heard due heard) place lost i

-- the same of the last of all turns
abbrev pub IsLeftTurn : Break → Domain → (ℕ → List (List ℕ)) → List (List Delivery) → (ℕ → List (List ℕ)) → Type 0
IsLeftTurn why d frames [] left = ⊥
IsLeftTurn why d frames (given ∷ turns) left = IsPolled why d (left_behind frames (length turns)) left given

-- what links have left after a last line that broke: what they had before it, but for what nodes took where it is a turn
abbrev pub IsLeft : LastLine → Break → Domain → (ℕ → List (List ℕ)) → List (List Delivery) → (ℕ → List (List ℕ)) → Type 0
IsLeft Turned why d frames turns left = IsLeftTurn why d frames turns left
IsLeft line why d frames turns left = (i : ℕ) → left i ≡ left_behind frames (length turns) i

-- after a last line that was not done wholly: all that goes out for earlier entries went out, and of what goes out
-- for the later ones, all of the last round, a front; and links have that left
pub record TellLast {L : Type 0} (told : L → Option LinkStory) (why : Break) (d : Domain) (links : List L) (rounds : Rounds) (j : List Entry) (left : ℕ → List (List ℕ)) : Type 0 where
  pub late : List Entry
  pub early : List Entry
  pub whole : late ++ early ≡ j
  pub last : AllByRecursion (λ (e : Entry). e.round ≡ length rounds.run) late
  pub front : List Send
  pub rest : List Send
  pub parts : front ++ rest ≡ sends_for d late
  pub cause : IsCutBy why rounds early front rest
  pub tell : Tell told (node_at d) links left (sends_for d early ++ front)

-- links of so many nodes, the first, were attached; the air has the frames of the others, and took no link back
pub record HasLinks (d : Domain) (start : AirStory) (links : ℕ) (air : Option AirStory) : Type 0 where
  pub now : AirStory
  pub is : air ≡ Some now
  pub others : (node : Node) → IsBehind (node_at d) links node → now.frames node ≡ start.frames node
  pub returned : now.returned ≡ start.returned

-- what the links of all nodes tell: each has sent what its node did, and has left what no turn took
pub record IsLinked {L : Type 0} (told : L → Option LinkStory) (d : Domain) (start : AirStory) (o : Outer L) (turns : List (List Delivery)) (j : List Entry) : Type 0 where
  pub all : length o.links ≡ count d
  pub attached : HasLinks d start (length o.links) o.air
  pub heard : AreHeard d (frames_at (node_at d) start) turns
  pub tell : Tell told (node_at d) o.links (left_behind (frames_at (node_at d) start) (length turns)) (sends_for d j)

-- after a last line that was not done wholly: of the last round a front, one for all links, and they have left what
-- no turn took, but for a frame that a turn lost where memory ran out. A node whose own line broke has no link
pub record IsLinkedPart {L : Type 0} (told : L → Option LinkStory) (why : Break) (d : Domain) (start : AirStory) (o : Outer L) (rounds : Rounds) (j : List Entry) : Type 0 where
  pub all : AllButNew rounds.last (count d) (length o.links)
  pub attached : HasLinks d start (length o.links) o.air
  pub heard : IsHeardBy rounds.last d (frames_at (node_at d) start) rounds.turns
  pub left : ℕ → List (List ℕ)
  pub kept : IsLeft rounds.last why d (frames_at (node_at d) start) rounds.turns left
  pub part : TellLast told why d o.links rounds j left

-- before the header is whole there are no links
pub record IsUnlinked {L : Type 0} (start : AirStory) (o : Outer L) (turns : List (List Delivery)) : Type 0 where
  pub none : o.links ≡ []
  pub same : o.air ≡ Some start
  pub no_turns : turns ≡ []

-- by what the lines have said: once the header is whole links are attached so
abbrev pub IsLinkedAt : {L : Type 0} → (L → Option LinkStory) → Draft → AirStory → Outer L → List (List Delivery) → List Entry → Type 0
IsLinkedAt told (AtNodes h) start o turns j = IsLinked told h.network start o turns j
IsLinkedAt told (InRound h n) start o turns j = IsLinked told h.network start o turns j
IsLinkedAt told draft start o turns j = IsUnlinked start o turns

-- the same after a line that broke
abbrev pub IsLinkedPartAt : {L : Type 0} → (L → Option LinkStory) → Break → Draft → AirStory → Outer L → Rounds → List Entry → Type 0
IsLinkedPartAt told why (AtNodes h) start o rounds j = IsLinkedPart told why h.network start o rounds j
IsLinkedPartAt told why (InRound h n) start o rounds j = IsLinkedPart told why h.network start o rounds j
IsLinkedPartAt told why draft start o rounds j = ⊥

-- ---- all of it

-- since the outside was as at first, seeds were drawn as the lines told, and in a live run frames were taken and sent, where links
-- tell of them
pub record IsMet {L : Type 0} (told : L → Option LinkStory) (first o : Outer L) (m : Mode) (draft : Draft) (rounds : Rounds) (j : List Entry) : Type 0 where
  pub drawn : IsDrawn rounds.drawn first.last o.last
  pub linked : m ≡ Live → (start : AirStory) → first.air ≡ Some start → IsLinkedAt told draft start o rounds.turns j

-- the same after a line that broke
pub record IsMetPart {L : Type 0} (told : L → Option LinkStory) (why : Break) (first o : Outer L) (m : Mode) (draft : Draft) (rounds : Rounds) (j : List Entry) : Type 0 where
  pub drawn : IsDrawn rounds.drawn first.last o.last
  pub linked : m ≡ Live → (start : AirStory) → first.air ≡ Some start → IsLinkedPartAt told why draft start o rounds j

-- how many links there are: in a live run one for each node of the world
abbrev pub links_due : Mode → Option State → ℕ
links_due Live (Some w) = count w.domain
links_due Live None = 0
links_due Replay world = 0

-- ---- faults

-- to whom a fault is laid
pub data Blame : Type 0 where
  Nobody : Blame
  OnLinks : Blame
  OnDraws : Blame

-- the counts of the air and of links, and that of the draws, before and after: they stay, but for whom a fault is laid
-- to
pub record IsBlamed {L : Type 0} (faults : L → ℕ) (blame : Blame) (old new : List L) (air_old air_new draws_old draws_new : ℕ) : Type 0 where
  pub later : air_old ≤ air_new
  pub failed : blame ≡ OnLinks → Rose air_old air_new ⊎ HasFailed faults new
  pub kept : blame ≢ OnLinks → (air_new ≡ air_old) × (NoneFailed faults old → NoneFailed faults new)
  pub undrawn : blame ≡ OnDraws → Rose draws_old draws_new
  pub drawn : blame ≢ OnDraws → draws_new ≡ draws_old
