-- What contracts see of the objects of the outside that are kept in memory (profile).
use Rattle.std.specs.Prelude.{◌≡◌, ◌≢◌, ℕ, ◌+◌, ◌-◌, ◌^◌, ◌<◌, ◌≤◌, min, List, [], length, Contains, Bool, false, ◌==◌, Option, Some, None, if◌then◌else◌, Result, MatchResult, find, ◌⊎◌}
use Rattle.std.specs.Option.{option_map_or, option_and_then}
use Rattle.domain_base.specs.declared.names.Node.{Node}
use Rattle.domain_base.specs.declared.names.Node.TheVariants.{Ap, Sta}
use Rattle.domain_base.specs.declared.outside.LinkError.{LinkError}
use Rattle.domain_base.specs.declared.outside.LinkError.TheVariants.{Failed, NoMemory}
use Rattle.domain_base.specs.Told.{LinkStory, AirStory, new_link}

-- the calls that are to fail, by their numbers from 0, and how many were made and how many failed,
-- each of these two up to the end of 64 bits
pub record Calls : Type 0 where
  pub failing : List ℕ
  pub made : ℕ
  pub faults : ℕ

-- calls of which none was made yet
abbrev pub no_calls : List ℕ → Calls
no_calls failing = record { failing = failing; made = 0; faults = 0 }

-- one more, up to the end of 64 bits
abbrev pub one_more : ℕ → ℕ
one_more count = min (count + 1) (2 ^ 64 - 1)

-- the next call is to fail
abbrev pub FailsNext : Calls → Type 0
FailsNext calls = Contains calls.failing calls.made

-- the calls after one that went well
abbrev pub after_call : Calls → Calls
after_call calls = record calls { made = one_more calls.made }

-- the calls after one that failed
abbrev pub after_fault : Calls → Calls
after_fault calls = record calls { made = one_more calls.made; faults = one_more calls.faults }

-- a call is counted, and so is its fault
abbrev pub CountsCall : {T E : Type 0} → Calls → Calls → Result T E → Type 0
CountsCall old new result = MatchResult result (λ _. new ≡ after_call old) (λ _. new ≡ after_fault old)

-- a send counts as each call does (`CountsCall`); one for which memory ran out counts as made, and is no fault
abbrev pub CountsSend : {T : Type 0} → Calls → Calls → Result T LinkError → Type 0
CountsSend old new result =
    MatchResult result (λ _. new ≡ after_call old)
    (λ e. ((e ≡ Failed) × (new ≡ after_fault old)) ⊎ ((e ≡ NoMemory) × (new ≡ after_call old)))

-- a source: what is left, and its calls
pub record KeptSource : Type 0 where
  pub left : List ℕ
  pub calls : Calls

-- a sink: what has gone out, for how many octets there is room, and its calls
pub record KeptSink : Type 0 where
  pub out : List ℕ
  pub room : ℕ
  pub calls : Calls

-- there is a piece to write, and no room for it
abbrev pub NoRoom : KeptSink → List ℕ → Type 0
NoRoom sink piece = (sink.room ≤ length sink.out) × (0 < length piece)

-- the first octets that went out, for so many of which there is room
pub record FirstOctets : Type 0 where
  pub kept : List ℕ
  pub room : ℕ

-- the seed that draws give, and the one that they gave last
pub record OneSeed : Type 0 where
  pub seed : List ℕ
  pub last : Option (List ℕ)

-- a link: its story, and its calls
pub record KeptLink : Type 0 where
  pub story : LinkStory
  pub calls : Calls

-- draws: the seed that they give, the one given last, and their calls
pub record KeptDraws : Type 0 where
  pub seed : List ℕ
  pub last : Option (List ℕ)
  pub calls : Calls

-- the frames that the link of a node will give, in order
pub record NodeFrames : Type 0 where
  pub node : Node
  pub frames : List (List ℕ)

-- an air: what it has for links, those taken back, in order, for how many of them it has room, and
-- whether it tells
pub record KeptAir : Type 0 where
  pub incoming : List NodeFrames
  pub returned : List LinkStory
  pub room : ℕ
  pub tells : Bool

-- two nodes are one
abbrev pub same_node : Node → Node → Bool
same_node (Ap m) (Ap n) = m == n
same_node (Sta m) (Sta n) = m == n
same_node _ _ = false

-- an entry is for that node
abbrev pub is_for : Node → NodeFrames → Bool
is_for node entry = same_node entry.node node

-- the frames of the first entry for that node, and none where there is no entry
abbrev pub frames_for : Node → List NodeFrames → List (List ℕ)
frames_for node incoming =
    option_map_or (λ (entry : NodeFrames). entry.frames) (find (is_for node) incoming) []

-- the frames for other nodes are as they were
abbrev pub SameForOthers : Node → List NodeFrames → List NodeFrames → Type 0
SameForOthers node old new =
    (other : Node) → other ≢ node → frames_for other new ≡ frames_for other old

-- what an air in memory tells
abbrev pub story_of : KeptAir → Option AirStory
story_of air =
    if air.tells then Some (record { frames = λ node. frames_for node air.incoming; returned = air.returned })
    else None

-- the frames that a link will give, in order, and the numbers of its calls that are to fail
pub record PlannedParts : Type 0 where
  pub frames : List (List ℕ)
  pub failing : List ℕ

-- what is handed in for the link of a node: none, once the node was attached
pub record PlannedLink : Type 0 where
  pub node : Node
  pub parts : Option PlannedParts

-- a plan is for that node
abbrev pub is_plan_of : Node → PlannedLink → Bool
is_plan_of node plan = same_node plan.node node

-- what the first plan for that node has for its link
abbrev pub parts_for : Node → List PlannedLink → Option PlannedParts
parts_for node plans =
    option_and_then (λ (plan : PlannedLink). plan.parts) (find (is_plan_of node) plans)

-- the frames among them, and none where there are no parts
abbrev pub planned_frames : Node → List PlannedLink → List (List ℕ)
planned_frames node plans =
    option_map_or (λ (parts : PlannedParts). parts.frames) (parts_for node plans) []

-- the link that is made of a plan: nothing was sent by it yet
abbrev pub planned_link : Node → PlannedParts → KeptLink
planned_link node parts = record { story = new_link node parts.frames; calls = no_calls parts.failing }

-- what is there for other nodes is as it was
abbrev pub SamePartsForOthers : Node → List PlannedLink → List PlannedLink → Type 0
SamePartsForOthers node old new =
    (other : Node) → other ≢ node → parts_for other new ≡ parts_for other old

-- an air some of whose calls fail: what was handed in for links, those taken back, in order, for how
-- many of them it has room, whether it tells, and its calls
pub record FaultyAir : Type 0 where
  pub plans : List PlannedLink
  pub returned : List LinkStory
  pub room : ℕ
  pub tells : Bool
  pub calls : Calls

-- what such an air tells, as a story
abbrev pub faulty_story : FaultyAir → Option AirStory
faulty_story air =
    if air.tells then Some (record { frames = λ node. planned_frames node air.plans; returned = air.returned })
    else None
