-- What the links of a live run were sent and gave (profile).
use Rattle.std.specs.Prelude.{◌≡◌, ℕ, List, [], ◌++◌, length, Option, Some}
use Rattle.domain_base.specs.declared.names.Node.{Node}
use Rattle.domain_base.specs.Told.{LinkStory, AirStory}
use Rattle.run_journal.specs.declared.domain.Domain.{Domain}
use Rattle.run_journal.specs.declared.acts.Entry.{Entry}
use Rattle.domain_links.specs.declared.breaks.Break.{Break}
use Rattle.domain_links.specs.declared.breaks.Break.TheVariants.{ByLink, ByWrite}
use Rattle.domain_links.specs.NodeOrder.{count, node_at}
use Rattle.domain_links.specs.Telling.{Tell}
use Rattle.domain_links.specs.Attached.{IsBehind, frames_at}
use Rattle.domain_links.specs.Turns.{Delivery}
use Rattle.script_lines.specs.Script.{Draft, AtNodes, InRound}
use Rattle.script_runs.specs.declared.stops.Found.{Found}
use Rattle.script_runs.specs.declared.stops.Found.TheVariants.{Stopped}
use Rattle.script_runs.specs.declared.stops.Stop.TheVariants.{Broken, Unwritten}
use Rattle.script_runs.specs.Script.{Rounds}
use Rattle.script_runs.specs.Outer.{IsDrawn, AreHeard, IsHeardBy, AllButNew, TellLast, IsLeft, left_behind, sends_for}

-- a link that was taken back tells its story
abbrev pub itself : LinkStory → Option LinkStory
itself story = Some story

-- the links taken back are those of all nodes, in their order: each has sent what its node sent, to whom address 1
-- names, in order. Turns took of each what it had in front, and it has left what no turn took
pub record AreEnded (d : Domain) (start : AirStory) (turns : List (List Delivery)) (j : List Entry) (ended : List LinkStory) : Type 0 where
  pub all : length ended ≡ count d
  pub heard : AreHeard d (frames_at (node_at d) start) turns
  pub tell : Tell itself (node_at d) ended (left_behind (frames_at (node_at d) start) (length turns)) (sends_for d j)

-- after a last line that was not done wholly: those of all nodes, but for the last one where the last line listed
-- it, after which no link was attached. They have sent all of the rounds before the last, and one common front of what
-- that one sent. Turns took what they would, but for the last one where it is the last line, which took a front. Links
-- have left what no turn took, but for a frame that the last one lost where memory ran out
pub record AreEndedPart (why : Break) (d : Domain) (start : AirStory) (rounds : Rounds) (j : List Entry) (ended : List LinkStory) : Type 0 where
  pub all : AllButNew rounds.last (count d) (length ended)
  pub heard : IsHeardBy rounds.last d (frames_at (node_at d) start) rounds.turns
  pub left : ℕ → List (List ℕ)
  pub kept : IsLeft rounds.last why d (frames_at (node_at d) start) rounds.turns left
  pub part : TellLast itself why d ended rounds j left

-- by what the lines have said: before the header is whole no link was attached
abbrev pub EndsAll : Draft → AirStory → List (List Delivery) → List Entry → List LinkStory → Type 0
EndsAll (AtNodes h) start turns j ended = AreEnded h.network start turns j ended
EndsAll (InRound h n) start turns j ended = AreEnded h.network start turns j ended
EndsAll draft start turns j ended = (ended ≡ []) × (turns ≡ [])

-- the same after a line that was not done wholly
abbrev pub EndsPart : Break → Draft → AirStory → Rounds → List Entry → List LinkStory → Type 0
EndsPart why (AtNodes h) start rounds j ended = AreEndedPart why h.network start rounds j ended
EndsPart why (InRound h n) start rounds j ended = AreEndedPart why h.network start rounds j ended
EndsPart why draft start rounds j ended = ⊥

-- the links taken back, by how the reading ended
abbrev pub EndsBy : Found → Draft → AirStory → Rounds → List Entry → List LinkStory → Type 0
EndsBy (Stopped (Broken error)) draft start rounds j ended = EndsPart (ByLink error) draft start rounds j ended
EndsBy (Stopped Unwritten) draft start rounds j ended = EndsPart ByWrite draft start rounds j ended
EndsBy found draft start rounds j ended = EndsAll draft start rounds.turns j ended

-- no link of that node is among the first so many; before the header is whole no node has one
abbrev pub IsOther : Draft → ℕ → Node → Type 0
IsOther (AtNodes h) links node = IsBehind (node_at h.network) links node
IsOther (InRound h n) links node = IsBehind (node_at h.network) links node
IsOther draft links node = Unit {0}

-- where the air tells, at first and at the end, its links stand at the end of those taken back, and what it has for other nodes it
-- had at first
pub record GaveBack (found_ : Found) (draft : Draft) (rounds : Rounds) (j : List Entry) (start now : AirStory) : Type 0 where
  pub ended : List LinkStory
  pub returned : now.returned ≡ start.returned ++ ended
  pub others : (node : Node) → IsOther draft (length ended) node → now.frames node ≡ start.frames node
  pub ends : EndsBy found_ draft start rounds j ended

-- the seed of `seed draw` is the one that was drawn, and the links were sent what their nodes sent and gave what turns took
pub record Meets (found_ : Found) (draft : Draft) (rounds : Rounds) (air_old air_new : Option AirStory) (last_old last_new : Option (List ℕ)) (j : List Entry) : Type 0 where
  pub drawn : IsDrawn rounds.drawn last_old last_new
  pub linked : (start now : AirStory) → air_old ≡ Some start → air_new ≡ Some now → GaveBack found_ draft rounds j start now
