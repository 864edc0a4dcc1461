-- Links attached in the order of a list of nodes, and taken back (profile).
use Rattle.std.specs.Prelude.{◌≡◌, ◌≢◌, ℕ, ◌<◌, List, [], ◌++◌, map, length, Option, Some}
use Rattle.domain_base.specs.declared.names.Node.{Node}
use Rattle.domain_base.specs.Told.{LinkStory, AirStory}
use Rattle.domain_links.specs.Telling.{Tell}

-- the frames for the node at each place
abbrev pub frames_at : (ℕ → Node) → AirStory → ℕ → List (List ℕ)
frames_at nodes air i = air.frames (nodes i)

-- none of the first places is this node's
abbrev pub IsBehind : (ℕ → Node) → ℕ → Node → Type 0
IsBehind nodes places node = (i : ℕ) → i < places → nodes i ≢ node

-- the nodes of the first places were attached: nothing was sent by their links, which have all frames that the air had
-- for them at the start. The air has those of the others, and the same links taken back
pub record Attached {L : Type 0} (told : L → Option LinkStory) (nodes : ℕ → Node) (start : AirStory) (links : List L) (air : Option AirStory) : Type 0 where
  pub now : AirStory
  pub is : air ≡ Some now
  pub frames : (node : Node) → IsBehind nodes (length links) node → now.frames node ≡ start.frames node
  pub returned : now.returned ≡ start.returned
  pub tell : Tell told nodes links (frames_at nodes start) []

-- links were taken back, in order: where the air still tells, it told before, and their stories stand at the end of those taken back;
-- what it has for nodes stays
pub record TakenBack {L : Type 0} (told : L → Option LinkStory) (links : List L) (old : Option AirStory) (now : AirStory) : Type 0 where
  pub was : AirStory
  pub ended : List LinkStory
  pub is : old ≡ Some was
  pub returned : now.returned ≡ was.returned ++ ended
  pub frames : (node : Node) → now.frames node ≡ was.frames node
  pub stories : map told links ≡ map (λ (s : LinkStory). Some s) ended
