-- What a run of one end did (profile).
use Rattle.std.specs.Prelude.{◌≡◌, ◌≢◌, ◌&&◌, not, ℕ, Bool, true, false, List, [], ◌∷◌, ◌++◌, Option, Some}
use Rattle.std.specs.Io.KnownBytes.{Appends, Consumes, IsAtEnd}
use Rattle.domain_base.specs.Causes.{AppendsPart, Rose}
use Rattle.domain_base.specs.Told.{LinkStory, AirStory}
use Rattle.domain_base.specs.declared.names.Node.{Node}
use Rattle.domain_base.specs.declared.outside.LinkError.TheVariants as link
use Rattle.run_journal.specs.declared.acts.Entry.{Entry}
use Rattle.run_journal.specs.Report.{lines}
use Rattle.link_steps.specs.Ends.{node_of}
use Rattle.link_steps.specs.declared.ends.LinkEnd.{LinkEnd}
use Rattle.link_lines.specs.Drafts.{is_whole}
use Rattle.link_runs.specs.declared.found.Breach.TheVariants.{ByLink, ByWrite}
use Rattle.link_runs.specs.declared.found.LinkFound.{LinkFound}
use Rattle.link_runs.specs.declared.found.LinkFound.TheVariants as found
use Rattle.link_runs.specs.Endings.{Tells}
use Rattle.link_runs.specs.Outer.{AreHeard, IsDrawn, StoryPart, story_of}
use Rattle.link_runs.specs.Told.{LastLine, Told, Began, entries_of}

-- ---- the link

-- the last line was the one with which the end began
abbrev pub is_beginning : LastLine → Bool
is_beginning Began = true
is_beginning _ = false

-- the end has a link: the header is whole, and the link could be attached
abbrev pub is_linked : LinkFound → Told → Bool
is_linked (found.Broken why) t = is_whole t.draft.due && not (is_beginning t.last)
is_linked found_ t = is_whole t.draft.due

-- it was sent the datagrams of all steps, in order, to the other end, and has left what no turn took; or almost, by how the reading ended
abbrev pub IsEnded : LinkFound → LinkEnd → List (List ℕ) → Told → LinkStory → Type 0
IsEnded (found.Broken why) end frames t story = StoryPart why end frames t story
IsEnded found_ end frames t story = AreHeard frames t.turns × (story ≡ story_of end frames t)

-- it stands at the end of those taken back, and what the air has for other nodes it had at first
pub record GaveBack (found_ : LinkFound) (end : LinkEnd) (t : Told) (start now : AirStory) : Type 0 where
  pub story : LinkStory
  pub returned : now.returned ≡ start.returned ++ story ∷ []
  pub others : (node : Node) → node ≢ node_of end → now.frames node ≡ start.frames node
  pub ended : IsEnded found_ end (start.frames (node_of end)) t story

-- where the air tells, at first and at the end
abbrev pub GivesBack : Bool → LinkFound → LinkEnd → Told → AirStory → AirStory → Type 0
GivesBack false found_ end t start now = now ≡ start
GivesBack true found_ end t start now = GaveBack found_ end t start now

-- the seed of `seed draw` is the one that was drawn, and the link was sent what steps sent, and gave what turns took
pub record Meets (found_ : LinkFound) (end : LinkEnd) (t : Told) (air_old air_new : Option AirStory) (last_old last_new : Option (List ℕ)) : Type 0 where
  pub drawn : IsDrawn t.drawn last_old last_new
  pub linked : (start now : AirStory) → air_old ≡ Some start → air_new ≡ Some now → GivesBack (is_linked found_ t) found_ end t start now

-- ---- the sink

-- it has gained the lines of all steps; where one could not be written, a front of them
abbrev pub Wrote : LinkFound → Option (List ℕ) → Option (List ℕ) → List Entry → Type 0
Wrote (found.Broken ByWrite) old new j = AppendsPart old new (lines j)
Wrote found_ old new j = Appends old new (lines j)

-- ---- all of it

-- what was read, the steps that it told, which are the journal, what was written, and what the outside was asked for
pub record IsLinked (end : LinkEnd) (found_ : LinkFound) (left_old left_new out_old out_new : Option (List ℕ)) (air_old air_new : Option AirStory) (last_old last_new : Option (List ℕ)) (j : List Entry) : Type 0 where
  pub told : Told
  pub octets : List ℕ
  pub ended : Bool
  pub read : Consumes left_old left_new octets
  pub at_end : ended ≡ true → IsAtEnd left_new
  pub tells : Tells found_ end octets ended told
  pub journal : j ≡ entries_of told.notes
  pub wrote : Wrote found_ out_old out_new j
  pub meets : Meets found_ end told air_old air_new last_old last_new

-- ---- faults

-- to whom a fault is laid
pub data Blame : Type 0 where
  Nobody : Blame
  OnSource : Blame
  OnSink : Blame
  OnLink : Blame
  OnDraws : Blame

-- by how the reading ended
abbrev pub blame_of : LinkFound → Blame
blame_of (found.Broken (ByLink link.Failed)) = OnLink
blame_of (found.Broken (ByLink link.NoMemory)) = Nobody
blame_of (found.Broken ByWrite) = OnSink
blame_of found.DrawFault = OnDraws
blame_of found.ReadFault = OnSource
blame_of found_ = Nobody

-- a count rose where the fault is laid to its object, and else it is as it was
pub record IsLaid (blame to : Blame) (old new : ℕ) : Type 0 where
  pub failed : blame ≡ to → Rose old new
  pub kept : blame ≢ to → new ≡ old
