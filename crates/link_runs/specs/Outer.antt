-- What the outside of a run of one end was asked for: the seed, and the datagrams of its link. Lists of turns are NEWEST FIRST (profile).
use Rattle.std.specs.Prelude.{◌≡◌, ◌≢◌, ◌⊎◌, ℕ, ◌+◌, ◌*◌, ◌≤◌, List, [], ◌∷◌, ◌++◌, length, map, take, drop, Option, None, Some}
use Rattle.domain_base.specs.Told.{LinkStory}
use Rattle.domain_base.specs.declared.names.Node.{Node}
use Rattle.domain_base.specs.declared.outside.LinkError.TheVariants as link
use Rattle.domain_base.specs.declared.radio.SentFrame.{SentFrame}
use Rattle.run_journal.specs.Limits.{most_octets, most_polls}
use Rattle.link_steps.specs.Ends.{node_of, other_end}
use Rattle.link_steps.specs.declared.ends.LinkEnd.{LinkEnd}
use Rattle.link_steps.specs.declared.steps.Step.{Step}
use Rattle.link_runs.specs.declared.found.Breach.{Breach}
use Rattle.link_runs.specs.declared.found.Breach.TheVariants.{ByLink, ByWrite}
use Rattle.link_runs.specs.Told.{LastLine, Note, Told, Stepped, Turned}

-- ---- seeds

-- the seed that a script was told, if one was, is the one last given; else none was given since
abbrev pub IsDrawn : Option (List ℕ) → Option (List ℕ) → Option (List ℕ) → Type 0
IsDrawn None before now = now ≡ before
IsDrawn (Some seed) before now = now ≡ Some seed

-- ---- what is sent

-- octets to a node, where there are any
abbrev pub sent_to : Node → List ℕ → List SentFrame
sent_to to [] = []
sent_to to (octet ∷ octets) = record { to = to; octets = octet ∷ octets } ∷ []

-- what an end sends with a step: its datagram, to the other end
abbrev pub frames_of : LinkEnd → Step → List SentFrame
frames_of end s = sent_to (node_of (other_end end)) s.sent

-- with all steps, in order
unfoldable pub frames_sent : LinkEnd → List Note → List SentFrame
frames_sent end [] = []
frames_sent end (n ∷ notes) = frames_sent end notes ++ frames_of end n.step

-- ---- what is taken

-- datagrams as they are taken: the first 2,400 octets of each
abbrev pub cut : List (List ℕ) → List (List ℕ)
cut frames = map (take most_octets) frames

-- what a link has left of these datagrams after so many turns
abbrev pub left_after : List (List ℕ) → ℕ → List (List ℕ)
left_after frames turns = drop (most_polls * turns) frames

-- what the next turn takes of it
abbrev pub next_turn : List (List ℕ) → ℕ → List (List ℕ)
next_turn frames turns = cut (take most_polls (left_after frames turns))

-- each turn took what the link had in front
unfoldable pub AreHeard : List (List ℕ) → List (List (List ℕ)) → Type 0
AreHeard frames [] = Unit {0}
AreHeard frames (given ∷ turns) = AreHeard frames turns × (given ≡ next_turn frames (length turns))

-- ---- the link of the end

-- it tells that all was sent, and that it has that left
abbrev pub tale : LinkEnd → List Note → List (List ℕ) → LinkStory
tale end notes left = record { node = node_of end; sent = frames_sent end notes; left = left }

-- once the end began: what it had for it then, but for what turns took
abbrev pub story_of : LinkEnd → List (List ℕ) → Told → LinkStory
story_of end frames t = tale end t.notes (left_after frames (length t.turns))

-- ---- after a line that was not done wholly

-- the last line was an event, or a turn that took something
abbrev pub HasStepped : LastLine → List (List (List ℕ)) → Type 0
HasStepped Stepped turns = Unit {0}
HasStepped Turned (given ∷ turns) = given ≢ []
HasStepped last turns = ⊥

-- a step that the link broke has a datagram
abbrev pub IsDueToSend : Breach → Step → Type 0
IsDueToSend (ByLink error) s = s.sent ≢ []
IsDueToSend ByWrite s = Unit {0}

-- all but the datagram of the last step was sent
pub record IsUnsent (why : Breach) (end : LinkEnd) (notes : List Note) (sent : List SentFrame) : Type 0 where
  pub note : Note
  pub before : List Note
  pub notes_are : notes ≡ note ∷ before
  pub sent_are : sent ≡ frames_sent end before
  pub due : IsDueToSend why note.step

-- what was sent: all, where a poll failed, or memory ran out in a turn; or all but the datagram of the last step. Where a line could not
-- be written, it is that: a datagram is sent after its step's line
abbrev pub SentPart : Breach → LinkEnd → Told → List SentFrame → Type 0
SentPart (ByLink error) end t sent = ((t.last ≡ Turned) × (sent ≡ frames_sent end t.notes)) ⊎ (HasStepped t.last t.turns × IsUnsent (ByLink error) end t.notes sent)
SentPart ByWrite end t sent = HasStepped t.last t.turns × IsUnsent ByWrite end t.notes sent

-- so many datagrams were polled that no step took: where memory ran out one at most, else none
abbrev pub IsLost : Breach → ℕ → Type 0
IsLost (ByLink link.NoMemory) lost = lost ≤ 1
IsLost (ByLink link.Failed) lost = lost ≡ 0
IsLost ByWrite lost = lost ≡ 0

-- the last turn took a front of what it would have taken, and the link has the rest, but for what was lost
pub record IsHeardPart (why : Breach) (frames given : List (List ℕ)) (turns : ℕ) (left : List (List ℕ)) : Type 0 where
  pub rest : List (List ℕ)
  pub front : given ++ rest ≡ next_turn frames turns
  pub lost : ℕ
  pub few_lost : IsLost why lost
  pub left_is : left ≡ drop (length given + lost) (left_after frames turns)

-- what turns took, and what is left: but for the last one, where the last line is a turn, all as before
abbrev pub HeardPart : Breach → LastLine → List (List ℕ) → List (List (List ℕ)) → List (List ℕ) → Type 0
HeardPart why Turned frames [] left = ⊥
HeardPart why Turned frames (given ∷ turns) left = AreHeard frames turns × IsHeardPart why frames given (length turns) left
HeardPart why last frames turns left = AreHeard frames turns × (left ≡ left_after frames (length turns))

-- what the link tells
pub record StoryPart (why : Breach) (end : LinkEnd) (frames : List (List ℕ)) (t : Told) (story : LinkStory) : Type 0 where
  pub node_is : story.node ≡ node_of end
  pub sent : SentPart why end t story.sent
  pub heard : HeardPart why t.last frames t.turns story.left
