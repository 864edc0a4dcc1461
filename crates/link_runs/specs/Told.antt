-- What the lines of the script of one end tell: the steps of the one Asker, or of the one Server. Lists of notes, of turns and of lines are
-- NEWEST FIRST (profile).
use Rattle.std.specs.Prelude.{◌≡◌, ℕ, suc, ◌≤◌, List, [], ◌∷◌, length, map, Option, None, Some, Ok, Err}
use Rattle.domain_base.specs.declared.names.Mac.{Mac}
use Rattle.run_journal.specs.Limits.{most_polls}
use Rattle.run_journal.specs.declared.acts.Act.TheVariants as act
use Rattle.run_journal.specs.declared.acts.Entry.{Entry}
use Rattle.link_steps.specs.Ends.{end_of, node_of}
use Rattle.link_steps.specs.declared.ends.LinkEnd.{LinkEnd}
use Rattle.link_steps.specs.declared.ends.LinkEnd.TheVariants.{Holder, Asker}
use Rattle.link_steps.specs.declared.steps.LinkEvent.{LinkEvent}
use Rattle.link_steps.specs.declared.steps.LinkEvent.TheVariants.{ToAsker, ToHolder}
use Rattle.link_steps.specs.declared.steps.Step.{Step}
use Rattle.holder_link.specs.Acts.{BothHave}
use Rattle.holder_link.specs.History.{Link, IsStep, both_after}
use Rattle.link_lines.specs.declared.draft.LinkHeader.{LinkHeader}
use Rattle.link_lines.specs.declared.refusal.LinkRefusal.{LinkRefusal}
use Rattle.link_lines.specs.declared.refusal.LinkRefusal.TheVariants.{ManyLines, LongLine}
use Rattle.link_lines.specs.declared.said.LinkSaid.{LinkSaid}
use Rattle.link_lines.specs.declared.said.LinkSaid.TheVariants as said
use Rattle.link_lines.specs.Asked.{event_of, revoked_of}
use Rattle.link_lines.specs.Drafts.{LinkDraft, no_lines, seeded}
use Rattle.link_lines.specs.Lines.{Says, line_says}
use Rattle.text_lines.specs.declared.limits.Limits.{Limits}
use Rattle.text_lines.specs.Texts.{Grammar}

-- ---- steps

-- a step, with the station of a revocation
pub record Note : Type 0 where
  pub sta : Option Mac
  pub step : Step

-- the steps alone
abbrev pub history : List Note → List Step
history notes = map (λ (n : Note). n.step) notes

-- a note as an entry of a journal: each step is a round by itself
abbrev pub entry_of : ℕ → Note → Entry
entry_of round n = record { round = round; node = node_of (end_of n.step.event); number = 0; act = act.Link n.sta n.step }

-- the journal of these steps: it has no other entry
unfoldable pub entries_of : List Note → List Entry
entries_of [] = []
entries_of (n ∷ notes) = entry_of (suc (length notes)) n ∷ entries_of notes

-- what the two ends begin with: the link key, and at the one R0 key holder no row
abbrev pub link_of : LinkHeader → Link
link_of h = record { kck = h.kck; kek = h.kek; ids = h.r0kh_id ∷ []; begun = [] }

-- what both ends have after these steps
abbrev pub both_of : LinkHeader → List Note → BothHave
both_of h notes = both_after (link_of h) (history notes)

-- the event happens: that is a step of the one Asker, or of the one Server, after those before it, and it is noted
pub record IsNoted (h : LinkHeader) (sta : Option Mac) (event : LinkEvent) (before after : List Note) : Type 0 where
  pub step : Step
  pub event_is : step.event ≡ event
  pub acts : IsStep (link_of h) step (history before)
  pub noted : after ≡ record { sta = sta; step = step } ∷ before

-- that octets come to an end
abbrev pub comes_to : LinkEnd → List ℕ → LinkEvent
comes_to Holder octets = ToHolder octets
comes_to Asker octets = ToAsker octets

-- these come to it, one after another
unfoldable pub AreTaken : LinkHeader → LinkEnd → List (List ℕ) → List Note → List Note → Type 0
AreTaken h end [] before after = after ≡ before
AreTaken h end (octets ∷ given) before after = (mid : List Note) × (IsNoted h None (comes_to end octets) before mid × AreTaken h end given mid after)

-- ---- what the lines so far have told

-- what the last line was: with it the end began, it asked for an event, it was a turn, or none of these
pub data LastLine : Type 0 where
  Began : LastLine
  Stepped : LastLine
  Turned : LastLine
  Other : LastLine

-- what the script has said, and the steps that it asked for. And what came from outside: of each turn what the end took of its link, and
-- the seed that was drawn, where one was
pub record Told : Type 0 where
  pub draft : LinkDraft
  pub notes : List Note
  pub turns : List (List (List ℕ))
  pub drawn : Option (List ℕ)
  pub last : LastLine

-- no line has come
abbrev pub nothing_told : LinkEnd → Told
nothing_told end = record { draft = no_lines end; notes = []; turns = []; drawn = None; last = Other }

-- how many questions were asked
abbrev pub asked_by : Told → ℕ
asked_by t = (both_of t.draft.header t.notes).asking.asked

-- one line more, which was that
abbrev pub with_line : Told → LinkDraft → LastLine → Told
with_line t d last = record t { draft = d; last = last }

-- ---- what a line tells

-- it asks for an event, which happens
pub record StepsOn (said_ : LinkSaid) (d : LinkDraft) (before t : Told) : Type 0 where
  pub event : LinkEvent
  pub asks : event_of d.header (asked_by before) said_ ≡ Some event
  pub notes : List Note
  pub noted : IsNoted d.header (revoked_of said_) event before.notes notes
  pub told : t ≡ record (with_line before d Stepped) { notes = notes }

-- it is a turn: the end takes datagrams of its link, up to 16
pub record TakesOn (d : LinkDraft) (before t : Told) : Type 0 where
  pub given : List (List ℕ)
  pub few : length given ≤ most_polls
  pub notes : List Note
  pub taken : AreTaken d.header d.end given before.notes notes
  pub told : t ≡ record (with_line before d Turned) { notes = notes; turns = given ∷ before.turns }

-- what a line tells that says this. `seed draw` tells the seed that was drawn, which is some one, and `turn` what the end took, which is
-- some list
abbrev pub Means : LinkSaid → LinkDraft → Told → Told → Type 0
Means said.Nothing d before t = t ≡ with_line before d Other
Means said.Draw d before t = (seed : List ℕ) × (t ≡ record (with_line before (seeded d seed) Other) { drawn = Some seed })
Means said.Begin d before t = t ≡ with_line before d Began
Means said.Turn d before t = TakesOn d before t
Means said_ d before t = StepsOn said_ d before t

-- what one more line tells after what the lines before it told: the number of its question, and which questions were asked, is by the
-- steps before it
pub record Hears (line : List ℕ) (before t : Told) : Type 0 where
  pub says : Says
  pub line_is : line_says before.draft (asked_by before) line ≡ Ok says
  pub means : Means says.1 says.0 before t

-- or it is refused there
abbrev pub Refuses : List ℕ → Told → LinkRefusal → Type 0
Refuses line t refusal = line_says t.draft (asked_by t) line ≡ Err refusal

-- a script has at most 65,536 lines, and a line at most 8,192 octets
abbrev pub script_limits : Limits
script_limits = record { lines = 65536; octets = 8192 }

-- what the script of an end is. It may end after any line
abbrev pub script_of : LinkEnd → Grammar Told LinkRefusal
script_of end = record {
  begin = λ t. t ≡ nothing_told end;
  next = Hears;
  refuses = Refuses;
  end = λ t. None;
  limits = script_limits;
  too_many = ManyLines;
  too_long = LongLine;
}
