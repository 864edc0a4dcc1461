-- Which rounds the octets of a script spell. Lists of lines, of rounds and of turns are NEWEST FIRST (profile).
use Rattle.std.specs.Prelude.{◌≡◌, ◌⊎◌, ℕ, suc, ◌≤◌, nat_le, cond, if◌then◌else◌, Bool, List, [], ◌∷◌, ◌++◌, length, Option, None, Some, Result, Ok, Err}
use Rattle.std.proofs.Common.{inl, inr}
use Rattle.run_journal.specs.Limits.{most_polls}
use Rattle.run_journal.specs.declared.domain.Domain.{Domain}
use Rattle.run_journal.specs.declared.domain.Event.{Event}
use Rattle.run_journal.specs.declared.domain.Event.TheVariants.{Inject}
use Rattle.run_journal.specs.declared.acts.Entry.{Entry}
use Rattle.domain_rules.specs.Network.{InForm}
use Rattle.domain_rules.specs.Explained.{Explained}
use Rattle.domain_rules.specs.HeldRight.{HeldRight}
use Rattle.domain_rules.specs.InOctets.{InOctets}
use Rattle.domain_links.specs.NodeOrder.{count, node_at}
use Rattle.domain_links.specs.Turns.{Delivery, in_order}
use Rattle.frame_script.specs.Script.{is_within, end_fault, line_says, said_after}
use Rattle.script_lines.specs.Script.{Fault, Past, Draft, AtVersion, AtNodes, InRound, Said, ListsAp, ListsSta, Asks, EndsRound, seeded}
use Rattle.frame_script.specs.Live.{Heard, Plain, Draws, Turns, live_says, plain}
use Rattle.frame_script.specs.Headers.{size_sent}
use Rattle.frame_script.specs.declared.mistakes.Mistake.{Mistake}
use Rattle.frame_script.specs.declared.reader.Mode.{Mode}
use Rattle.frame_script.specs.declared.reader.Mode.TheVariants.{Replay, Live}
use Rattle.frame_script.specs.Mistakes.{mistake_in}
use Rattle.text_lines.specs.declared.limits.Limits.{Limits}
use Rattle.text_lines.specs.Texts.{Grammar, TellsIn, AreLinesIn, BeginsIn, IsClosedIn, IsOpenIn, IsTextIn, IsWrongIn, HasFaultIn}

-- what the lines so far have told: what the script has said, from the end of its header on the network with the nodes listed
-- so far, together with the rounds asked for so far

-- what the last line was: it listed a node, it asked for a round that is run after it, it was a turn, or none of these
pub data LastLine : Type 0 where
  Listed : LastLine
  Ran : LastLine
  Turned : LastLine
  Other : LastLine

-- the rounds that are to be run, and the events of the round that is open, which are not run before its end. How many
-- lines asked for rounds, and what the last line was. And what came from outside by these lines: the seed that was
-- drawn, where one was, and of each turn what nodes took of their links.
pub record Rounds : Type 0 where
  pub run : List (List Event)
  pub waiting : List Event
  pub asked : ℕ
  pub last : LastLine
  pub drawn : Option (List ℕ)
  pub turns : List (List Delivery)

-- no line has asked for anything yet
abbrev pub no_rounds : Rounds
no_rounds = record { run = []; waiting = []; asked = 0; last = Other; drawn = None; turns = [] }

-- the journal of these rounds: the network is in form and of octets, the definitions explain the journal, and key holders
-- answered rightly
pub record IsRun (d : Domain) (rounds : List (List Event)) (j : List Entry) : Type 0 where
  pub form : InForm d
  pub octets : InOctets d
  pub explained : Explained d rounds j
  pub held : HeldRight d j

-- what was run is the rounds that have ended; before the header is whole there are none
abbrev pub IsJournal : Draft → List (List Event) → List Entry → Type 0
IsJournal (AtNodes h) run j = IsRun h.network run j
IsJournal (InRound h count) run j = IsRun h.network run j
IsJournal draft run j = (run ≡ []) × (j ≡ [])

-- the sizes of the frames that the journal j of the run has sent in the rounds up to that number, in order
unfoldable pub sizes_before : ℕ → List Entry → List ℕ
sizes_before rounds [] = []
sizes_before rounds (e ∷ past) = cond (nat_le e.round rounds) (sizes_before rounds past ++ size_sent e.act) (sizes_before rounds past)

-- the rounds with what a line asks for: an event is a round by itself, but in a round it waits; what waits is one round, run
-- at its end, whatever events it has
abbrev pub with_round : Rounds → List Event → Rounds
with_round rounds events = record rounds { run = events ∷ rounds.run; asked = suc rounds.asked }

-- the rounds with these events waiting
abbrev pub with_waiting : Rounds → List Event → Rounds
with_waiting rounds events = record rounds { waiting = events }

-- the rounds after one more line, by what it says
abbrev pub rounds_by : Draft → Rounds → Said → Rounds
rounds_by draft rounds (Asks event) =
    if is_within draft then with_waiting rounds (rounds.waiting ++ event ∷ []) else with_round rounds (event ∷ [])
rounds_by draft rounds EndsRound = with_waiting (with_round rounds rounds.waiting) []
rounds_by draft rounds said = rounds

-- the rounds with what the last line was
abbrev pub last_of : Draft → Said → LastLine
last_of draft (ListsAp address id) = Listed
last_of draft (ListsSta address psk) = Listed
last_of draft (Asks event) = if is_within draft then Other else Ran
last_of draft EndsRound = Ran
last_of draft said = Other

-- the rounds after one more line, with what that line was
abbrev pub rounds_with : Draft → Rounds → Said → Rounds
rounds_with draft rounds said = record (rounds_by draft rounds said) { last = last_of draft said }

-- ---- what comes from outside, in a live run

-- what nodes take of their links in a turn: in node order, and up to that many frames each
pub record IsTurn (d : Domain) (given : List Delivery) : Type 0 where
  pub heard : ℕ → List (List ℕ)
  pub few : (i : ℕ) → length (heard i) ≤ most_polls
  pub order : given ≡ in_order (node_at d) heard (count d)

-- each delivery is a round by itself, after those before it
unfoldable pub with_deliveries : List Delivery → List (List Event) → List (List Event)
with_deliveries [] run = run
with_deliveries (first ∷ given) run = with_deliveries given ((Inject first.node first.octets ∷ []) ∷ run)

-- the rounds with a turn that gave these. Its line counts once, whatever came in it
abbrev pub with_turn : Rounds → List Delivery → Rounds
with_turn rounds given =
    record rounds { run = with_deliveries given rounds.run; asked = suc rounds.asked; last = Turned; turns = given ∷ rounds.turns }

-- the rounds with a seed that was drawn
abbrev pub with_seed : Rounds → List ℕ → Rounds
with_seed rounds seed = record rounds { last = Other; drawn = Some seed }

-- a turn stands outside rounds
abbrev pub IsTurnAt : Draft → List Delivery → Type 0
IsTurnAt (AtNodes h) given = IsTurn h.network given
IsTurnAt draft given = ⊥

-- ---- what a line tells

-- what it says, by the kind of the run
abbrev pub says_in : Mode → Draft → ℕ → List ℕ → List ℕ → Result Heard Fault
says_in Replay draft asked sizes line = plain (line_says draft asked sizes line)
says_in Live draft asked sizes line = live_says draft asked sizes line

-- what a line tells that says this, after what the lines before it told. `seed draw` tells the seed that was drawn,
-- which is some one, and `turn` what nodes took, which is some of the lists that a turn can give
abbrev pub Means : Heard → Draft → Rounds → Draft → Rounds → Type 0
Means (Plain said) before earlier draft rounds = (draft ≡ said_after before said) × (rounds ≡ rounds_with before earlier said)
Means Draws before earlier draft rounds = (seed : List ℕ) × ((draft ≡ seeded before seed) × (rounds ≡ with_seed earlier seed))
Means Turns before earlier draft rounds =
    (given : List Delivery) × (IsTurnAt before given × ((draft ≡ before) × (rounds ≡ with_turn earlier given)))

-- what one more line tells after what the lines before it told. The frames that it may name are those that j has sent
-- in the rounds before it, and before the round that is open, whatever j says of later ones
pub record Says (m : Mode) (j : List Entry) (line : List ℕ) (before : Draft) (earlier : Rounds) (draft : Draft) (rounds : Rounds) : Type 0 where
  pub said : Heard
  pub says : says_in m before earlier.asked (sizes_before (length earlier.run) j) line ≡ Ok said
  pub means : Means said before earlier draft rounds

-- what came from outside by the lines so far is of that seed, and the first of these turns
pub record IsOf (seed : Option (List ℕ)) (turns : List (List Delivery)) (rounds : Rounds) : Type 0 where
  pub drawn : (rounds.drawn ≡ None) ⊎ (rounds.drawn ≡ seed)
  pub later : List (List Delivery)
  pub first : later ++ rounds.turns ≡ turns

-- the line is refused there, for that fault
pub record Refuses (m : Mode) (j : List Entry) (line : List ℕ) (draft : Draft) (rounds : Rounds) (fault : Fault) : Type 0 where
  pub says : says_in m draft rounds.asked (sizes_before (length rounds.run) j) line ≡ Err fault

-- ---- the text of a script

-- a script has at most 65,536 lines, and a line at most 8,192 octets
abbrev pub script_limits : Limits
script_limits = record { lines = 65536; octets = 8192 }

-- the faults of a line that is too long, and of one line too many
abbrev pub too_long : Fault
too_long = Past 2

abbrev pub too_many : Fault
too_many = Past 1

-- what a script is, in a run of that kind: its lines are judged by one journal
abbrev pub script_of : Mode → List Entry → Grammar (Draft × Rounds) Fault
script_of m j = record {
  begin = λ told. (told.0 ≡ AtVersion) × (told.1 ≡ no_rounds);
  next = λ line before told. Says m j line before.0 before.1 told.0 told.1;
  refuses = λ line told fault. Refuses m j line told.0 told.1 fault;
  end = λ told. end_fault told.0;
  limits = script_limits;
  too_many = too_many;
  too_long = too_long;
}

-- the lines, the last first, tell this: one journal judges them all
abbrev pub Spells : Mode → List Entry → List (List ℕ) → Draft → Rounds → Type 0
Spells m j lines draft rounds = TellsIn (script_of m j) lines (draft, rounds)

-- a script has at most so many lines, and a line at most so many octets without its line feed
abbrev pub most_lines : ℕ
most_lines = script_limits.lines

abbrev pub most_in_line : ℕ
most_in_line = script_limits.octets

-- whole lines of a script, within its limits; and octets that begin with these lines
abbrev pub AreLines : List (List ℕ) → Type 0
AreLines lines = AreLinesIn script_limits lines

abbrev pub Begins : List ℕ → List (List ℕ) → List ℕ → Type 0
Begins octets lines rest = BeginsIn script_limits octets lines rest

-- the octets are lines of a script that say this: each has its line feed, or the last one lacks it
abbrev pub IsClosed : List ℕ → List (List ℕ) → Type 0
IsClosed octets said = IsClosedIn script_limits octets said

abbrev pub IsOpen : List ℕ → List (List ℕ) → Type 0
IsOpen octets said = IsOpenIn script_limits octets said

-- the octets are these lines, at least one, of which the last may lack its line feed
abbrev pub IsScript : List ℕ → List (List ℕ) → Type 0
IsScript octets said = IsTextIn script_limits octets said

-- where a line stands: the kind of the run, the journal that judges it, and what the lines before it told
pub record Point : Type 0 where
  pub mode : Mode
  pub journal : List Entry
  pub draft : Draft
  pub rounds : Rounds

-- that kind of run, that journal, and what those lines told
abbrev pub point_of : Mode → List Entry → Draft → Rounds → Point
point_of m j draft rounds = record { mode = m; journal = j; draft = draft; rounds = rounds }

-- a line that is at its end and not too long: one too many, or refused
abbrev pub IsWrong : Bool → List (List ℕ) → List ℕ → List ℕ → Point → Fault → Type 0
IsWrong ended good line after p fault = IsWrongIn (script_of p.mode p.journal) ended good line after (p.draft, p.rounds) fault

-- what is wrong in a line that is refused there for that fault, its form among that: by its words, and by the frames that it may name
abbrev pub mistake_of : Point → Fault → List ℕ → Mistake
mistake_of p fault line = mistake_in p.mode p.draft p.rounds.asked (sizes_before (length p.rounds.run) p.journal) fault line

-- that is what is wrong in it; with octets after the limit it is not at its end
abbrev pub HasMistake : {A : Type 0} {ended : Bool} {good : List (List ℕ)} {line after : List ℕ} (p : Point) (fault : Fault)
    → Mistake → A ⊎ IsWrong ended good line after p fault → Type 0
HasMistake p fault mistake (inl long) = Unit {0}
HasMistake p fault mistake (inr w) = mistake ≡ mistake_of p fault w.text

-- the line after the good ones, which stands there, is the first that is wrong
abbrev pub HasFault : List ℕ → Bool → List (List ℕ) → Point → Fault → Type 0
HasFault octets ended good p fault = HasFaultIn (script_of p.mode p.journal) octets ended good (p.draft, p.rounds) fault
