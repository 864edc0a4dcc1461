-- What the state of a script stands for, and what a line does to it.
-- For the code alone: no public contract speaks of it.
use Rattle.std.specs.Prelude.{◌≡◌, ℕ, suc, ◌+◌, ◌*◌, ◌^◌, ◌<◌, ◌≤◌, ◌++◌, List, [], ◌∷◌, length, Option, None, Some, Ok}
use Rattle.std.specs.Global.{Global}
use Rattle.std.specs.declared.vec.Vec.{Vec}
use Rattle.run_journal.specs.Limits.{most_events, most_turn}
use Rattle.run_journal.specs.declared.domain.Domain.{Domain}
use Rattle.run_journal.specs.declared.domain.Event.{Event}
use Rattle.run_journal.specs.declared.acts.Entry.{Entry}
use Rattle.domain_rules.specs.Network.{InForm}
use Rattle.domain_rules.specs.Explained.{Step, Follows, started}
use Rattle.run_journal.specs.Changed.{changed_by}
use Rattle.run_journal.specs.Listing.{with_ap, with_sta, with_extra}
use Rattle.domain_world.specs.State.{State}
use Rattle.domain_world.specs.Owning.{Owns, IsSince, IsEventIn, AreEventsIn}
use Rattle.domain_links.specs.declared.breaks.Break.{Break}
use Rattle.domain_links.specs.declared.breaks.Break.TheVariants.{ByLink, ByWrite}
use Rattle.domain_base.specs.Told.{LinkStory}
use Rattle.script_lines.specs.Script.{Draft, AtNodes, InRound}
use Rattle.frame_script.specs.Live.{Draws}
use Rattle.frame_script.specs.Headers.{Reading, HasSeen, IsDomain, sizes_of}
use Rattle.script_lines.specs.Headers.{IsNetwork, CanAddExtra}
use Rattle.script_lines.specs.declared.header.Header.{Header}
use Rattle.frame_script.specs.declared.reader.Mode.{Mode}
use Rattle.frame_script.specs.declared.reader.Mode.TheVariants.{Live}
use Rattle.script_lines.specs.declared.refusal.Refusal.{Refusal}
use Rattle.script_lines.specs.declared.step.Step.{Step as Asked}
use Rattle.script_lines.specs.declared.step.Step.TheVariants as step
use Rattle.script_lines.specs.Refusals.{fault_of}
use Rattle.script_runs.specs.declared.session.Session.{Session}
use Rattle.script_runs.specs.declared.state.ScriptState.{ScriptState}
use Rattle.script_runs.specs.declared.stops.Undone.{Undone}
use Rattle.script_runs.specs.declared.stops.Undone.TheVariants.{Refused, NoMemory, DrawFault, Broken, Unwritten}
use Rattle.script_runs.specs.Script.{Rounds, IsJournal, sizes_before, Says, Refuses, says_in}
use Rattle.script_runs.specs.Outer.{Outer, HasRun, IsMet, IsMetPart, links_due}

-- ---- a state

-- the world of a session, where there is one
abbrev pub world_of : Option Session → Option State
world_of None = None
world_of (Some s) = Some s.world

-- the events of the round that is open, if one is
abbrev pub Waiting : Type 0
Waiting = Option (Vec Event Global)

abbrev pub events_of : Waiting → List Event
events_of None = []
events_of (Some events) = events.items

-- the header is not whole
abbrev pub IsHeader : Draft → Type 0
IsHeader (AtNodes h) = ⊥
IsHeader (InRound h count) = ⊥
IsHeader draft = Unit {0}

-- so many events wait, each of which can happen now, and the journal has not grown since their round began
pub record Wait (w : State) (d : Domain) (count : ℕ) (events : List Event) (sizes : List ℕ) (j : List Entry) : Type 0 where
  pub since : IsSince d w j
  pub count_is : length events ≡ count
  pub few : count ≤ most_events
  pub each : AreEventsIn w.domain (length w.frames) j events
  pub same : sizes ≡ sizes_of j

-- the script is on the network of which the world has what it is now, in a round with the events that it has so far
abbrev pub IsAt : Draft → State → Waiting → List ℕ → List Entry → Type 0
IsAt (AtNodes h) w waiting sizes j = IsSince h.network w j × (waiting ≡ None)
IsAt (InRound h count) w (Some events) sizes j = Wait w h.network count events.items sizes j
IsAt draft w waiting sizes j = ⊥

-- the world is that of the lines so far, each of which asks for as many rounds as a turn has at most, and the journal is its own;
-- before any event nodes have started
pub record IsOwn (w : State) (waiting : Waiting) (r : Reading) (j : List Entry) : Type 0 where
  pub at : IsAt r.draft w waiting r.sizes j
  pub rounds : w.rounds ≤ most_turn * r.rounds
  pub own : Owns w j
  pub first : w.rounds ≡ 0 → j ≡ started w.domain (length w.domain.aps)

-- or the header is not whole, and nothing was asked for
pub record IsNone (waiting : Waiting) (r : Reading) (j : List Entry) : Type 0 where
  pub due : IsHeader r.draft
  pub no_rounds : r.rounds ≡ 0
  pub no_entries : j ≡ []
  pub no_events : waiting ≡ None

abbrev pub IsWorldOf : Option State → Waiting → Reading → List Entry → Type 0
IsWorldOf None waiting r j = IsNone waiting r j
IsWorldOf (Some w) waiting r j = IsOwn w waiting r j

-- how many rounds were run in it
abbrev pub run_count : Option State → ℕ
run_count None = 0
run_count (Some w) = w.rounds

-- one more line can come after so many, where there are so many links
pub record IsReady (s : ScriptState) (links lines : ℕ) (j : List Entry) : Type 0 where
  pub links_are : links ≡ links_due s.reader.mode (world_of s.session)
  pub seen : HasSeen s.reader j
  pub few : s.reader.rounds ≤ lines
  pub world_is : IsWorldOf (world_of s.session) s.waiting s.reader j

-- the state stands for what the lines so far told, and the journal is theirs
pub record Stands (s : ScriptState) (draft : Draft) (rounds : Rounds) (j : List Entry) : Type 0 where
  pub draft_is : s.reader.draft ≡ draft
  pub rounds_are : s.reader.rounds ≡ rounds.asked
  pub run_is : run_count (world_of s.session) ≡ length rounds.run
  pub events_are : events_of s.waiting ≡ rounds.waiting
  pub few_turns : length rounds.turns ≤ rounds.asked
  pub journal : IsJournal draft rounds.run j

-- ---- what a step does

-- before the header is whole
abbrev pub CanBegin : Draft → Asked → Type 0
CanBegin draft step.Nothing = Unit {0}
CanBegin draft step.Network = (h : Header) × ((draft ≡ AtNodes h) × IsNetwork h.network)
CanBegin draft asked = ⊥

-- a world of the network that the header told, before any event
pub record IsNewWorld (w : State) (draft : Draft) : Type 0 where
  pub network : IsDomain draft (Some w.domain)
  pub none : w.rounds ≡ 0
  pub own : Owns w []
  pub since : IsSince w.domain w []

abbrev pub IsBegun : Draft → Asked → Option State → Type 0
IsBegun draft step.Nothing world = world ≡ None
IsBegun draft step.Network None = ⊥
IsBegun draft step.Network (Some w) = IsNewWorld w draft
IsBegun draft asked world = ⊥

-- an event can be run, or in a round it waits
abbrev pub CanAsk : State → Waiting → List Entry → Event → Type 0
CanAsk w None j event = (w.rounds + 1 < 2 ^ 64) × IsEventIn w.domain (length w.frames) j event
CanAsk w (Some events) j event = Unit {0}

-- a round is open, and those that wait can be run
pub record CanRunAll (w : State) (j : List Entry) (events : List Event) : Type 0 where
  pub each : AreEventsIn w.domain (length w.frames) j events
  pub few_events : length events ≤ most_events
  pub few : w.rounds + 1 < 2 ^ 64

abbrev pub CanEnd : State → Waiting → List Entry → Type 0
CanEnd w None j = ⊥
CanEnd w (Some events) j = CanRunAll w j events.items

-- after the header, where no line tells of a network
abbrev pub CanDo : State → Waiting → List Entry → Asked → Type 0
CanDo w waiting j step.Nothing = Unit {0}
CanDo w waiting j (step.Ap address r0kh_id) = (w.rounds ≡ 0) × InForm (with_ap w.domain address r0kh_id)
CanDo w waiting j (step.Sta address psk) = (w.rounds ≡ 0) × InForm (with_sta w.domain address psk)
CanDo w waiting j (step.Extra extra) = (w.rounds ≡ 0) × CanAddExtra w.domain
CanDo w waiting j (step.Event event) = CanAsk w waiting j event
CanDo w waiting j step.Round = Unit {0}
CanDo w waiting j step.End = CanEnd w waiting j
CanDo w waiting j step.Network = ⊥
CanDo w waiting j step.Draw = ⊥
CanDo w waiting j step.Turn = ⊥

-- an access point is listed where nodes have started, and nothing else was journaled
abbrev pub CanList : Option State → List Entry → Asked → Type 0
CanList (Some w) j (step.Ap address r0kh_id) = j ≡ started w.domain (length w.domain.aps)
CanList world j asked = Unit {0}

-- the world and the journal stay
abbrev pub Stays : State → State → List Entry → List Entry → Type 0
Stays w v j k = (v ≡ w) × (k ≡ j)

-- one more node, which starts, or one more line of the header
pub record Lists (w v : State) (f : Domain → Domain) (j k : List Entry) : Type 0 where
  pub network : v.domain ≡ f w.domain
  pub since : (c : Domain) → IsSince c w j → IsSince (f c) v k
  pub rounds : v.rounds ≡ w.rounds
  pub begins : j ≡ started w.domain (length w.domain.aps) → k ≡ started v.domain (length v.domain.aps)

-- one more round, of one event, by each header of which the world has the network as it is now
pub record Runs (w v : State) (event : Event) (j k : List Entry) : Type 0 where
  pub own : Owns w j
  pub network : v.domain ≡ changed_by w.domain event
  pub rounds : v.rounds ≡ suc w.rounds
  pub header : (c : Domain) × IsSince c w j
  pub goes : (c : Domain) → IsSince c w j → Step c (suc w.rounds) event j k
  pub since : (c : Domain) → IsSince c w j → IsSince c v k

-- or of these
pub record RunsAll (w v : State) (events : List Event) (j k : List Entry) : Type 0 where
  pub network : v.domain ≡ w.domain
  pub rounds : v.rounds ≡ suc w.rounds
  pub header : (c : Domain) × IsSince c w j
  pub goes : (c : Domain) → IsSince c w j → Follows c (suc w.rounds) events j k
  pub since : (c : Domain) → IsSince c w j → IsSince c v k

-- an event was run, or in a round it waits after those before
abbrev pub DidAsk : State → State → Waiting → Waiting → Event → List Entry → List Entry → Type 0
DidAsk w v None None event j k = Runs w v event j k
DidAsk w v (Some old) (Some new) event j k = Stays w v j k × (new.items ≡ old.items ++ event ∷ [])
DidAsk w v old new event j k = ⊥

-- a round is open, without events
abbrev pub HasBegun : Waiting → Type 0
HasBegun None = ⊥
HasBegun (Some events) = events.items ≡ []

-- those that waited were run
abbrev pub DidEnd : State → State → Waiting → Waiting → List Entry → List Entry → Type 0
DidEnd w v (Some events) None j k = RunsAll w v events.items j k
DidEnd w v old new j k = ⊥

abbrev pub Did : State → State → Waiting → Waiting → List Entry → List Entry → Asked → Type 0
Did w v old new j k step.Nothing = Stays w v j k × (new ≡ old)
Did w v old new j k (step.Ap address r0kh_id) = Lists w v (λ d. with_ap d address r0kh_id) j k × (new ≡ old)
Did w v old new j k (step.Sta address psk) = Lists w v (λ d. with_sta d address psk) j k × ((k ≡ j) × (new ≡ old))
Did w v old new j k (step.Extra extra) = Lists w v (λ d. with_extra d extra) j k × ((k ≡ j) × (new ≡ old))
Did w v old new j k (step.Event event) = DidAsk w v old new event j k
Did w v old new j k step.Round = Stays w v j k × HasBegun new
Did w v old new j k step.End = DidEnd w v old new j k
Did w v old new j k step.Network = ⊥
Did w v old new j k step.Draw = ⊥
Did w v old new j k step.Turn = ⊥

-- either way
abbrev pub CanRun : Option State → Waiting → Draft → List Entry → Asked → Type 0
CanRun None waiting draft j asked = CanBegin draft asked
CanRun (Some w) waiting draft j asked = Owns w j × CanDo w waiting j asked

abbrev pub DidRun : Option State → Option State → Waiting → Waiting → Draft → List Entry → List Entry → Asked → Type 0
DidRun None world old new draft j k asked = IsBegun draft asked world × ((k ≡ j) × (new ≡ old))
DidRun (Some w) None old new draft j k asked = ⊥
DidRun (Some w) (Some v) old new draft j k asked = Owns v k × Did w v old new j k asked

-- ---- what a line does

-- in the rounds up to that number the new journal has sent the frames of the old one
abbrev pub HasSame : ℕ → List Entry → List Entry → Type 0
HasSame rounds j k = (m : ℕ) → m ≤ rounds → sizes_before m k ≡ sizes_before m j

-- it is taken after what the lines before it told, and done
pub record TellsLine {L : Type 0} (told : L → Option LinkStory) (first o : Outer L) (line : List ℕ) (before : Draft) (earlier : Rounds) (s : ScriptState) (j k : List Entry) : Type 0 where
  pub draft : Draft
  pub rounds : Rounds
  pub same : HasSame (length earlier.run) j k
  pub says : Says s.reader.mode k line before earlier draft rounds
  pub stands : Stands s draft rounds k
  pub met : IsMet told first o s.reader.mode draft rounds k

-- what such a line was: in a live run any, where a link broke it; and one that was run as a round, or a turn that took frames, where lines
-- could not be written
abbrev pub IsBrokenBy : Break → Mode → Rounds → Type 0
IsBrokenBy (ByLink error) m rounds = m ≡ Live
IsBrokenBy ByWrite m rounds = HasRun rounds.last rounds.turns

-- a line was done, in part or before a call failed or ran out of memory: what it told, and how the outside was met
pub record BreaksLine {L : Type 0} (told : L → Option LinkStory) (why : Break) (first o : Outer L) (m : Mode) (line : List ℕ) (before : Draft) (earlier : Rounds) (j k : List Entry) : Type 0 where
  pub draft : Draft
  pub rounds : Rounds
  pub broken : IsBrokenBy why m rounds
  pub same : HasSame (length earlier.run) j k
  pub says : Says m k line before earlier draft rounds
  pub journal : IsJournal draft rounds.run k
  pub met : IsMetPart told why first o m draft rounds k

-- the seed could not be drawn, and all is as it was
pub record FailsToDraw (m : Mode) (line : List ℕ) (draft : Draft) (rounds : Rounds) (j k : List Entry) : Type 0 where
  pub live : m ≡ Live
  pub asks : says_in m draft rounds.asked (sizes_before (length rounds.run) j) line ≡ Ok Draws
  pub none : j ≡ []
  pub kept : k ≡ j

-- it is refused there; the reader has what the lines before it told, and the frames that it may name
pub record RefusesLine (refusal : Refusal) (s : ScriptState) (line : List ℕ) (draft : Draft) (rounds : Rounds) (j : List Entry) : Type 0 where
  pub refuses : Refuses s.reader.mode j line draft rounds (fault_of refusal)
  pub draft_is : s.reader.draft ≡ draft
  pub rounds_are : s.reader.rounds ≡ rounds.asked
  pub sizes_are : s.reader.sizes ≡ sizes_before (length rounds.run) j

-- or refused there, and then nothing is told by it; or it is not done, or in part alone. The journal, and the outside, are as they
-- were but where it was done in part
abbrev pub LeavesLine : {L : Type 0} → Undone → (L → Option LinkStory) → Outer L → Outer L → Outer L → ScriptState → List ℕ → Draft → Rounds → List Entry → List Entry → Type 0
LeavesLine (Refused refusal) told first old new s line draft rounds j k = RefusesLine refusal s line draft rounds j × ((k ≡ j) × (new ≡ old))
LeavesLine NoMemory told first old new s line draft rounds j k = (k ≡ j) × (new ≡ old)
LeavesLine DrawFault told first old new s line draft rounds j k = FailsToDraw s.reader.mode line draft rounds j k × (new ≡ old)
LeavesLine (Broken error) told first old new s line draft rounds j k = BreaksLine told (ByLink error) first new s.reader.mode line draft rounds j k
LeavesLine Unwritten told first old new s line draft rounds j k = BreaksLine told ByWrite first new s.reader.mode line draft rounds j k
