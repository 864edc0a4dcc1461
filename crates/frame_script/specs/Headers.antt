-- What the reading of a line answers (profile).
use Rattle.std.specs.Prelude.{◌≡◌, ◌≢◌, ℕ, suc, ◌<◌, ◌≤◌, List, [], ◌∷◌, ◌++◌, length, Option, None, Some, Result, Ok, Err}
use Rattle.run_journal.specs.declared.domain.Domain.{Domain}
use Rattle.run_journal.specs.Limits.{most_events, most_frames}
use Rattle.run_journal.specs.declared.domain.Event.{Event}
use Rattle.run_journal.specs.declared.acts.Act.{Act}
use Rattle.run_journal.specs.declared.acts.Act.TheVariants.{Sent}
use Rattle.run_journal.specs.declared.acts.Entry.{Entry}
use Rattle.script_lines.specs.declared.header.Header.{Header}
use Rattle.script_lines.specs.declared.refusal.LineFault.{LineFault}
use Rattle.script_lines.specs.declared.refusal.LineFault.TheVariants as answered
use Rattle.script_lines.specs.declared.refusal.Untaken.{Untaken}
use Rattle.script_lines.specs.declared.refusal.Untaken.TheVariants.{Refused, NoMemory}
use Rattle.frame_script.specs.declared.reader.Mode.{Mode}
use Rattle.frame_script.specs.declared.reader.Mode.TheVariants.{Replay, Live}
use Rattle.script_lines.specs.declared.step.Step.{Step}
use Rattle.script_lines.specs.declared.step.Step.TheVariants as step
use Rattle.script_lines.specs.Refusals.{fault_of}
use Rattle.script_lines.specs.Headers.{IsHeaderStep, IsNetwork, CanListAp, CanListSta, CanAddExtra, CanHappen, IsAtAp}
use Rattle.frame_script.specs.Script.{line_says, said_after, rounds_after}
use Rattle.script_lines.specs.Script.{Fault, Outside, Past, Draft, IsSeedDue, AtNodes, InRound, Said, Goes, ListsAp, ListsSta, Adds, Asks, BeginsRound, EndsRound}
use Rattle.frame_script.specs.Live.{Draws, Turns, plain, live_says}

-- ---- a reader

-- what contracts see of a reader: the kind of the run, what the script has said, and how many rounds it asked for. Of
-- the journal so far, how many entries it has seen and the sizes of the frames sent in these, in order
pub record Reading : Type 0 where
  pub mode : Mode
  pub draft : Draft
  pub rounds : ℕ
  pub seen : ℕ
  pub sizes : List ℕ

-- the sizes of the frames sent, in order; a journal has its last entry first
abbrev pub size_sent : Act → List ℕ
size_sent (Sent peer kind octets seal) = length octets ∷ []
size_sent act = []

-- the sizes of the frames sent in a journal
unfoldable pub sizes_of : List Entry → List ℕ
sizes_of [] = []
sizes_of (e ∷ past) = sizes_of past ++ size_sent e.act

-- the reader has seen the front of the journal
pub record HasSeen (r : Reading) (j : List Entry) : Type 0 where
  pub later : List Entry
  pub earlier : List Entry
  pub is : j ≡ later ++ earlier
  pub seen : r.seen ≡ length earlier
  pub sizes : r.sizes ≡ sizes_of earlier

-- the reader has seen all of the journal
pub record HasSeenAll (r : Reading) (j : List Entry) : Type 0 where
  pub seen : r.seen ≡ length j
  pub sizes : r.sizes ≡ sizes_of j

-- the sizes of the frames that a line may name: in a round those that were seen before it, whatever was sent since
abbrev pub sizes_by : Draft → List ℕ → List ℕ → List ℕ
sizes_by (InRound h count) seen all = seen
sizes_by draft seen all = all

-- the sizes of the frames that a line may name
abbrev pub sizes_named : Reading → List Entry → List ℕ
sizes_named r j = sizes_by r.draft r.sizes (sizes_of j)

-- after a line the reader has seen all of the journal; in a round it sees no more than before
abbrev pub HasSeenBy : Draft → Reading → List Entry → Type 0
HasSeenBy (InRound h count) r j = HasSeen r j
HasSeenBy draft r j = HasSeenAll r j

-- ---- what a line says, as an answer

-- an event that is a round by itself, where so few frames were sent that they have numbers, or one in the open round, which
-- has room for it
abbrev pub CanAskFor : Draft → List ℕ → Event → Type 0
CanAskFor (AtNodes h) sizes event = CanHappen h.network sizes event × (length sizes ≤ most_frames)
CanAskFor (InRound h count) sizes event = CanHappen h.network sizes event × (IsAtAp event × (count < most_events))
CanAskFor draft sizes event = ⊥

-- what a step says, and what can be done with it; the header is whole with one line only, so with `Network` it was not before
abbrev pub TakesStep : Draft → Draft → ℕ → List ℕ → Result Said Fault → Step → Type 0
TakesStep old new rounds sizes says step.Nothing = (says ≡ Ok (Goes new)) × IsHeaderStep old new
TakesStep old new rounds sizes says step.Network = (h : Header) × ((says ≡ Ok (Goes new)) × ((new ≡ AtNodes h) × (IsNetwork h.network × ((e : Header) → old ≢ AtNodes e))))
TakesStep old new rounds sizes says (step.Ap a id) = (h : Header) × ((says ≡ Ok (ListsAp a id)) × ((old ≡ AtNodes h) × (CanListAp h.network a id × ((h.network.stas ≡ []) × (rounds ≡ 0)))))
TakesStep old new rounds sizes says (step.Sta a psk) = (h : Header) × ((says ≡ Ok (ListsSta a psk)) × ((old ≡ AtNodes h) × (CanListSta h.network a × (rounds ≡ 0))))
TakesStep old new rounds sizes says (step.Extra extra) = (h : Header) × ((says ≡ Ok (Adds extra)) × ((old ≡ AtNodes h) × (CanAddExtra h.network × (rounds ≡ 0))))
TakesStep old new rounds sizes says (step.Event e) = (says ≡ Ok (Asks e)) × CanAskFor old sizes e
TakesStep old new rounds sizes says step.Round = (h : Header) × ((says ≡ Ok BeginsRound) × ((old ≡ AtNodes h) × (length sizes ≤ most_frames)))
TakesStep old new rounds sizes says step.End = (h : Header) × ((count : ℕ) × ((says ≡ Ok EndsRound) × (old ≡ InRound h count)))
TakesStep old new rounds sizes says step.Draw = ⊥
TakesStep old new rounds sizes says step.Turn = ⊥

-- the line is taken, and what it says is said now
abbrev pub HasRead : Reading → Reading → List ℕ → List ℕ → Step → Type 0
HasRead old new sizes line s =
    (said : Said) × ((line_says old.draft old.rounds sizes line ≡ Ok said) × ((new.draft ≡ said_after old.draft said)
    × ((new.rounds ≡ rounds_after old.draft old.rounds said) × TakesStep old.draft new.draft old.rounds sizes (line_says old.draft old.rounds sizes line) s)))

-- or it is refused for its fault, and nothing is said by it; in a replay
abbrev pub ReadsLine : Reading → Reading → List ℕ → List ℕ → Result Step Untaken → Type 0
ReadsLine old new sizes line (Ok s) = HasRead old new sizes line s
ReadsLine old new sizes line (Err (Refused refusal)) =
    (line_says old.draft old.rounds sizes line ≡ Err (fault_of refusal)) × ((new.draft ≡ old.draft) × (new.rounds ≡ old.rounds))
ReadsLine old new sizes line (Err NoMemory) = (new.draft ≡ old.draft) × (new.rounds ≡ old.rounds)

-- what a line is in a live run: one that draws the seed, which is due from then on as before; one in which nodes take
-- the frames of their links, which counts as one round. Or it says what it says in a replay
abbrev pub HasHeard : Reading → Reading → List ℕ → List ℕ → Step → Type 0
HasHeard old new sizes line step.Draw =
    (live_says old.draft old.rounds sizes line ≡ Ok Draws) × (IsSeedDue old.draft × ((new.draft ≡ old.draft) × (new.rounds ≡ old.rounds)))
HasHeard old new sizes line step.Turn =
    (h : Header) × ((live_says old.draft old.rounds sizes line ≡ Ok Turns) × ((old.draft ≡ AtNodes h) × ((length sizes ≤ most_frames) × ((new.draft ≡ old.draft) × (new.rounds ≡ suc old.rounds)))))
HasHeard old new sizes line s = (live_says old.draft old.rounds sizes line ≡ plain (line_says old.draft old.rounds sizes line)) × HasRead old new sizes line s

-- what a reader answers to a line in a live run, by name, and what it has then
abbrev pub HearsLine : Reading → Reading → List ℕ → List ℕ → Result Step Untaken → Type 0
HearsLine old new sizes line (Ok s) = HasHeard old new sizes line s
HearsLine old new sizes line (Err (Refused refusal)) =
    (live_says old.draft old.rounds sizes line ≡ Err (fault_of refusal)) × ((new.draft ≡ old.draft) × (new.rounds ≡ old.rounds))
HearsLine old new sizes line (Err NoMemory) = (new.draft ≡ old.draft) × (new.rounds ≡ old.rounds)

-- what a reader answers to a line, by the kind of the run
abbrev pub ReadsIn : Mode → Reading → Reading → List ℕ → List ℕ → Result Step Untaken → Type 0
ReadsIn Replay old new sizes line answer = ReadsLine old new sizes line answer
ReadsIn Live old new sizes line answer = HearsLine old new sizes line answer

-- where a line was read, and is taken or refused: memory did not run out over it
abbrev pub OnRead : Result Step Untaken → Type 0 → Type 0
OnRead (Ok s) P = P
OnRead (Err (Refused refusal)) P = P
OnRead (Err NoMemory) P = Unit {0}

-- what a reader answers to a line in a replay, by number, and what it has then
abbrev pub TakesLine : Reading → Reading → List ℕ → List ℕ → Result Step LineFault → Type 0
TakesLine old new sizes line (Ok s) = HasRead old new sizes line s
TakesLine old new sizes line (Err (answered.Script reason)) = (line_says old.draft old.rounds sizes line ≡ Err (Outside reason)) × ((new.draft ≡ old.draft) × (new.rounds ≡ old.rounds))
TakesLine old new sizes line (Err (answered.Limit limit)) = (line_says old.draft old.rounds sizes line ≡ Err (Past limit)) × ((new.draft ≡ old.draft) × (new.rounds ≡ old.rounds))
TakesLine old new sizes line (Err answered.NoMemory) = (new.draft ≡ old.draft) × (new.rounds ≡ old.rounds)

-- what a reader answers to a line in a live run, by number, and what it has then
abbrev pub TakesLive : Reading → Reading → List ℕ → List ℕ → Result Step LineFault → Type 0
TakesLive old new sizes line (Ok s) = HasHeard old new sizes line s
TakesLive old new sizes line (Err (answered.Script reason)) = (live_says old.draft old.rounds sizes line ≡ Err (Outside reason)) × ((new.draft ≡ old.draft) × (new.rounds ≡ old.rounds))
TakesLive old new sizes line (Err (answered.Limit limit)) = (live_says old.draft old.rounds sizes line ≡ Err (Past limit)) × ((new.draft ≡ old.draft) × (new.rounds ≡ old.rounds))
TakesLive old new sizes line (Err answered.NoMemory) = (new.draft ≡ old.draft) × (new.rounds ≡ old.rounds)

-- what a reader answers to a line by number, by the kind of the run
abbrev pub TakesIn : Mode → Reading → Reading → List ℕ → List ℕ → Result Step LineFault → Type 0
TakesIn Replay old new sizes line answer = TakesLine old new sizes line answer
TakesIn Live old new sizes line answer = TakesLive old new sizes line answer

-- the network, once the header is whole
abbrev pub IsDomain : Draft → Option Domain → Type 0
IsDomain (AtNodes h) o = o ≡ Some h.network
IsDomain (InRound h count) o = o ≡ Some h.network
IsDomain draft o = o ≡ None
