-- What the code keeps of a line between its words and its step.
-- For the code alone: no public contract speaks of it.
use Rattle.std.specs.Prelude.{◌≡◌, ℕ, suc, ◌≤◌, Bool, if◌then◌else◌, List, [], length, Result, Ok, Err}
use Rattle.run_journal.specs.Limits.{most_frames}
use Rattle.run_journal.specs.declared.domain.Domain.{Domain}
use Rattle.frame_script.specs.declared.reader.Mode.{Mode}
use Rattle.frame_script.specs.declared.reader.Mode.TheVariants.{Replay, Live}
use Rattle.script_lines.specs.declared.step.Step.{Step}
use Rattle.script_lines.specs.declared.step.Step.TheVariants as step
use Rattle.script_lines.specs.declared.refusal.Untaken.{Untaken}
use Rattle.script_lines.specs.declared.refusal.Untaken.TheVariants as untaken
use Rattle.script_lines.specs.declared.header.Due.{Due}
use Rattle.script_lines.specs.declared.header.Due.TheVariants as dues
use Rattle.script_lines.specs.declared.header.Header.{Header}
use Rattle.frame_script.specs.declared.live.Own.{Own}
use Rattle.frame_script.specs.declared.live.Own.TheVariants as owns
use Rattle.frame_script.specs.declared.body.Sentence.{Sentence}
use Rattle.frame_script.specs.declared.body.Sentence.TheVariants as says
use Rattle.script_lines.specs.Refusals.{fault_of}
use Rattle.frame_script.specs.Script.{body_line, inner_line, line_says, said_after}
use Rattle.script_lines.specs.Script.{Fault, ◌>>=◌, word_, Draft, IsSeedDue, AtVersion, AtHeader, AtNodes, InRound, Said, Goes, ListsAp, Adds, Asks, header_line}
use Rattle.frame_script.specs.Live.{Heard, Draws, Turns, plain, live_says}
use Rattle.frame_script.specs.Headers.{Reading, TakesStep}
use Rattle.script_lines.specs.Headers.{CanListAp, CanListSta, CanAddExtra}
use Rattle.script_lines.specs.Sentences.{CanAsk, event_of, lists_sta}

-- what a line after the header says
abbrev pub said_of : Sentence → Said
said_of (says.Ap address r0kh_id) = ListsAp address r0kh_id.now
said_of (says.Sta s) = lists_sta s
said_of (says.Extra extra) = Adds extra
said_of (says.Asks a) = Asks (event_of a)

-- it can be said in the network, after so many rounds and frames of these sizes
abbrev pub CanSay : Domain → ℕ → List ℕ → Sentence → Type 0
CanSay d rounds sizes (says.Ap address r0kh_id) = CanListAp d address r0kh_id.now × ((d.stas ≡ []) × (rounds ≡ 0))
CanSay d rounds sizes (says.Sta s) = CanListSta d s.address × (rounds ≡ 0)
CanSay d rounds sizes (says.Extra extra) = CanAddExtra d × (rounds ≡ 0)
CanSay d rounds sizes (says.Asks a) = CanAsk d sizes a × (length sizes ≤ most_frames)

-- ---- a line that is taken

-- what was said is taken, or refused for its fault
abbrev pub Takes : Draft → Draft → ℕ → List ℕ → Result Said Fault → Result Step Untaken → Type 0
Takes old new rounds sizes meant (Ok s) = (said : Said) × ((meant ≡ Ok said) × ((new ≡ said_after old said) × TakesStep old new rounds sizes meant s))
Takes old new rounds sizes meant (Err (untaken.Refused refusal)) = (meant ≡ Err (fault_of refusal)) × (new ≡ old)
Takes old new rounds sizes meant (Err untaken.NoMemory) = new ≡ old

-- a line of the header is due
abbrev pub IsHead : Due → Type 0
IsHead (dues.Header awaited header) = Unit {0}
IsHead due = ⊥

-- what a line says that a live run has alone
abbrev pub heard_of : Own → Result Heard Fault
heard_of owns.Draw = Ok Draws
heard_of owns.Turn = Ok Turns
heard_of (owns.Refused refusal) = Err (fault_of refusal)

-- in a live run
abbrev pub TakesHeard : Draft → Draft → ℕ → List ℕ → List ℕ → Result Step Untaken → Type 0
TakesHeard old new rounds sizes line (Ok step.Draw) = (live_says old rounds sizes line ≡ Ok Draws) × (IsSeedDue old × (new ≡ old))
TakesHeard old new rounds sizes line (Ok step.Turn) = (h : Header) × ((live_says old rounds sizes line ≡ Ok Turns) × ((old ≡ AtNodes h) × ((length sizes ≤ most_frames) × (new ≡ old))))
TakesHeard old new rounds sizes line (Ok s) = (live_says old rounds sizes line ≡ plain (line_says old rounds sizes line)) × Takes old new rounds sizes (line_says old rounds sizes line) (Ok s)
TakesHeard old new rounds sizes line (Err (untaken.Refused refusal)) = (live_says old rounds sizes line ≡ Err (fault_of refusal)) × (new ≡ old)
TakesHeard old new rounds sizes line (Err untaken.NoMemory) = new ≡ old

-- by the kind of the run
abbrev pub TakesBy : Mode → Draft → Draft → ℕ → List ℕ → List ℕ → Result Step Untaken → Type 0
TakesBy Replay old new rounds sizes line answer = Takes old new rounds sizes (line_says old rounds sizes line) answer
TakesBy Live old new rounds sizes line answer = TakesHeard old new rounds sizes line answer

-- what a line says that is not passed over, by its first word and what stands after it
abbrev pub words_say : Draft → ℕ → List ℕ → List ℕ → List ℕ → Result Said Fault
words_say AtVersion rounds sizes word text = Err word_
words_say (AtHeader awaited h) rounds sizes word text = header_line awaited h word text >>= (λ next. Ok (Goes next))
words_say (AtNodes h) rounds sizes word text = body_line h rounds sizes word text
words_say (InRound h count) rounds sizes word text = inner_line h.network count sizes word text

-- rounds after a line, in a round or not
abbrev pub rounds_with : Bool → ℕ → Result Step Untaken → ℕ
rounds_with within rounds (Ok (step.Event event)) = if within then rounds else suc rounds
rounds_with within rounds (Ok step.End) = suc rounds
rounds_with within rounds (Ok step.Turn) = suc rounds
rounds_with within rounds answer = rounds

-- what is kept of the journal, as a reading
abbrev pub seeing : ℕ → List ℕ → Reading
seeing seen sizes = record { mode = Replay; draft = AtVersion; rounds = 0; seen = seen; sizes = sizes }
