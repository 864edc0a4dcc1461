-- The form that a line should have had, by the table of lines (profile).
use Rattle.std.specs.Prelude.{ℕ, ◌&&◌, if◌then◌else◌, Bool, List}
use Rattle.run_journal.specs.declared.domain.Domain.{Domain}
use Rattle.script_words.specs.declared.forms.Form.{Form}
use Rattle.script_words.specs.declared.forms.Form.TheVariants.{Version, Seed, Ssid, Key, Passphrase, Psk, Akm, Mdid, First, AfterRenewAt, Any, StaOrEvent, Event, EventInRound, LiveSeed, LiveFirst, LiveAfterRenewAt, LiveAny, LiveStaOrEvent, LiveEvent, LiveEventInRound}
use Rattle.script_words.specs.declared.grammar.Runs.{Runs}
use Rattle.script_words.specs.declared.grammar.Stage.{Stage}
use Rattle.script_words.specs.declared.grammar.Stage.TheVariants.{Bare, Renewing, Unlisted, Listed, Begun}
use Rattle.script_words.specs.declared.grammar.Row.{Row}
use Rattle.script_lines.specs.declared.header.HeaderLine.{HeaderLine}
use Rattle.script_lines.specs.declared.header.HeaderLine.TheVariants as due
use Rattle.frame_script.specs.declared.reader.Mode.{Mode}
use Rattle.frame_script.specs.declared.reader.Mode.TheVariants.{Replay, Live}
use Rattle.script_words.specs.Tokens.{first_word}
use Rattle.script_words.specs.Grammar.{row_of, line_of, stands, stands_within, goes_with, in_version, in_replay, in_live}
use Rattle.script_words.specs.Kinds.{line_in}
use Rattle.script_lines.specs.Script.{Draft, AtVersion, AtHeader, AtNodes, InRound, is_second}
use Rattle.frame_script.specs.Script.{stage_of}

-- the form in a kind of run, for one in a replay
abbrev pub live_form : Form → Form
live_form Seed = LiveSeed
live_form First = LiveFirst
live_form AfterRenewAt = LiveAfterRenewAt
live_form Any = LiveAny
live_form StaOrEvent = LiveStaOrEvent
live_form Event = LiveEvent
live_form EventInRound = LiveEventInRound
live_form form = form

abbrev pub in_run : Mode → Form → Form
in_run Replay form = form
in_run Live form = live_form form

-- the line that tells the pre-shared key
abbrev pub key_form : Form → Form
key_form Passphrase = Passphrase
key_form Psk = Psk
key_form other = Key

-- the line of the header that is due, by the line that the first word begins
abbrev pub header_form : HeaderLine → Form → Form
header_form due.Seed l = Seed
header_form due.Ssid l = Ssid
header_form due.Psk l = key_form l
header_form due.Akm l = Akm
header_form due.Mdid l = Mdid

-- whatever may stand there: what a header may have, then access points, then stations, and all of them before any event
abbrev pub late_form : Stage → Form
late_form Bare = First
late_form Renewing = AfterRenewAt
late_form Unlisted = Any
late_form Listed = StaOrEvent
late_form Begun = Event

-- whether a line has a meaning in that kind of run
abbrev pub is_run : Mode → Runs → Bool
is_run Replay runs = in_replay runs
is_run Live runs = in_live runs

-- whether a line stands in scripts of the network's version, and after what its header says
abbrev pub is_of_network : Domain → Row → Bool
is_of_network d row = in_version row.versions (is_second d.extras.version) d.extras.mfp

-- a line after the header, by the version; one that may not stand there has the form of those that may
abbrev pub body_form : Mode → Domain → ℕ → Row → Form → Form
body_form mode d rounds row line =
    if stands row.position (stage_of d rounds) && goes_with row.suites d.akm && is_of_network d row && is_run mode row.runs
    then line_in (is_second d.extras.version) line
    else in_run mode (late_form (stage_of d rounds))

-- a line in a round
abbrev pub inner_form : Mode → Row → Form → Form
inner_form mode row l = if stands_within row.position && is_run mode row.runs then l else in_run mode EventInRound

-- the form that a line should have had, by the line that its first word begins: after a script has said so much, when so
-- many rounds were run
abbrev pub form_at : Mode → Draft → ℕ → Form → Form
form_at mode AtVersion rounds l = Version
form_at mode (AtHeader awaited h) rounds l = in_run mode (header_form awaited l)
form_at mode (AtNodes h) rounds l = body_form mode h.network rounds (row_of l) l
form_at mode (InRound h count) rounds l = inner_form mode (row_of l) l

-- and by the line itself
abbrev pub form_in : Mode → Draft → ℕ → List ℕ → Form
form_in mode draft rounds line = form_at mode draft rounds (line_of (first_word line).0)
