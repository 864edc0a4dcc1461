-- What of a line is wrong that was refused, and at which of its words (profile).
use Rattle.std.specs.Prelude.{ℕ, suc, ◌==◌, ◌&&◌, Bool, true, false, nat_le, nat_lt, if◌then◌else◌, List, length, bytes_eq, Option, None, Some}
use Rattle.run_journal.specs.declared.domain.Domain.{Domain}
use Rattle.script_lines.specs.declared.header.HeaderLine.{HeaderLine}
use Rattle.script_lines.specs.declared.header.HeaderLine.TheVariants as due
use Rattle.script_words.specs.declared.forms.Form.{Form}
use Rattle.script_words.specs.declared.forms.Form.TheVariants as form
use Rattle.script_words.specs.declared.kinds.Kind.{Kind}
use Rattle.script_words.specs.declared.kinds.Kind.TheVariants as kind
use Rattle.script_words.specs.declared.grammar.Position.{Position}
use Rattle.script_words.specs.declared.grammar.Position.TheVariants as positions
use Rattle.script_words.specs.declared.grammar.Akms.{Akms}
use Rattle.script_words.specs.declared.grammar.Akms.TheVariants.{Others, Sha256}
use Rattle.script_words.specs.declared.grammar.Runs.{Runs}
use Rattle.script_words.specs.declared.grammar.Runs.TheVariants.{Both, Replays, Lives}
use Rattle.script_words.specs.declared.grammar.Versions.{Versions}
use Rattle.script_words.specs.declared.grammar.Versions.TheVariants.{Protecting}
use Rattle.script_words.specs.declared.grammar.Row.{Row}
use Rattle.script_words.specs.declared.causes.Cause.{Cause}
use Rattle.script_words.specs.declared.causes.Cause.TheVariants.{Plain, Missing, Unknown, Later, Earlier, Suite, OtherSuite, FirstSuite, Second, Unprotected, LiveRun, ReplayRun, InRound, NoRound, OtherKind, Stations, Aps, Stas, Frames, Octets, UsedAddress, UsedId}
use Rattle.frame_script.specs.declared.mistakes.Mistake.{Mistake}
use Rattle.frame_script.specs.declared.reader.Mode.{Mode}
use Rattle.script_words.specs.Tokens.{NodeWord, PeerWord, ToAll, ToOne, first_word, hex_octets, number_of_digits, node_word, peer_word}
use Rattle.script_words.specs.Grammar.{word_of, row_of, line_of, goes_with}
use Rattle.script_words.specs.Kinds.{kind_at, before_node}
use Rattle.script_words.specs.Slips.{words_from, slip, cause_at, kind_in}
use Rattle.script_lines.specs.Script.{Fault, Outside, Past, Draft, AtVersion, AtHeader, AtNodes, InRound, is_used, size_of}
use Rattle.frame_script.specs.Forms.{form_in, is_of_network}

-- ---- the words of a line

-- a word of the line, from 1, and what is wrong with it
abbrev pub Spot : Type 0
Spot = ℕ × Cause

abbrev pub is_plain : Cause → Bool
is_plain Plain = true
is_plain cause = false

-- the word, where something is wrong with it, or another
abbrev pub spot_or : ℕ → Cause → Spot → Spot
spot_or word cause other = if is_plain cause then other else (word, cause)

-- after so many words
unfoldable pub argument_cause : Form → List ℕ → ℕ → Cause
argument_cause form_ line before = cause_at (kind_in form_ before line) (words_from before line)

-- the first word after the first one that has not its form
unfoldable pub arguments_spot : Form → List ℕ → Spot
arguments_spot form_ line =
    spot_or 2 (argument_cause form_ line 1) (spot_or 3 (argument_cause form_ line 2) (spot_or 4 (argument_cause form_ line 3)
    (spot_or 5 (argument_cause form_ line 4) (spot_or 6 (argument_cause form_ line 5) (spot_or 7 (argument_cause form_ line 6) (1, Plain))))))

-- ---- the first word

-- in which order the lines of a header stand; all others follow them
abbrev pub order_of : Position → ℕ
order_of (positions.Head order) = order
order_of other = 6

abbrev pub order_due : HeaderLine → ℕ
order_due due.Seed = 1
order_due due.Ssid = 2
order_due due.Psk = 3
order_due due.Akm = 4
order_due due.Mdid = 5

-- a line that may not stand in the header where that one is due
abbrev pub header_cause : HeaderLine → Position → Cause
header_cause awaited position = if nat_lt (order_of position) (order_due awaited) then Earlier else Later

-- a line of one kind of run alone
abbrev pub runs_cause : Runs → Cause → Cause
runs_cause Both other = other
runs_cause Replays other = ReplayRun
runs_cause Lives other = LiveRun

-- a line that does not go with the suite
abbrev pub suites_cause : Akms → Cause
suites_cause Others = OtherSuite
suites_cause Sha256 = FirstSuite
suites_cause suites = Suite

-- one that may not stand after the header, outside rounds
abbrev pub late_place : Position → Cause
late_place positions.Closing = NoRound
late_place other = Earlier

abbrev pub late_cause : Domain → Row → Cause
late_cause d row = if goes_with row.suites d.akm then runs_cause row.runs (late_place row.position) else suites_cause row.suites

-- one that may not stand in a round
abbrev pub inner_cause : Position → Runs → Cause
inner_cause positions.Outside runs = InRound
inner_cause positions.Opening runs = InRound
inner_cause positions.Anywhere runs = runs_cause runs Earlier
inner_cause other runs = Earlier

-- a line of scripts of version 2 alone, or of networks alone that protect management frames
abbrev pub versions_cause : Versions → Cause
versions_cause Protecting = Unprotected
versions_cause versions = Second

abbrev pub version_cause : Domain → Row → Cause → Cause
version_cause d row other = if is_of_network d row then other else versions_cause row.versions

-- a line that may not stand there, by what the script has said
abbrev pub known_cause : Draft → Row → Cause
known_cause AtVersion row = Later
known_cause (AtHeader awaited h) row = version_cause h.network row (header_cause awaited row.position)
known_cause (AtNodes h) row = version_cause h.network row (late_cause h.network row)
known_cause (InRound h count) row = version_cause h.network row (inner_cause row.position row.runs)

-- or a word with which no line begins
abbrev pub first_cause : Draft → List ℕ → Form → Cause
first_cause draft word form.Any = slip Unknown word
first_cause draft word line = known_cause draft (row_of line)

unfoldable pub first_spot : Draft → List ℕ → Spot
first_spot draft line = (1, first_cause draft (first_word line).0 (line_of (first_word line).0))

-- the first line of a script
unfoldable pub version_spot : Draft → List ℕ → Spot
version_spot draft line =
    if length line == 0 then (1, Missing)
    else if bytes_eq (first_word line).0 (word_of form.Version) then arguments_spot form.Version line
    else first_spot draft line

-- a line of the other kind of run: in the header the seed that is drawn
abbrev pub mode_spot : Draft → List ℕ → Spot
mode_spot (AtHeader awaited h) line = (2, LiveRun)
mode_spot draft line = first_spot draft line

-- ---- nodes

-- a number of a node, from 1, of so many
abbrev pub ap_cause : Domain → ℕ → Cause
ap_cause d number = if nat_le 1 number && nat_le number (length d.aps) then Plain else Aps (length d.aps)

abbrev pub sta_cause : Domain → ℕ → Cause
sta_cause d number = if nat_le 1 number && nat_le number (length d.stas) then Plain else Stas (length d.stas)

-- a node by what should stand there
abbrev pub node_cause : Kind → Domain → Bool → NodeWord → Cause
node_cause kind.Ap d within w = if w.is_ap then ap_cause d w.number else OtherKind
node_cause kind.Sta d within w = if w.is_ap then OtherKind else sta_cause d w.number
node_cause kind_ d within w = if w.is_ap then ap_cause d w.number else if within then Stations else sta_cause d w.number

-- who takes a payload, where its sender is one that may send
abbrev pub peer_cause : Domain → PeerWord → Cause
peer_cause d ToAll = OtherKind
peer_cause d (ToOne w) = if is_plain (node_cause kind.Node d false w) then OtherKind else node_cause kind.Node d false w

abbrev pub by_peer : Domain → Option PeerWord → Cause
by_peer d None = Plain
by_peer d (Some w) = peer_cause d w

-- whose key is changed, where not all are meant
abbrev pub named_cause : Domain → PeerWord → Cause
named_cause d ToAll = Plain
named_cause d (ToOne w) = node_cause kind.Sta d false w

abbrev pub by_named : Domain → Option PeerWord → Cause
by_named d None = Plain
by_named d (Some w) = named_cause d w

abbrev pub by_node : Kind → Domain → Bool → Option NodeWord → Cause
by_node kind_ d within None = Plain
by_node kind_ d within (Some w) = node_cause kind_ d within w

unfoldable pub listing_cause : Kind → Domain → Bool → List ℕ → Cause
listing_cause kind.Peer d within word = by_peer d (peer_word word)
listing_cause kind.StaOrAll d within word = by_named d (peer_word word)
listing_cause kind_ d within word = by_node kind_ d within (node_word word)

abbrev pub listing_at : Kind → Domain → Bool → Option (List ℕ) → Cause
listing_at kind_ d within None = Plain
listing_at kind_ d within (Some text) = listing_cause kind_ d within (first_word text).0

-- the first node of a line, or the second one
unfoldable pub node_spot : Form → Domain → Bool → List ℕ → Spot
node_spot form_ d within line =
    spot_or (suc (before_node form_)) (listing_at (kind_at form_ (before_node form_)) d within (words_from (before_node form_) line))
    (3, listing_at (kind_at form_ 2) d within (words_from 2 line))

abbrev pub nodes_spot : Draft → Form → List ℕ → Spot
nodes_spot (AtNodes h) form_ line = node_spot form_ h.network false line
nodes_spot (InRound h count) form_ line = node_spot form_ h.network true line
nodes_spot draft form_ line = (1, Plain)

-- ---- frames and addresses

-- how many octets the frame has that the line names
abbrev pub by_size : Option ℕ → Cause
by_size None = Plain
by_size (Some size) = Octets size

abbrev pub by_number : List ℕ → Option ℕ → Cause
by_number sizes None = Plain
by_number sizes (Some number) = by_size (size_of sizes number)

abbrev pub by_frame : List ℕ → Option (List ℕ) → Cause
by_frame sizes None = Plain
by_frame sizes (Some text) = by_number sizes (number_of_digits (first_word text).0)

-- which of an address and an R0KH-ID was used before
abbrev pub by_address : Domain → Option (List ℕ) → Spot
by_address d None = (1, Plain)
by_address d (Some octets) = if is_used d (record { 0 = octets }) then (2, UsedAddress) else (3, UsedId)

abbrev pub used_at : Domain → Option (List ℕ) → Spot
used_at d None = (1, Plain)
used_at d (Some text) = by_address d (hex_octets 6 (first_word text).0)

abbrev pub used_spot : Draft → List ℕ → Spot
used_spot (AtNodes h) line = used_at h.network (words_from 1 line)
used_spot draft line = (1, Plain)

-- ---- a line

-- the word, and what is wrong with it, by the reason for which the line is refused
abbrev pub outside_spot : Draft → List ℕ → Form → ℕ → List ℕ → Spot
outside_spot draft sizes form_ reason line =
    if reason == 1 then version_spot draft line
    else if reason == 2 then first_spot draft line
    else if reason == 3 then arguments_spot form_ line
    else if reason == 4 then nodes_spot draft form_ line
    else if reason == 5 then (2, Frames (length sizes))
    else if reason == 6 then (3, by_frame sizes (words_from 1 line))
    else if reason == 8 then used_spot draft line
    else if reason == 9 then mode_spot draft line
    else (1, Plain)

abbrev pub cause_spot : Draft → List ℕ → Form → Fault → List ℕ → Spot
cause_spot draft sizes form_ (Outside reason) line = outside_spot draft sizes form_ reason line
cause_spot draft sizes form_ (Past limit) line = (1, Plain)

abbrev pub mistake_at : Form → Spot → Mistake
mistake_at form_ spot = record { form = form_; word = spot.0; cause = spot.1 }

-- what of a line was wrong that was refused for that fault, after a script has said so much, when so many rounds were run and
-- frames of these sizes sent
abbrev pub mistake_in : Mode → Draft → ℕ → List ℕ → Fault → List ℕ → Mistake
mistake_in mode draft rounds sizes fault line =
    mistake_at (form_in mode draft rounds line) (cause_spot draft sizes (form_in mode draft rounds line) fault line)
