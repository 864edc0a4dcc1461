-- What the lines of a script say, one after the other (profile).
use Rattle.std.specs.Prelude.{ℕ, suc, ◌==◌, Bool, true, false, nat_le, is_some, if◌then◌else◌, List, [], ◌∷◌, length, bytes_eq, codes, Option, None, Some, Result, Ok, Err}
use Rattle.run_journal.specs.declared.domain.Domain.{Domain}
use Rattle.run_journal.specs.declared.domain.Version.{Version}
use Rattle.run_journal.specs.declared.domain.Version.TheVariants.{One as First, Two as Second}
use Rattle.run_journal.specs.Limits.{most_frames}
use Rattle.run_journal.specs.declared.domain.Extras.{Extras}
use Rattle.run_journal.specs.Listing.{with_ap, with_sta, with_extra}
use Rattle.script_lines.specs.declared.header.Header.{Header}
use Rattle.script_lines.specs.declared.header.HeaderLine.TheVariants as due
use Rattle.script_words.specs.declared.forms.Form.{Form}
use Rattle.script_words.specs.declared.forms.Form.TheVariants as form
use Rattle.script_words.specs.declared.grammar.Position.{Position}
use Rattle.script_words.specs.declared.grammar.Position.TheVariants as positions
use Rattle.script_words.specs.declared.grammar.Stage.{Stage}
use Rattle.script_words.specs.declared.grammar.Stage.TheVariants.{Bare, Renewing, Unlisted, Listed, Begun}
use Rattle.script_words.specs.Tokens.{first_word}
use Rattle.script_words.specs.Grammar.{word_of, row_of, line_of, stands}
use Rattle.script_lines.specs.Script.{◌>>=◌, Fault, version_, word_, arguments, unclosed, many_frames, Draft, AtVersion, AtHeader, AtNodes, InRound, blank, header_line, Said, Goes, ListsAp, ListsSta, Adds, Asks, BeginsRound, EndsRound, ap_line, sta_line, renewal_line, protection_line, event_line, part_line}

-- ---- a line

-- a line without octets, and one that begins with `#`, are passed over
abbrev pub is_passed_over : List ℕ → Bool
is_passed_over [] = true
is_passed_over (c ∷ line) = c == 35

-- how far a header is that has all that it has to have
abbrev pub header_stage : Extras → Stage
header_stage x = if x.mfp then Unlisted else if is_some x.renew_at then Renewing else Bare

-- how far a script is whose header has all that it has to have, outside rounds
abbrev pub stage_of : Domain → ℕ → Stage
stage_of d rounds =
    if rounds == 0 then (if length d.stas == 0 then (if length d.aps == 0 then header_stage d.extras else Unlisted) else Listed) else Begun

-- `mfp` stands before any node; it is the last line of a header
abbrev pub early_protection : Domain → ℕ → Result Said Fault
early_protection d rounds = if stands positions.LastOptional (stage_of d rounds) then protection_line d else Err word_

-- a line that a header may have, or one after the header, outside rounds, by where it stands: the former before any node, access
-- points before stations, and all before any round; after `mfp` and `round` stands nothing
abbrev pub placed : Position → Header → ℕ → List ℕ → Form → List ℕ → Result Said Fault
placed positions.Optional h rounds sizes l text = if stands positions.Optional (stage_of h.network rounds) then renewal_line h.network text else Err word_
placed positions.LastOptional h rounds sizes l text = early_protection h.network rounds >>= (λ said. Err arguments)
placed positions.Aps h rounds sizes l text = if stands positions.Aps (stage_of h.network rounds) then ap_line h.network text else Err word_
placed positions.Stas h rounds sizes l text = if stands positions.Stas (stage_of h.network rounds) then sta_line h text else Err word_
placed positions.Opening h rounds sizes l text = Err arguments
placed other h rounds sizes l text = event_line h.network sizes l text

unfoldable pub body_line : Header → ℕ → List ℕ → List ℕ → List ℕ → Result Said Fault
body_line h rounds sizes word text = placed (row_of (line_of word)).position h rounds sizes (line_of word) text

-- a line in a round that has so many events; after `end` stands nothing
abbrev pub inside : Position → Domain → ℕ → List ℕ → Form → List ℕ → Result Said Fault
inside positions.Closing d count sizes l text = Err arguments
inside other d count sizes l text = part_line d count sizes l text

unfoldable pub inner_line : Domain → ℕ → List ℕ → List ℕ → List ℕ → Result Said Fault
inner_line d count sizes word text = inside (row_of (line_of word)).position d count sizes (line_of word) text

-- the line that begins a round, or ends the one that is open
abbrev pub is_border : Draft → List ℕ → Bool
is_border (AtNodes h) line = bytes_eq line (word_of form.Round)
is_border (InRound h count) line = bytes_eq line (word_of form.End)
is_border draft line = false

-- a round begins where no more frames were sent than a run can number
abbrev pub border_line : Draft → List ℕ → Result Said Fault
border_line (AtNodes h) sizes = if nat_le (length sizes) most_frames then Ok BeginsRound else Err many_frames
border_line (InRound h count) sizes = Ok EndsRound
border_line draft sizes = Err word_

-- the line `mfp`, outside rounds
abbrev pub is_mfp : Draft → List ℕ → Bool
is_mfp (AtNodes h) line = bytes_eq line (word_of form.Mfp)
is_mfp draft line = false

abbrev pub mfp_line : Draft → ℕ → Result Said Fault
mfp_line (AtNodes h) rounds = early_protection h.network rounds
mfp_line draft rounds = Err word_

-- the first line of a script tells its version
abbrev pub version_of : List ℕ → Option Version
version_of line =
    if bytes_eq line (codes "domain 1") then Some First
    else if bytes_eq line (codes "domain 2") then Some Second
    else None

abbrev pub version_line : Option Version → Result Said Fault
version_line None = Err version_
version_line (Some version) = Ok (Goes (AtHeader due.Seed (blank version)))

-- what a line without its end says, after a script has said so much, when so many rounds were run and frames of these sizes
-- sent; in a round these are those that were sent before it
unfoldable pub line_says : Draft → ℕ → List ℕ → List ℕ → Result Said Fault
line_says AtVersion rounds sizes line = version_line (version_of line)
line_says (AtHeader awaited h) rounds sizes line =
    if is_passed_over line then Ok (Goes (AtHeader awaited h)) else
    header_line awaited h (first_word line).0 (first_word line).1 >>= (λ next. Ok (Goes next))
line_says (AtNodes h) rounds sizes line =
    if is_passed_over line then Ok (Goes (AtNodes h)) else
    if is_border (AtNodes h) line then border_line (AtNodes h) sizes else
    if is_mfp (AtNodes h) line then mfp_line (AtNodes h) rounds else
    body_line h rounds sizes (first_word line).0 (first_word line).1
line_says (InRound h count) rounds sizes line =
    if is_passed_over line then Ok (Goes (InRound h count)) else
    if is_border (InRound h count) line then border_line (InRound h count) sizes else
    inner_line h.network count sizes (first_word line).0 (first_word line).1

-- why the script may not end there: no line came, or a round is open
abbrev pub end_fault : Draft → Option Fault
end_fault AtVersion = Some version_
end_fault (InRound h count) = Some unclosed
end_fault draft = None

-- ---- what the lines together have said

-- what a script said with one node more in its network, or one line more of its header
abbrev pub listing : Draft → (Domain → Domain) → Draft
listing (AtNodes h) f = AtNodes (record h { network = f h.network })
listing draft f = draft

-- a round has one event more
abbrev pub with_event : Draft → Draft
with_event (InRound h count) = InRound h (suc count)
with_event draft = draft

-- a round is open, without events
abbrev pub begun : Draft → Draft
begun (AtNodes h) = InRound h 0
begun draft = draft

-- what a script said once a round is closed
abbrev pub ended : Draft → Draft
ended (InRound h count) = AtNodes h
ended draft = draft

-- what a script has said after one more line
abbrev pub said_after : Draft → Said → Draft
said_after draft (Goes next) = next
said_after draft (ListsAp address r0kh_id) = listing draft (λ d. with_ap d address r0kh_id)
said_after draft (ListsSta address psk) = listing draft (λ d. with_sta d address psk)
said_after draft (Adds extra) = listing draft (λ d. with_extra d extra)
said_after draft (Asks event) = with_event draft
said_after draft BeginsRound = begun draft
said_after draft EndsRound = ended draft

-- a round is open
abbrev pub is_within : Draft → Bool
is_within (InRound h count) = true
is_within draft = false

-- an event outside a round is one by itself, and a round counts once it ends, whatever events it has
abbrev pub rounds_after : Draft → ℕ → Said → ℕ
rounds_after draft rounds (Asks event) = if is_within draft then rounds else suc rounds
rounds_after draft rounds EndsRound = suc rounds
rounds_after draft rounds said = rounds
