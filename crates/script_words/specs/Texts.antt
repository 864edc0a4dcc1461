-- Forms as texts, by the table of lines (profile).
use Rattle.std.specs.Prelude.{ℕ, ◌&&◌, ◌++◌, if◌then◌else◌, Bool, true, false, List, [], ◌∷◌, codes}
use Rattle.script_words.specs.declared.forms.Form.{Form}
use Rattle.script_words.specs.declared.forms.Form.TheVariants.{Key, Passphrase, Psk, First, AfterRenewAt, Any, StaOrEvent, Event, EventInRound, LiveFirst, LiveAfterRenewAt, LiveAny, LiveStaOrEvent, LiveEvent, LiveEventInRound, Link, LinkKey, Holder, Row, RevokeRow, Ask, Forget, HolderEvent, AskerEvent}
use Rattle.script_words.specs.declared.kinds.Kind.{Kind}
use Rattle.script_words.specs.declared.kinds.Kind.TheVariants as kind
use Rattle.script_words.specs.declared.grammar.Position.{Position}
use Rattle.script_words.specs.declared.grammar.Stage.TheVariants.{Bare, Renewing, Unlisted, Listed, Begun}
use Rattle.script_words.specs.declared.grammar.Runs.{Runs}
use Rattle.script_words.specs.declared.grammar.Akms.{Akms}
use Rattle.script_words.specs.declared.grammar.Akms.TheVariants.{Every, Transition, Others, Sha256}
use Rattle.script_words.specs.declared.grammar.Versions.{Versions}
use Rattle.script_words.specs.declared.grammar.Versions.TheVariants.{FromFirst, FromSecond, Protecting}
use Rattle.script_words.specs.declared.grammar.Words.{Words}
use Rattle.script_words.specs.Grammar.{lines, word_of, row_of, stands, stands_within, in_replay, in_live}

-- what stands at a place, with the space before it: in angles what stands in its place, where digits are hexadecimal and
-- n, place and length are numbers
abbrev pub kind_text : Kind → List ℕ
kind_text kind.End = []
kind_text kind.Version = codes " 1 or domain 2"
kind_text kind.Seed = codes " <64 digits>"
kind_text kind.LiveSeed = codes " <64 digits or draw>"
kind_text kind.Ssid = codes " <1 to 32 octets>"
kind_text kind.Passphrase = codes " <8 to 63 octets>"
kind_text kind.Psk = codes " <64 digits>"
kind_text kind.Akm = codes " <psk, psk-sha256 or ft-psk>"
kind_text kind.Mdid = codes " <4 digits>"
kind_text kind.Address = codes " <12 digits>"
kind_text kind.R0khId = codes " <R0KH-ID of 1 to 48 octets>"
kind_text kind.Ap = codes " <ap>"
kind_text kind.Sta = codes " <sta>"
kind_text kind.Node = codes " <node>"
kind_text kind.Peer = codes " <node or all>"
kind_text kind.Tid = codes " <tid 0 to 15 or ->"
kind_text kind.Number = codes " <n>"
kind_text kind.Place = codes " <place>"
kind_text kind.Length = codes " <length>"
kind_text kind.Mask = codes " <2 digits>"
kind_text kind.Octets = codes " <digits>"
kind_text kind.To = codes " to"
kind_text kind.NoKey = []
kind_text kind.OwnKey = codes ", also with psk <64 digits> or passphrase <8 to 63 octets>"
kind_text kind.KeyWord = codes " psk <64 digits> or passphrase <8 to 63 octets>"
kind_text kind.Key = []
kind_text kind.StaOrAll = codes " <sta or all>"
kind_text kind.PacketNumber = codes " <1 to 4294967295>"

-- a line as it is written: its word, and what stands after it
abbrev pub after_text : Words → List ℕ
after_text w = kind_text w.second ++ (kind_text w.third ++ (kind_text w.fourth ++ (kind_text w.fifth ++ kind_text w.sixth)))

abbrev pub line_text : Form → List ℕ
line_text form = word_of form ++ after_text (row_of form).words

-- the word of a line, with the version where it stands in one alone or the line of the header that it needs, and the suite with
-- which alone it goes, or does not
abbrev pub suites_text : Akms → List ℕ
suites_text Every = []
suites_text Transition = codes " with ft-psk"
suites_text Others = codes " without ft-psk"
suites_text Sha256 = codes " without psk"

abbrev pub versions_text : Versions → List ℕ
versions_text FromFirst = []
versions_text FromSecond = codes " with domain 2"
versions_text Protecting = codes " with mfp"

abbrev pub word_text : Form → List ℕ
word_text form = word_of form ++ (versions_text (row_of form).versions ++ suites_text (row_of form).suites)

-- the lines that may stand at some positions in a kind of run
abbrev pub lines_at : (Position → Bool) → (Runs → Bool) → List Form → List (List ℕ)
lines_at may has [] = []
lines_at may has (line ∷ rest) =
    if may (row_of line).position && has (row_of line).runs then word_text line ∷ lines_at may has rest else lines_at may has rest

-- words with commas between them, and `or` before the last one
abbrev pub between : List (List ℕ) → List ℕ
between [] = codes " or "
between (word ∷ rest) = codes ", "

abbrev pub more_words : List (List ℕ) → List ℕ
more_words [] = []
more_words (word ∷ rest) = between rest ++ (word ++ more_words rest)

abbrev pub joined : List (List ℕ) → List ℕ
joined [] = []
joined (word ∷ rest) = word ++ more_words rest

abbrev pub list_text : (Position → Bool) → (Runs → Bool) → List ℕ
list_text may has = codes "that of " ++ joined (lines_at may has lines)

-- as it is written; where more than one line may stand, their words. The lines of the two ends of a link are not in the table
abbrev pub form_text : Form → List ℕ
form_text Key = line_text Passphrase ++ (codes " or " ++ line_text Psk)
form_text First = list_text (λ position. stands position Bare) in_replay
form_text AfterRenewAt = list_text (λ position. stands position Renewing) in_replay
form_text Any = list_text (λ position. stands position Unlisted) in_replay
form_text StaOrEvent = list_text (λ position. stands position Listed) in_replay
form_text Event = list_text (λ position. stands position Begun) in_replay
form_text EventInRound = list_text stands_within in_replay
form_text LiveFirst = list_text (λ position. stands position Bare) in_live
form_text LiveAfterRenewAt = list_text (λ position. stands position Renewing) in_live
form_text LiveAny = list_text (λ position. stands position Unlisted) in_live
form_text LiveStaOrEvent = list_text (λ position. stands position Listed) in_live
form_text LiveEvent = list_text (λ position. stands position Begun) in_live
form_text LiveEventInRound = list_text stands_within in_live
form_text Link = codes "link 1"
form_text LinkKey = codes "key <64 digits>"
form_text Holder = codes "holder <R0KH-ID of 1 to 48 octets>"
form_text Row = codes "row <12 digits>"
form_text RevokeRow = codes "revoke <12 digits>"
form_text Ask = codes "ask <12 digits> <12 digits>"
form_text Forget = codes "forget <n>"
form_text HolderEvent = codes "that of row, revoke or turn"
form_text AskerEvent = codes "that of ask, forget or turn"
form_text line = line_text line
