-- What is wrong in a line of the script of one end that is refused, and at which of its words (profile).
use Rattle.std.specs.Prelude.{ℕ, ◌==◌, nat_lt, Bool, true, false, if◌then◌else◌, List, length, bytes_eq, codes}
use Rattle.script_words.specs.declared.causes.Cause.{Cause}
use Rattle.script_words.specs.declared.causes.Cause.TheVariants.{Plain, Missing, Unknown, Later, Earlier, OtherEnd, Asks}
use Rattle.script_words.specs.declared.forms.Form.{Form}
use Rattle.script_words.specs.declared.forms.Form.TheVariants as form
use Rattle.script_words.specs.declared.kinds.Kind.{Kind}
use Rattle.script_words.specs.declared.kinds.Kind.TheVariants as kind
use Rattle.script_words.specs.Tokens.{first_word}
use Rattle.script_words.specs.Slips.{cause_at, slip, words_from}
use Rattle.link_steps.specs.declared.ends.LinkEnd.{LinkEnd}
use Rattle.link_steps.specs.declared.ends.LinkEnd.TheVariants as ends
use Rattle.link_lines.specs.declared.draft.LinkDue.{LinkDue}
use Rattle.link_lines.specs.declared.draft.LinkDue.TheVariants as due
use Rattle.link_lines.specs.declared.mistakes.Slip.{Slip}
use Rattle.link_lines.specs.declared.refusal.LinkRefusal.{LinkRefusal}
use Rattle.link_lines.specs.declared.refusal.LinkRefusal.TheVariants.{Version, Word, Arguments, Question, ManyRows, ManyLines, LongLine}
use Rattle.link_lines.specs.Drafts.{LinkDraft}

-- ---- forms

-- the form of a line that asks for an event, or for a turn, by its first word; `form.Any` where no such line begins so
abbrev pub event_form : List ℕ → Form
event_form word =
    if bytes_eq word (codes "row") then form.Row
    else if bytes_eq word (codes "revoke") then form.RevokeRow
    else if bytes_eq word (codes "ask") then form.Ask
    else if bytes_eq word (codes "forget") then form.Forget
    else if bytes_eq word (codes "turn") then form.Turn
    else form.Any

-- any line of an end after the header
abbrev pub any_form : LinkEnd → Form
any_form ends.Holder = form.HolderEvent
any_form ends.Asker = form.AskerEvent

-- the form that the next line has to have
abbrev pub due_form : LinkEnd → LinkDue → Form
due_form end due.Version = form.Link
due_form end due.Key = form.LinkKey
due_form end due.Seed = form.LiveSeed
due_form end due.Ssid = form.Ssid
due_form end due.Psk = form.Psk
due_form end due.Mdid = form.Mdid
due_form end due.Holder = form.Holder
due_form end due.Events = any_form end

-- that of a line with the right first word
abbrev pub own_form : LinkEnd → LinkDue → List ℕ → Form
own_form end due.Events word = event_form word
own_form end other word = due_form end other

-- ---- the first word

-- after the header, where one begins so
abbrev pub order_after : Form → ℕ
order_after form.Any = 0
order_after other = 7

-- in which order the lines stand; 0 for a word with which none begins
unfoldable pub order_of : List ℕ → ℕ
order_of word =
    if bytes_eq word (codes "key") then 1
    else if bytes_eq word (codes "seed") then 2
    else if bytes_eq word (codes "ssid") then 3
    else if bytes_eq word (codes "psk") then 4
    else if bytes_eq word (codes "mdid") then 5
    else if bytes_eq word (codes "holder") then 6
    else order_after (event_form word)

abbrev pub order_due : LinkDue → ℕ
order_due due.Version = 0
order_due due.Key = 1
order_due due.Seed = 2
order_due due.Ssid = 3
order_due due.Psk = 4
order_due due.Mdid = 5
order_due due.Holder = 6
order_due due.Events = 7

-- lines of that form stand at the other end alone
abbrev pub is_other : LinkEnd → Form → Bool
is_other ends.Holder form.Ask = true
is_other ends.Holder form.Forget = true
is_other ends.Asker form.Row = true
is_other ends.Asker form.RevokeRow = true
is_other end other = false

-- a word that may not stand there, of this end: no line begins so, or one that stands later or earlier
abbrev pub order_cause : ℕ → ℕ → List ℕ → Cause
order_cause order awaited word =
    if order == 0 then slip Unknown word
    else if nat_lt awaited order then Later
    else Earlier

-- or one of the other end, wherever it stands
abbrev pub first_cause : LinkEnd → LinkDue → List ℕ → Cause
first_cause end awaited word =
    if is_other end (event_form word) then OtherEnd else order_cause (order_of word) (order_due awaited) word

-- ---- the words after it

-- what the second word is, and the third
abbrev pub second_kind : Form → Kind
second_kind form.LinkKey = kind.Psk
second_kind form.LiveSeed = kind.LiveSeed
second_kind form.Ssid = kind.Ssid
second_kind form.Psk = kind.Psk
second_kind form.Mdid = kind.Mdid
second_kind form.Holder = kind.R0khId
second_kind form.Row = kind.Address
second_kind form.RevokeRow = kind.Address
second_kind form.Ask = kind.Address
second_kind form.Forget = kind.Number
second_kind other = kind.End

abbrev pub third_kind : Form → Kind
third_kind form.Ask = kind.Address
third_kind other = kind.End

-- what stands after so many words
abbrev pub kind_after : Form → ℕ → Kind
kind_after form_ before = if before == 1 then second_kind form_ else if before == 2 then third_kind form_ else kind.End

-- ---- a line

-- a form, a word from 1, and what is wrong with it
abbrev pub slipped : Form → ℕ → Cause → Slip
slipped form_ word cause = record { form = form_; word = word; cause = cause }

abbrev pub is_plain : Cause → Bool
is_plain Plain = true
is_plain cause = false

-- the word, where something is wrong with it, or another
abbrev pub slip_or : Form → ℕ → Cause → Slip → Slip
slip_or form_ word cause other = if is_plain cause then other else slipped form_ word cause

-- after so many words
unfoldable pub cause_after : Form → List ℕ → ℕ → Cause
cause_after form_ line before = cause_at (kind_after form_ before) (words_from before line)

-- the first word after the first one that has not its form
unfoldable pub arguments_slip : Form → List ℕ → Slip
arguments_slip form_ line =
    slip_or form_ 2 (cause_after form_ line 1) (slip_or form_ 3 (cause_after form_ line 2) (slip_or form_ 4 (cause_after form_ line 3) (slipped form_ 1 Plain)))

-- a first line that is not that of a link
unfoldable pub version_slip : List ℕ → Slip
version_slip line =
    if length line == 0 then slipped form.Link 1 Missing
    else if bytes_eq (first_word line).0 (codes "link") then slipped form.Link 2 Plain
    else slipped form.Link 1 (slip Unknown (first_word line).0)

-- what is wrong in a line that is refused, where so many questions were asked
abbrev pub slip_in : LinkDraft → ℕ → LinkRefusal → List ℕ → Slip
slip_in d asked Version line = version_slip line
slip_in d asked Word line = slipped (due_form d.end d.due) 1 (first_cause d.end d.due (first_word line).0)
slip_in d asked Arguments line = arguments_slip (own_form d.end d.due (first_word line).0) line
slip_in d asked Question line = slipped form.Forget 2 (Asks asked)
slip_in d asked ManyRows line = slipped form.Row 1 Plain
slip_in d asked ManyLines line = slipped (due_form d.end d.due) 1 Plain
slip_in d asked LongLine line = slipped (due_form d.end d.due) 1 Plain
