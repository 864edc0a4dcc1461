-- How the program tells how a run ended (profile).
use Rattle.std.specs.Prelude.{ℕ, ◌==◌, if◌then◌else◌, List, codes, Option, None, Some}
use Rattle.script_words.specs.declared.forms.Form.{Form}
use Rattle.script_words.specs.declared.forms.Form.TheVariants as form
use Rattle.script_lines.specs.declared.refusal.Refusal.{Refusal}
use Rattle.script_lines.specs.Refusals.{limit_of, reason_of, refusal_text}
use Rattle.domain_cli.specs.declared.status.Status.{Status}
use Rattle.domain_cli.specs.declared.status.Status.TheVariants.{Done, Usage, Script, Limit, ReadFault, WriteFault, NoMemory, LinkFault, DrawFault}

-- the number that the program exits with
abbrev pub exit_number : Status → ℕ
exit_number Done = 0
exit_number Usage = 1
exit_number (Script number reason mistake) = 2
exit_number ReadFault = 3
exit_number WriteFault = 4
exit_number NoMemory = 5
exit_number LinkFault = 6
exit_number DrawFault = 7
exit_number (Limit which) = 8

-- a reason and a limit in words, by number
abbrev pub text_or : List ℕ → Option Refusal → List ℕ
text_or other None = other
text_or other (Some refusal) = refusal_text refusal

-- a reason in words, by its number
abbrev pub reason_text : ℕ → List ℕ
reason_text reason = text_or (codes "outside the grammar") (reason_of reason)

-- that of a line that forgets a question
abbrev pub question_text : ℕ → List ℕ
question_text reason = if reason == 5 then codes "no such question was asked" else reason_text reason

-- by the form, too, that the line should have had
abbrev pub told_reason : ℕ → Form → List ℕ
told_reason reason form.Forget = question_text reason
told_reason reason other = reason_text reason

-- a limit in words, by its number; the last one is of an end of a link alone
abbrev pub limit_text : ℕ → List ℕ
limit_text limit = if limit == 9 then codes "more than 64 rows" else text_or (codes "past a limit") (limit_of limit)
