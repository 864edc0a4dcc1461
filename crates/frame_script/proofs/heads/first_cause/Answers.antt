use Rattle.std.proofs.Common.{sym, ap, ◌∙◌}
use Rattle.script_words.specs.declared.grammar.Row.{Row}
use Rattle.script_lines.specs.Due.{draft_of}
use Rattle.frame_script.specs.Mistakes.{known_cause}
use Rattle.frame_script.proofs.Refusing.{first_rest}
use Rattle.frame_script.proofs.heads.first_cause.Goals as goal

pub returns-in_default : goal.returns-in_default
returns-in_default c =
    c.known_cause.ensures ∙ (ap (λ (r : Row). known_cause (draft_of c.args.due.now) r) c.row_of.ensures ∙ sym (first_rest (draft_of c.args.due.now) c.args.word.now c.args.line c.in_default.not-Any))
