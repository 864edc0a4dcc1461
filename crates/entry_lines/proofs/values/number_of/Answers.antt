use Rattle.std.proofs.Common.{ℕ}
use Rattle.entry_lines.proofs.Digits.{is_text, parsed_same, parsed_not}
use Rattle.entry_lines.proofs.values.number_of.Goals as goal

pub returns-in_default : goal.returns-in_default
returns-in_default c = λ n few is. absurd (c.in_default.ensures.cases.0 (is_text c.args.word.now n few is))

pub returns-in-Ok-parse : goal.returns-in-Ok-parse
returns-in-Ok-parse c = λ n few is. parsed_same ℕ c.args.word.now c.in-Ok.text.now n c.in-Ok-parse.number few is c.in-Ok.ensures.cases.0 c.in-Ok-parse.ensures.value.0

pub returns-in-Err : goal.returns-in-Err
returns-in-Err c = λ n few is. absurd (parsed_not ℕ c.args.word.now c.in-Ok.text.now n 0 few is c.in-Ok.ensures.cases.0 c.in-Err.ensures.value.0)
