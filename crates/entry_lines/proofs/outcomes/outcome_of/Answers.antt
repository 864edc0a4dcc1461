use Rattle.std.proofs.Common.{sym, subst, ◌∙◌}
use Rattle.entry_lines.specs.Entries.{HasOutcomeLine}
use Rattle.entry_lines.proofs.Telling.{outcome_has, outcome_read}
use Rattle.entry_lines.proofs.outcomes.outcome_of.Goals as goal

pub returns-clause-read : goal.returns-clause-read
returns-clause-read c = λ o has fits is. c.named.ensures ∙ outcome_read o c.args.word.now c.reason_of-reason.result has fits is c.reason_of-reason.ensures

pub returns-clause-has : goal.returns-clause-has
returns-clause-has c = subst HasOutcomeLine (sym c.named.ensures) (outcome_has c.args.word.now c.reason_of-reason.result)
