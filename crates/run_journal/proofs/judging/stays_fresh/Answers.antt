use Rattle.std.proofs.Common.{sym, ◌∙◌}
use Rattle.std.proofs.lemmas.Bool.{false≢true}
use Rattle.run_journal.proofs.judging.stays_fresh.Goals as goal

pub returns-then-held : goal.returns-then-held
returns-then-held c = (λ t. (c.draws_afresh.ensures.0 t, c.requires.held.0 c.if-held.true), λ m. c.draws_afresh.ensures.1 m.0)

pub returns-else-held : goal.returns-else-held
returns-else-held c = (λ t. absurd (false≢true (sym c.if-held.false ∙ t)), λ m. c.requires.held.1 m.1)
