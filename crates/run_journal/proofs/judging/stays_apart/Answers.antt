use Rattle.std.proofs.Common.{reverse, sym, ◌∙◌}
use Rattle.std.proofs.lemmas.Bool.{false≢true}
use Rattle.run_journal.proofs.Agreement.{apart_before}
use Rattle.run_journal.proofs.judging.stays_apart.Goals as goal

pub returns-else-held : goal.returns-else-held
returns-else-held c = (λ t. absurd (false≢true (sym c.if-held.false ∙ t)), λ m. c.requires.held.1 (apart_before c.args.entry.now (reverse c.args.entries.now) m))

pub returns-then-held : goal.returns-then-held
returns-then-held c = c.keeps_apart.ensures (c.requires.held.0 c.if-held.true)
