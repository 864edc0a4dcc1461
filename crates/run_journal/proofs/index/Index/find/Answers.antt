use Rattle.std.proofs.Common.{sym, subst, arith}
use Rattle.run_journal.specs.declared.index.Question.{Question}
use Rattle.run_journal.specs.Chained.{Chained}
use Rattle.run_journal.specs.Looking.{chains_of}
use Rattle.run_journal.proofs.index.Index.find.Goals as goal

pub walk-requires-clause-chained : goal.walk-requires-clause-chained
walk-requires-clause-chained c = subst (λ (q : Question). Chained (chains_of c.args.self.now.breadth q c.args.entries.now) c.args.self.now.kcks) (sym c.in-ConfirmationKey.is) c.requires.indexed.kcks

pub walk-requires-clause-made : goal.walk-requires-clause-made
walk-requires-clause-made c = c.requires.room.kcks_made (omega arith)
