use Rattle.std.proofs.Common.{◌<◌, ◌%◌, sym, ap, subst, arith}
use Rattle.run_journal.specs.declared.breadth.Breadth.{Breadth}
use Rattle.run_journal.specs.Chained.{count_of}
use Rattle.run_journal.proofs.breadth.Breadth.chain.Goals as goal

pub returns-in-Least-clause-chain : goal.returns-in-Least-clause-chain
returns-in-Least-clause-chain c = ap (λ (b : Breadth). c.args.mix % count_of b) (sym c.in-Least.is)

pub returns-in-Least-clause-within : goal.returns-in-Least-clause-within
returns-in-Least-clause-within c = subst (λ (b : Breadth). c.args.mix % 4093 < count_of b) (sym c.in-Least.is) (omega arith)

pub returns-in-Lesser-clause-chain : goal.returns-in-Lesser-clause-chain
returns-in-Lesser-clause-chain c = ap (λ (b : Breadth). c.args.mix % count_of b) (sym c.in-Lesser.is)

pub returns-in-Lesser-clause-within : goal.returns-in-Lesser-clause-within
returns-in-Lesser-clause-within c = subst (λ (b : Breadth). c.args.mix % 32749 < count_of b) (sym c.in-Lesser.is) (omega arith)

pub returns-in-Middle-clause-chain : goal.returns-in-Middle-clause-chain
returns-in-Middle-clause-chain c = ap (λ (b : Breadth). c.args.mix % count_of b) (sym c.in-Middle.is)

pub returns-in-Middle-clause-within : goal.returns-in-Middle-clause-within
returns-in-Middle-clause-within c = subst (λ (b : Breadth). c.args.mix % 262139 < count_of b) (sym c.in-Middle.is) (omega arith)

pub returns-in-Greater-clause-chain : goal.returns-in-Greater-clause-chain
returns-in-Greater-clause-chain c = ap (λ (b : Breadth). c.args.mix % count_of b) (sym c.in-Greater.is)

pub returns-in-Greater-clause-within : goal.returns-in-Greater-clause-within
returns-in-Greater-clause-within c = subst (λ (b : Breadth). c.args.mix % 2097143 < count_of b) (sym c.in-Greater.is) (omega arith)

pub returns-in-Greatest-clause-chain : goal.returns-in-Greatest-clause-chain
returns-in-Greatest-clause-chain c = ap (λ (b : Breadth). c.args.mix % count_of b) (sym c.in-Greatest.is)

pub returns-in-Greatest-clause-within : goal.returns-in-Greatest-clause-within
returns-in-Greatest-clause-within c = subst (λ (b : Breadth). c.args.mix % 16777213 < count_of b) (sym c.in-Greatest.is) (omega arith)
