use Rattle.std.proofs.Common.{List, ℕ, refl, sym, subst, arith}
use Rattle.text_lines.specs.Longs.{IsLong}
use Rattle.text_lines.proofs.Reading.{read_on}
use Rattle.text_lines.proofs.reader.LineReader.advance.Goals as goal

pub returns-in-Ok-clause-read : goal.returns-in-Ok-clause-read
returns-in-Ok-clause-read c l octets good h = read_on l c.args.self.now _ octets good h (omega (arith, c.in-Ok.ensures.order.0)) (c.in-Ok.ensures.cut l h.before good h.cut) refl refl

pub returns-in-Ok-clause-kept : goal.returns-in-Ok-clause-kept
returns-in-Ok-clause-kept c l octets good h = read_on l c.args.self.now _ octets good h (omega (arith, c.in-Ok.ensures.order.0)) (c.in-Ok.ensures.cut l h.before good h.cut) refl refl

pub returns-in-Err-clause-read : goal.returns-in-Err-clause-read
returns-in-Err-clause-read c l octets good h = subst (λ (w : List ℕ). IsLong l w good) (sym h.whole) (c.in-Err.ensures.cut l h.before good h.cut)
