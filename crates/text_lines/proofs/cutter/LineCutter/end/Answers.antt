use Rattle.std.proofs.Common.{refl, arith}
use Rattle.text_lines.proofs.Texts.{cut_line}
use Rattle.text_lines.proofs.cutter.LineCutter.end.Goals as goal

pub returns-clause-cut : goal.returns-clause-cut
returns-clause-cut c l before good h = cut_line l c.args.self.now _ before good h c.requires.room refl (omega arith) c.clear.ensures.items

pub overflow_add-self : goal.overflow_add-self
overflow_add-self c = omega (arith, c.requires.few)
