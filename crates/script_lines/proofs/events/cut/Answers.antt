use Rattle.script_lines.proofs.events.cut.Goals as goal

pub returns-then-size-whole-clause-can : goal.returns-then-size-whole-clause-can
returns-then-size-whole-clause-can c = (c.in-Some.ensures.inside, c.in-Some-size_of.ensures.sized c.args.count c.if-size-whole.true)
