use Rattle.script_words.proofs.Finding.{line_delivers, line_said}
use Rattle.script_words.proofs.grammar.line_of.Goals as goal

pub returns-then-eq : goal.returns-then-eq
returns-then-eq c = line_delivers c.eq.result c.args.word.now _ c.eq.ensures c.as_slice.ensures c.if-eq.true

pub returns : goal.returns
returns c = line_said c.find_line.result _ c.args.word.now c.find_line.ensures c.as_slice-2.ensures
