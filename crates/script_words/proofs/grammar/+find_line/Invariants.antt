use Rattle.std.proofs.Common.{length}
use Rattle.script_words.proofs.grammar.+find_line.Given as goal

abbrev pub decreases-find_line : goal.decreases-find_line
decreases-find_line l = length l.lines.now
