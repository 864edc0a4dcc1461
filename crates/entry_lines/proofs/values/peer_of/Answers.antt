use Rattle.std.proofs.Common.{refl}
use Rattle.entry_lines.proofs.Valued.{peer_all, peer_one}
use Rattle.entry_lines.proofs.values.peer_of.Goals as goal

pub returns-then-is_word : goal.returns-then-is_word
returns-then-is_word c = λ p fits is. peer_all p c.args.word.now fits (c.if-is_word.ensures.0 refl) is

pub returns-else-is_word : goal.returns-else-is_word
returns-else-is_word c = λ p fits is. peer_one p c.args.word.now c.node_of.result fits (λ same. cc (c.if-is_word.ensures.1 same)) is c.node_of.ensures
