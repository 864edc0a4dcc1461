use Rattle.std.proofs.Common.{rules}
use Rattle.command_words.proofs.numbers.port_number.Goals as goal

pub returns-then-contains : goal.returns-then-contains
returns-then-contains c = search rules
