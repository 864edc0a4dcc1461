use Rattle.std.proofs.Common.{rules}
use Rattle.ft_exchange.proofs.expected.response_fault.Goals as goal

pub returns : goal.returns
returns c = search rules steps 150000

pub returns-then-not-is_named : goal.returns-then-not-is_named
returns-then-not-is_named c = search rules steps 150000
