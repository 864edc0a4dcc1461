use Rattle.std.proofs.Common.{rules}
use Rattle.ft_exchange.proofs.target.Target.is_asked_again.Goals as goal

pub returns-then-eq-2 : goal.returns-then-eq-2
returns-then-eq-2 c = search rules steps 150000
