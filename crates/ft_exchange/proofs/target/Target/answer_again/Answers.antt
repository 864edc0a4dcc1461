use Rattle.std.proofs.Common.{rules}
use Rattle.ft_exchange.proofs.target.Target.answer_again.Goals as goal

pub returns : goal.returns
returns c = search rules steps 400000
