use Rattle.std.proofs.Common.{rules}
use Rattle.ft_exchange.proofs.group.give.Goals as goal

pub returns-clause-news : goal.returns-clause-news
returns-clause-news c = search rules steps 300000
