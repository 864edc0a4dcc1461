use Rattle.std.proofs.Common.{ap}
use Rattle.ft_exchange.specs.Exchange.{request_between}
use Rattle.ft_exchange.proofs.target.Target.between.Goals as goal

pub returns : goal.returns
returns c = ap request_between c.self.view_is
