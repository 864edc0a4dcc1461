use Rattle.std.proofs.Common.{ap}
use Rattle.ft_exchange.specs.State.{OriginatorState}
use Rattle.ft_exchange.proofs.Sending.{r1_is}
use Rattle.ft_exchange.proofs.originator.Originator.r1.Goals as goal

pub returns : goal.returns
returns c =
    r1_is c.args.self.now c.self.inside.r0 c.r0_name.result c.self.inside.peer c.self.inside.own c.of.result c.of.ensures c.r0_name.ensures
    (ap (λ (x : OriginatorState). x.r0) c.self.view_is) (ap (λ (x : OriginatorState). x.peer) c.self.view_is) (ap (λ (x : OriginatorState). x.own) c.self.view_is)
