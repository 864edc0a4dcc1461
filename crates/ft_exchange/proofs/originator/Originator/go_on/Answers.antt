use Rattle.std.proofs.Common.{refl, ap}
use Rattle.ft_exchange.specs.State.{OriginatorState}
use Rattle.ft_exchange.specs.Exchange.{at_stage}
use Rattle.ft_exchange.specs.declared.originator.Stage.TheVariants as stage
use Rattle.ft_exchange.proofs.Sending.{goes_on}
use Rattle.ft_exchange.proofs.originator.Originator.go_on.Goals as goal

pub returns-clause-goes : goal.returns-clause-goes
returns-clause-goes c =
    goes_on c.args.self.now _ c.transit-transit.result c.args.anonce.now c.args.reply.now c.request.new.reply _ c.transit-transit.ensures c.requires.empty c.request.ensures.sends c.request.ensures.covers
    (ap (λ (x : OriginatorState). at_stage (stage.Keyed c.transit-transit.result) x) c.self.view_is) refl
