use Rattle.std.proofs.Common.{ap}
use Rattle.ft_exchange.specs.State.{OriginatorState}
use Rattle.ft_exchange.specs.Exchange.{at_stage}
use Rattle.ft_exchange.specs.declared.originator.Stage.TheVariants as stage
use Rattle.ft_exchange.proofs.Giving.{finished}
use Rattle.ft_exchange.proofs.originator.Originator.finish.Goals as goal

pub returns-clause-finishes : goal.returns-clause-finishes
returns-clause-finishes c =
    finished c.args.transit.now c.args.keys c.args.self.now _ c.args.memory.now c.give_all-became.new.memory c.args.reply.now c.give_all-became.result (ap (λ (x : OriginatorState). at_stage stage.Done x) c.self.view_is) c.give_all-became.ensures.memory
    c.give_all-became.ensures.news
