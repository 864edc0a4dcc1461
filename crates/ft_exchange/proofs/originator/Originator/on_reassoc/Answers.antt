use Rattle.std.proofs.Common.{◌∙◌, sym, ap, subst}
use Rattle.rsn_elements.specs.Fields.{element_fields}
use Rattle.run_journal.specs.declared.acts.Outcome.{Outcome}
use Rattle.ft_exchange.specs.Exchange.{both}
use Rattle.ft_exchange.specs.OriginatorSteps.{IsReassocTaken}
use Rattle.ft_exchange.specs.State.{OriginatorState}
use Rattle.ft_exchange.proofs.StationAuths.{quiet_empty}
use Rattle.ft_exchange.proofs.StationFinishes.{reassoc_unawaited, reassoc_judged, reassoc_accepted}
use Rattle.ft_exchange.proofs.originator.Originator.on_reassoc.Goals as goal

pub returns-in_default : goal.returns-in_default
returns-in_default c =
    reassoc_unawaited c.args.status (element_fields c.args.elements.now) c.args.self.now c.args.memory.now c.empty.result (quiet_empty c.empty.result c.empty.ensures)
    (λ t is. c.in_default.not-Keyed t (ap (λ (x : OriginatorState). x.stage) c.self.view_is ∙ is))

pub returns-in-Ok : goal.returns-in-Ok
returns-in-Ok c =
    subst (λ (o : Outcome). IsReassocTaken c.args.status (element_fields c.args.elements.now) (both c.args.self.now c.args.memory.now) (both c.finish.new.self c.finish.new.memory) o c.finish.new.reply) (sym c.finish.ensures.outcome)
    (reassoc_accepted c.args.status (element_fields c.args.elements.now) c.args.self.now c.in-Keyed.transit c.in-Ok.keys c.args.memory.now (both c.finish.new.self c.finish.new.memory) c.judge.new.reply c.finish.new.reply
    (ap (λ (x : OriginatorState). x.stage) (sym c.self.view_is) ∙ c.in-Keyed.is) c.in-Ok.ensures c.finish.ensures.finishes)

pub returns-in-Err : goal.returns-in-Err
returns-in-Err c =
    reassoc_judged c.args.status (element_fields c.args.elements.now) c.args.self.now c.in-Keyed.transit c.args.memory.now c.in-Err.why c.judge.new.reply (ap (λ (x : OriginatorState). x.stage) (sym c.self.view_is) ∙ c.in-Keyed.is) c.in-Err.ensures
