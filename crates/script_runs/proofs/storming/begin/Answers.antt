use Rattle.script_runs.proofs.Nodes.{begin_form, begin_aps, begin_stas, begin_listing}
use Rattle.script_runs.proofs.storming.begin.Goals as goal

pub start-requires-clause-form : goal.start-requires-clause-form
start-requires-clause-form c = begin_form c.args.storm.now.number c.in-Ok.header c.args.domain.now c.requires c.in-Ok.ensures

pub start-requires-clause-no_aps : goal.start-requires-clause-no_aps
start-requires-clause-no_aps c = begin_aps c.in-Ok.header c.args.domain.now c.in-Ok.ensures

pub start-requires-clause-no_stas : goal.start-requires-clause-no_stas
start-requires-clause-no_stas c = begin_stas c.in-Ok.header c.args.domain.now c.in-Ok.ensures

pub returns-in-Ok-start : goal.returns-in-Ok-start
returns-in-Ok-start c = begin_listing c.args.storm.now.number c.in-Ok.header c.args.domain.now c.in-Ok-start.world c.requires c.in-Ok.ensures c.in-Ok-start.ensures.domain c.in-Ok-start.ensures.rounds c.in-Ok-start.ensures.own c.in-Ok-start.ensures.since
