use Rattle.script_runs.proofs.Taking.{ready_first, stands_first}
use Rattle.script_runs.proofs.state.ScriptState.start.Goals as goal

pub returns-clause-ready : goal.returns-clause-ready
returns-clause-ready c = ready_first c.args.mode c.start.result c.start.ensures

pub returns-clause-stands : goal.returns-clause-stands
returns-clause-stands c = stands_first c.args.mode c.start.result c.start.ensures
