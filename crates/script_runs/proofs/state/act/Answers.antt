use Rattle.std.proofs.Common.{Some, subst}
use Rattle.script_lines.specs.declared.step.Step.{Step as Asked}
use Rattle.script_runs.specs.States.{CanDo, CanList}
use Rattle.script_runs.proofs.Writings.{goes_listed}
use Rattle.script_runs.proofs.state.act.Goals as goal

pub add_ap-requires-clause-form : goal.add_ap-requires-clause-form
add_ap-requires-clause-form g c = (subst (λ (x : Asked). CanDo c.args.session.now.world c.args.waiting.now c.args.journal.now.entries x) c.in-Ap.is c.requires.can).1

pub add_station-requires-clause-form : goal.add_station-requires-clause-form
add_station-requires-clause-form g c = (subst (λ (x : Asked). CanDo c.args.session.now.world c.args.waiting.now c.args.journal.now.entries x) c.in-Sta.is c.requires.can).1

pub returns-in-Ok-clause-wrote : goal.returns-in-Ok-clause-wrote
returns-in-Ok-clause-wrote g c =
    let w = c.args.session.now.world in
    let v = c.add_ap.new.self in
    let before = subst (λ (x : Asked). CanList (Some w) c.args.journal.now.entries x) c.in-Ap.is c.requires.first in
    goes_listed _ w v c.in-Ap.address c.in-Ap.r0kh_id _ _ _ c.requires.written c.in-Ok.ensures.domain before (c.in-Ok.ensures.started before)
