use Rattle.std.proofs.Common.{Err, Some, subst, sym}
use Rattle.link_runs.specs.declared.found.Undone.{Undone}
use Rattle.link_runs.specs.Standing.{StepsBy}
use Rattle.link_runs.proofs.Doing.{event_done, event_failed}
use Rattle.link_runs.proofs.state.run_event.Goals as goal

pub returns-in-Ok-clause-steps : goal.returns-in-Ok-clause-steps
returns-in-Ok-clause-steps g c =
    event_done g.L.Link.told c.args.state.now.reader c.args.state.now.running c.in-Some.running c.step.new.running c.header.result.now c.end-end.result c.revoked_of.result c.args.asked c.args.said c.in-Ok-Some.event c.in-Ok-Some.field-0 _ _ c.in-Some.is c.header.ensures.header c.end-end.ensures c.revoked_of.ensures c.in-Ok-Some.ensures.event c.in-Ok-Some.field-0-is c.in-Ok.field-0 (tt {0}) c.in-Ok.ensures.steps

pub returns-in-Err-step-clause-steps : goal.returns-in-Err-step-clause-steps
returns-in-Err-step-clause-steps g c =
    subst (λ (u : Undone). StepsBy {T = Unit {0}} g.L.Link.told c.args.state.now.reader c.args.state.now.running (Some c.step.new.running) c.args.asked c.args.said c.args.journal.now.entries c.step.new.journal.entries (Err u)) (sym c.undone_by.ensures)
    (event_failed g.L.Link.told c.args.state.now.reader c.args.state.now.running c.in-Some.running c.step.new.running c.header.result.now c.end-end.result c.revoked_of.result c.args.asked c.args.said c.in-Ok-Some.event c.in-Ok-Some.field-0 _ _ c.in-Some.is c.header.ensures.header c.end-end.ensures c.revoked_of.ensures c.in-Ok-Some.ensures.event c.in-Ok-Some.field-0-is c.in-Err-step.halt c.in-Err-step.ensures.steps)
