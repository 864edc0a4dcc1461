use Rattle.std.proofs.Common.{sym, subst}
use Rattle.script_runs.specs.Sessions.{OnRun}
use Rattle.script_runs.specs.States.{Waiting, DidAsk}
use Rattle.script_runs.proofs.Owned.{on_run, ran_event}
use Rattle.script_runs.proofs.Writings.{later_event, went_on}
use Rattle.script_runs.proofs.state.ask.Goals as goal

pub returns-in-None-clause-did : goal.returns-in-None-clause-did
returns-in-None-clause-did g c =
    let w = c.args.session.now.world in
    let v = c.event.new.self.world in
    let j = c.args.journal.now.entries in
    let k = c.event.new.journal.entries in
    subst (λ (o : Waiting). OnRun c.event.result (DidAsk w v o o c.args.event j k)) (sym c.in-None.is)
    (ran_event c.event.result w v c.args.event j k c.requires.own c.event.ensures.domain c.event.ensures.rounds c.event.ensures.step c.event.ensures.since)

pub returns-in-None-clause-own : goal.returns-in-None-clause-own
returns-in-None-clause-own g c = on_run c.event.result _ c.event.ensures.own

pub returns-in-None-clause-wrote : goal.returns-in-None-clause-wrote
returns-in-None-clause-wrote g c =
    went_on c.event.result _ _ _ _ _ _ c.requires.written (later_event c.event.result c.args.session.now.world c.args.event _ _ c.requires.own c.event.ensures.step) c.event.ensures.kept c.event.ensures.writes
