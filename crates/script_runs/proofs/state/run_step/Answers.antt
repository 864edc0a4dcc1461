use Rattle.script_runs.proofs.Owned.{can_act, can_begin, did_act, did_begin, first_act, goes_begin, goes_some, own_run, written_some}
use Rattle.script_runs.proofs.Writings.{goes_none}
use Rattle.script_runs.proofs.state.run_step.Goals as goal

pub act-requires-clause-own : goal.act-requires-clause-own
act-requires-clause-own g c = λ κs bounds. own_run c.args.session.now _ _ _ _ _ c.in-Some.is c.requires.can

pub act-requires-clause-can : goal.act-requires-clause-can
act-requires-clause-can g c = λ κs bounds. can_act c.args.session.now _ _ _ _ _ c.in-Some.is c.requires.can

pub act-requires-clause-first : goal.act-requires-clause-first
act-requires-clause-first g c = λ κs bounds. first_act c.args.session.now _ _ _ c.in-Some.is c.requires.first

pub act-requires-clause-written : goal.act-requires-clause-written
act-requires-clause-written g c = λ κs bounds. written_some c.args.session.now _ _ c.in-Some.is c.requires.written

pub returns-in-Some-clause-did : goal.returns-in-Some-clause-did
returns-in-Some-clause-did g c = did_act c.act.result c.args.session.now _ _ _ _ _ _ _ _ c.in-Some.is c.act.ensures.own c.act.ensures.did

pub returns-in-Some-clause-wrote : goal.returns-in-Some-clause-wrote
returns-in-Some-clause-wrote g c = goes_some _ c.args.session.now _ _ _ _ _ _ c.in-Some.is c.act.ensures.wrote

pub begin_session-requires : goal.begin_session-requires
begin_session-requires g c = can_begin c.args.session.now _ _ _ _ c.in-None.is c.requires.can

pub returns-in-Ok-clause-did : goal.returns-in-Ok-clause-did
returns-in-Ok-clause-did g c = did_begin c.args.session.now _ _ _ _ _ c.in-None.is c.in-Ok.ensures.begun

pub returns-in-Ok-clause-wrote : goal.returns-in-Ok-clause-wrote
returns-in-Ok-clause-wrote g c = goes_begin c.args.session.now _ _ _ c.in-None.is c.in-Ok.ensures.none

pub returns-in-Err-clause-wrote : goal.returns-in-Err-clause-wrote
returns-in-Err-clause-wrote g c = goes_none _ _ _ c.requires.written
