use Rattle.domain_links.specs.NodeOrder.{node_at}
use Rattle.domain_links.proofs.Taking.{takes_ok, takes_err, takes_none, takes_fault, some_of, none_of}
use Rattle.script_runs.specs.Turning.{IsTaken, sent_by_then}
use Rattle.script_runs.proofs.Turned.{laid_ok, laid_err, laid_none}
use Rattle.script_runs.proofs.Staying.{laid_failed, further_none}
use Rattle.script_runs.proofs.Writings.{goes_none}
use Rattle.script_runs.proofs.turning.take_next.Goals as goal

pub returns-in-Ok-clause-takes : goal.returns-in-Ok-clause-takes
returns-in-Ok-clause-takes g c =
    let d = c.args.session.now.world.domain in
    takes_ok g.L.Link.told (node_at d) IsTaken (sent_by_then d) _ _ _ _ _ _ _ _ _ (λ left tell. some_of _ _ _ _ c.in-Ok-Some.field-0-is (c.in-Ok-Some.ensures.polled (node_at d) left _ tell)) c.in-Ok.ensures.delivers

pub returns-in-Err-deliver-clause-takes : goal.returns-in-Err-deliver-clause-takes
returns-in-Err-deliver-clause-takes g c =
    let d = c.args.session.now.world.domain in
    takes_err g.L.Link.told (node_at d) IsTaken (sent_by_then d) _ _ _ _ _ _ _ _ (λ left tell. some_of _ _ _ _ c.in-Ok-Some.field-0-is (c.in-Ok-Some.ensures.polled (node_at d) left _ tell)) c.in-Err-deliver.ensures.delivers

pub returns-in-Err-deliver-clause-further : goal.returns-in-Err-deliver-clause-further
returns-in-Err-deliver-clause-further g c = c.in-Err-deliver.ensures.further

pub returns-in-Ok-None-clause-takes : goal.returns-in-Ok-None-clause-takes
returns-in-Ok-None-clause-takes g c =
    let d = c.args.session.now.world.domain in
    takes_none g.L.Link.told (node_at d) IsTaken (sent_by_then d) _ _ _ _ _ (λ left tell. none_of _ _ _ c.in-Ok-None.field-0-is (c.in-Ok-None.ensures.polled (node_at d) left _ tell))

pub returns-in-Ok-None-clause-empty : goal.returns-in-Ok-None-clause-empty
returns-in-Ok-None-clause-empty g c e left tell = (none_of _ _ _ c.in-Ok-None.field-0-is (c.in-Ok-None.ensures.polled (node_at c.args.session.now.world.domain) left _ tell)).0

pub returns-in-Err-clause-takes : goal.returns-in-Err-clause-takes
returns-in-Err-clause-takes g c =
    let d = c.args.session.now.world.domain in
    takes_fault g.L.Link.told (node_at d) IsTaken (sent_by_then d) _ _ _ _ (λ left tell. c.in-Err.ensures.polled (node_at d) left _ tell)

pub returns-in-Ok-clause-laid : goal.returns-in-Ok-clause-laid
returns-in-Ok-clause-laid g c = laid_ok g.L.Link.faults _ _ _ _ _ c.poll.ensures.len c.in-Ok-Some.ensures.unfailed c.in-Ok.ensures.laid

pub returns-in-Err-deliver-clause-laid : goal.returns-in-Err-deliver-clause-laid
returns-in-Err-deliver-clause-laid g c = laid_err g.L.Link.faults _ _ _ _ c.poll.ensures.len c.in-Ok-Some.ensures.unfailed c.in-Err-deliver.ensures.laid

pub returns-in-Ok-None-clause-laid : goal.returns-in-Ok-None-clause-laid
returns-in-Ok-None-clause-laid g c = laid_none g.L.Link.faults _ _ _ c.poll.ensures.len c.in-Ok-None.ensures.unfailed

pub returns-in-Err-clause-laid : goal.returns-in-Err-clause-laid
returns-in-Err-clause-laid g c = laid_failed g.L.Link.faults _ _ c.poll.ensures.len c.in-Err.ensures.cause

pub returns-in-Ok-None-clause-further : goal.returns-in-Ok-None-clause-further
returns-in-Ok-None-clause-further g c = further_none 1 _ c.requires.own

pub returns-in-Err-clause-further : goal.returns-in-Err-clause-further
returns-in-Err-clause-further g c = further_none 1 _ c.requires.own

pub returns-in-Ok-clause-wrote : goal.returns-in-Ok-clause-wrote
returns-in-Ok-clause-wrote g c = c.in-Ok.ensures.wrote

pub returns-in-Err-deliver-clause-wrote : goal.returns-in-Err-deliver-clause-wrote
returns-in-Err-deliver-clause-wrote g c = c.in-Err-deliver.ensures.wrote

pub returns-in-Ok-None-clause-wrote : goal.returns-in-Ok-None-clause-wrote
returns-in-Ok-None-clause-wrote g c = goes_none _ _ _ c.requires.written

pub returns-in-Err-clause-wrote : goal.returns-in-Err-clause-wrote
returns-in-Err-clause-wrote g c = goes_none _ _ _ c.requires.written
