use Rattle.link_runs.proofs.Sendings.{sends_step, some_at}
use Rattle.link_runs.proofs.Writings.{did_step, wrote_step, wrote_step_part}
use Rattle.link_runs.proofs.steps.step.Goals as goal

-- its line could not be written

pub returns-in_default-note-clause-steps : goal.returns-in_default-note-clause-steps
returns-in_default-note-clause-steps g c =
    (c.in-Ok-happen.happened.step, (did_step c.args.end c.args.sta c.args.event _ _ _ _ _ c.in-Ok-happen.happened.step c.in-Ok-happen.ensures.did c.happen.ensures.one c.next_round.ensures.entries c.note.ensures.journal, λ story is. is))

pub returns-in_default-note-clause-wrote : goal.returns-in_default-note-clause-wrote
returns-in_default-note-clause-wrote g c =
    wrote_step_part c.args.end c.args.sta c.in-Ok-happen.happened.step _ _ _ _ _ _ _ c.next_round.ensures.entries c.note.ensures.journal c.in_default-note.ensures.err c.in_default-note.ensures.cause.failed

-- it was done wholly

pub returns-in-Ok-send-clause-steps : goal.returns-in-Ok-send-clause-steps
returns-in-Ok-send-clause-steps g c =
    (c.in-Ok-happen.happened.step, (did_step c.args.end c.args.sta c.args.event _ _ _ _ _ c.in-Ok-happen.happened.step c.in-Ok-happen.ensures.did c.happen.ensures.one c.next_round.ensures.entries c.note.ensures.journal, sends_step c.args.end c.other.result c.node.result c.in-Ok-happen.happened.step _ _ _ c.other.ensures c.node.ensures c.in-Ok-happen.ensures.sent c.in-Ok-send.ensures.sent))

pub returns-in-Ok-send-clause-wrote : goal.returns-in-Ok-send-clause-wrote
returns-in-Ok-send-clause-wrote g c =
    wrote_step c.args.end c.args.sta c.in-Ok-happen.happened.step _ _ _ _ _ _ _ c.next_round.ensures.entries c.note.ensures.journal c.in-Ok-note.ensures.ok c.in-Ok-note.ensures.unfailed

-- or its datagram was not sent

pub returns-in-Err-clause-steps : goal.returns-in-Err-clause-steps
returns-in-Err-clause-steps g c =
    (c.in-Ok-happen.happened.step, (did_step c.args.end c.args.sta c.args.event _ _ _ _ _ c.in-Ok-happen.happened.step c.in-Ok-happen.ensures.did c.happen.ensures.one c.next_round.ensures.entries c.note.ensures.journal, c.in-Err.ensures.unsent, some_at c.in-Ok-happen.ensures.sent c.in-Err.ensures.some))

pub returns-in-Err-clause-wrote : goal.returns-in-Err-clause-wrote
returns-in-Err-clause-wrote g c =
    wrote_step c.args.end c.args.sta c.in-Ok-happen.happened.step _ _ _ _ _ _ _ c.next_round.ensures.entries c.note.ensures.journal c.in-Ok-note.ensures.ok c.in-Ok-note.ensures.unfailed
