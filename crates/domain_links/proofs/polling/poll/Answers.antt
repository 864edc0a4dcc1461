use Rattle.std.proofs.Common.{ap, ◌∙◌, arith}
use Rattle.domain_links.proofs.Going.{SameFaults-call}
use Rattle.domain_links.proofs.OnePoll.{polls, poll_failed}
use Rattle.domain_links.proofs.polling.poll.Goals as goal

pub returns-clause-polled : goal.returns-clause-polled
returns-clause-polled g c nodes left all tell =
    polls g.L.Link.told nodes _ _ _ left all _ _ _ tell (ap g.L.Link.told c.index_mut-link.ensures.value ∙ tell.each c.args.place c.index_mut-link.result.now c.requires.within) c.poll.ensures.given (omega (arith, c.requires.room, c.poll.auto.buf))

pub returns-clause-cause : goal.returns-clause-cause
returns-clause-cause g c = poll_failed _ _ _ _ _ _ c.requires.within c.poll.ensures.cause

pub returns-clause-unfailed : goal.returns-clause-unfailed
returns-clause-unfailed g c = SameFaults-call g.L.Link.faults c.args.links.now.items c.args.place c.index_mut-link.result.now c.poll.new.self c.poll.result c.requires.within c.index_mut-link.ensures.value c.poll.ensures.unfailed
