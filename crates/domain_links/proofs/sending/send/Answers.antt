use Rattle.std.proofs.Common.{ap, ◌∙◌, arith}
use Rattle.domain_links.proofs.Going.{HasFailed-set, SameFaults-call, SameFaults-set, sends_to}
use Rattle.domain_links.proofs.sending.send.Goals as goal

pub returns-clause-sent : goal.returns-clause-sent
returns-clause-sent g c nodes left before tell =
    sends_to g.L.Link.told nodes c.args.links.now.items left before c.args.place c.send.new.self _ c.args.to c.args.octets.now c.send.result tell (ap g.L.Link.told c.index_mut-link.ensures.value ∙ tell.each c.args.place c.index_mut-link.result.now c.requires.within) c.send.ensures.sent

pub returns-clause-cause : goal.returns-clause-cause
returns-clause-cause g c e = HasFailed-set g.L.Link.faults c.args.links.now.items c.args.place c.send.new.self c.requires.within (omega (arith, c.send.ensures.cause.failed e))

pub returns-clause-kept : goal.returns-clause-kept
returns-clause-kept g c e = SameFaults-set g.L.Link.faults c.args.links.now.items c.args.place c.index_mut-link.result.now c.send.new.self c.requires.within c.index_mut-link.ensures.value (c.send.ensures.cause.kept e)

pub returns-clause-unfailed : goal.returns-clause-unfailed
returns-clause-unfailed g c = SameFaults-call g.L.Link.faults c.args.links.now.items c.args.place c.index_mut-link.result.now c.send.new.self c.send.result c.requires.within c.index_mut-link.ensures.value c.send.ensures.unfailed
