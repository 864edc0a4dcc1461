use Rattle.script_lines.proofs.events.any_event.Goals as goal

pub returns-in-Inject-clause-can : goal.returns-in-Inject-clause-can
returns-in-Inject-clause-can c = c.inject_line.ensures.can c.args.sizes.now

pub returns-in-Send-clause-can : goal.returns-in-Send-clause-can
returns-in-Send-clause-can c = c.send_line.ensures.can c.args.sizes.now

pub returns-in-Announce-clause-can : goal.returns-in-Announce-clause-can
returns-in-Announce-clause-can c = c.announce_line.ensures.can c.args.sizes.now
