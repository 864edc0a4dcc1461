use Rattle.script_lines.proofs.events.announce.Goals as goal

pub returns-clause-can : goal.returns-clause-can
returns-clause-can c sizes = (c.in_ok-octets_within.ensures.digits, (c.in-Some.ensures.inside, c.in_ok-octets_within.ensures.few, c.requires.mfp))
