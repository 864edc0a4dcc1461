use Rattle.frame_script.proofs.Taking.{protects}
use Rattle.frame_script.proofs.body.take_protection.Goals as goal

pub returns-in-Ok-clause-takes : goal.returns-in-Ok-clause-takes
returns-in-Ok-clause-takes c sizes = protects c.args.header.now _ c.args.rounds sizes _ c.in-Ok.ensures.says c.in-Ok.ensures.can c.add_extra.ensures.told c.add_extra.ensures.listed
