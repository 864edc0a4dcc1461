use Rattle.frame_script.proofs.lines.take_line.Goals as goal

pub returns-in-Version-clause-takes : goal.returns-in-Version-clause-takes
returns-in-Version-clause-takes c = rw c.in-Version.is (c.take_version-next.ensures.takes c.args.rounds c.args.sizes.now)
