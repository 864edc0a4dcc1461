use Rattle.std.proofs.Common.{suc, length}
use Rattle.domain_world.proofs.Frames.{comes_changed}
use Rattle.domain_world.proofs.Turning.{comes_there}
use Rattle.domain_world.proofs.world.World.comes.Goals as goal

pub returns-in-Alter-clause-happens : goal.returns-in-Alter-clause-happens
returns-in-Alter-clause-happens c = comes_changed c.args.event.now c.args.journal.now.entries (suc c.args.self.now.rounds) c.in-Alter.number c.in-Alter.place c.in-Alter.mask c.in-Alter.to c.args.changed.now c.in-Alter.is c.requires.changed

pub returns-in-Deliver-clause-there : goal.returns-in-Deliver-clause-there
returns-in-Deliver-clause-there c =
    comes_there c.args.self.now.domain (length c.args.self.now.frames) c.args.journal.now.entries c.args.event.now _ c.requires.event

pub returns-in-Alter-clause-there : goal.returns-in-Alter-clause-there
returns-in-Alter-clause-there c =
    comes_there c.args.self.now.domain (length c.args.self.now.frames) c.args.journal.now.entries c.args.event.now _ c.requires.event

pub returns-in-Cut-clause-there : goal.returns-in-Cut-clause-there
returns-in-Cut-clause-there c =
    comes_there c.args.self.now.domain (length c.args.self.now.frames) c.args.journal.now.entries c.args.event.now _ c.requires.event

pub returns-in-Inject-clause-there : goal.returns-in-Inject-clause-there
returns-in-Inject-clause-there c =
    comes_there c.args.self.now.domain (length c.args.self.now.frames) c.args.journal.now.entries c.args.event.now _ c.requires.event

pub returns-in_default-clause-there : goal.returns-in_default-clause-there
returns-in_default-clause-there c =
    comes_there c.args.self.now.domain (length c.args.self.now.frames) c.args.journal.now.entries c.args.event.now _ c.requires.event
