use Rattle.script_runs.proofs.Writings.{longer_event}
use Rattle.script_runs.proofs.session.Session.event.Goals as goal

pub round_end-requires : goal.round_end-requires
round_end-requires g c = longer_event c.args.self.now.world c.args.event.now _ _ _ c.requires.own c.in-Ok.ensures.step c.requires.written
