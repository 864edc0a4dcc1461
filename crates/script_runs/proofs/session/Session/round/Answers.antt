use Rattle.script_runs.proofs.Writings.{longer_round}
use Rattle.script_runs.proofs.session.Session.round.Goals as goal

pub round_end-requires : goal.round_end-requires
round_end-requires g c = longer_round c.args.self.now.world c.args.events.now _ _ _ c.requires.own c.in-Ok.ensures.steps c.requires.written
