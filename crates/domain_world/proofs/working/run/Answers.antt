use Rattle.std.proofs.Common.{refl}
use Rattle.domain_world.specs.declared.working.Batch.{Batch}
use Rattle.domain_world.proofs.Running.{all_back, all_ran}
use Rattle.domain_world.proofs.working.run.Goals as goal

pub returns-clause-back : goal.returns-clause-back
returns-clause-back g c =
    let b : Batch = record { first = 0; aps = c.args.aps; pass = c.args.pass } in
    all_back (g.W.Acts.domain c.args.round.now) (g.W.Acts.turns c.args.round.now) b c.run_batch.result refl c.run_batch.ensures.ran

pub returns-clause-worked : goal.returns-clause-worked
returns-clause-worked g c =
    let b : Batch = record { first = 0; aps = c.args.aps; pass = c.args.pass } in
    all_ran (g.W.Acts.domain c.args.round.now) (g.W.Acts.turns c.args.round.now) b c.run_batch.result refl c.run_batch.ensures.ran
