use Rattle.domain_cli.proofs.top.run.Goals as goal

pub returns : goal.returns
returns g c = c.run_with.ensures
