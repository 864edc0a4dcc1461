use Rattle.domain_cli.proofs.program.run_over.Goals as goal

pub returns : goal.returns
returns g c = (c.run.new.journal.entries, c.run.ensures)
