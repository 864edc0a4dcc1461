use Rattle.script_runs.proofs.state.draw.Goals as goal

pub returns-in-Ok-clause-drawn : goal.returns-in-Ok-clause-drawn
returns-in-Ok-clause-drawn g c = (c.in-Ok.seed, (c.in-Ok.ensures.given, c.drawn.ensures))

pub returns-in-Ok-clause-unfailed : goal.returns-in-Ok-clause-unfailed
returns-in-Ok-clause-unfailed g c = c.in-Ok.ensures.unfailed
