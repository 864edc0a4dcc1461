use Rattle.transition_acts.proofs.Chaining.{begun}
use Rattle.transition_acts.proofs.turning.add_attempt.Goals as goal

pub returns-clause-acts : goal.returns-clause-acts
returns-clause-acts c part had = begun _ _ _ _ _ _ _ (c.add_closed.ensures.acts part had) c.add.ensures.acts c.add-2.ensures.acts
