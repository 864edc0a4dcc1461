use Rattle.std.proofs.Common.{◌∙◌, ◌++◌, List, ap}
use Rattle.run_journal.specs.declared.acts.Act.{Act}
use Rattle.transition_acts.proofs.Asking.{left_one}
use Rattle.transition_acts.proofs.turning.add_left.Goals as goal

pub returns-clause-acts : goal.returns-clause-acts
returns-clause-acts c = c.add.ensures.acts ∙ ap (λ (l : List Act). c.args.out.now.acts ++ l) (left_one _ _ c.args.left c.args.installed c.in-Some.is c.in-Some-left.is)
