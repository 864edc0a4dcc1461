use Rattle.std.proofs.Common.{◌++◌, ap, ◌∙◌}
use Rattle.data_frames.specs.Taking.{refusal}
use Rattle.data_frames.proofs.handing_up.add_refused.Goals as goal

pub returns-clause-acts : goal.returns-clause-acts
returns-clause-acts c = c.add.ensures.acts ∙ ap (λ r. c.args.out.now.acts ++ refusal c.args.from c.args.taken.items r) c.reason.ensures
