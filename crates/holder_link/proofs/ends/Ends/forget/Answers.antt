use Rattle.std.proofs.Common.{refl, ap}
use Rattle.link_steps.specs.declared.questions.Forgetting.{Forgetting}
use Rattle.link_steps.specs.declared.steps.LinkAnswer.TheVariants.{Closed}
use Rattle.holder_link.specs.Acts.{Forgets}
use Rattle.holder_link.proofs.ends.Ends.forget.Goals as goal

pub returns-clause-acts : goal.returns-clause-acts
returns-clause-acts c = Forgets c.args.n refl (ap (λ (f : Forgetting). Closed f) c.forget.ensures.answer) refl
