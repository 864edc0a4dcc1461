use Rattle.std.proofs.Common.{ℕ, refl, ap}
use Rattle.link_steps.specs.declared.steps.LinkAnswer.TheVariants.{Asked}
use Rattle.holder_link.specs.Acts.{Asks, AsksTooMany}
use Rattle.holder_link.proofs.ends.Ends.ask.Goals as goal

pub returns-in-Ok-clause-acts : goal.returns-in-Ok-clause-acts
returns-in-Ok-clause-acts c = Asks c.args.question.now c.args.nonce.now refl (ap (λ (n : ℕ). Asked n) c.asked-n.ensures) c.in-Ok.ensures.room c.in-Ok.ensures.written

pub returns-in-Err-clause-acts : goal.returns-in-Err-clause-acts
returns-in-Err-clause-acts c = AsksTooMany c.args.question.now c.args.nonce.now refl refl (c.in-Err.ensures.full.0 refl) refl
