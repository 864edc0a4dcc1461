use Rattle.std.proofs.Common.{refl, ap}
use Rattle.key_hierarchy.specs.declared.answers.RevokeAnswer.{RevokeAnswer}
use Rattle.link_steps.specs.declared.steps.LinkAnswer.TheVariants.{Revoked}
use Rattle.holder_link.specs.Acts.{Revokes}
use Rattle.holder_link.proofs.ends.Ends.revoke.Goals as goal

pub returns-clause-acts : goal.returns-clause-acts
returns-clause-acts c = Revokes c.args.name.now refl (ap (λ (a : RevokeAnswer). Revoked a) c.revoke.ensures.answer) refl
