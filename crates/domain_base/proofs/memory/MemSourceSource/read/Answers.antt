use Rattle.std.proofs.Common.{refl, ap, subst}
use Rattle.std.specs.Prelude.{is_err}
use Rattle.std.proofs.lemmas.Bool.{false≢true}
use Rattle.domain_base.specs.Memory.{FailsNext, KeptSource}
use Rattle.domain_base.proofs.Fails.{fails_not, cause_none}
use Rattle.domain_base.proofs.memory.MemSourceSource.read.Goals as goal

pub returns-then-next_fails-clause-fails : goal.returns-then-next_fails-clause-fails
returns-then-next_fails-clause-fails c = (λ _. subst (λ (s : KeptSource). FailsNext s.calls) c.self.view_is (c.if-next_fails.ensures.fails.0 refl), λ _. refl)

pub returns-clause-fails : goal.returns-clause-fails
returns-clause-fails c = fails_not _ c.args.self.now.calls _ (ap (λ (s : KeptSource). s.calls) c.self.view_is) (λ f. false≢true (c.if-next_fails.ensures.fails.1 f)) (ap (λ r. is_err r) c.read.ensures.full)

pub returns-clause-cause : goal.returns-clause-cause
returns-clause-cause c = cause_none _ c.args.self.now.calls _ c.read.result (ap (λ (s : KeptSource). s.calls) c.self.view_is) c.next_fails.ensures.counted (ap (λ r. is_err r) c.read.ensures.full)
