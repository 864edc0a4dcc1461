use Rattle.std.proofs.Common.{arith}
use Rattle.std.proofs.Common.{rules, Option, None, ◌≡◌, refl, ap, ◌∙◌, sym, subst, inl, inr}
use Rattle.std.specs.Prelude.{is_some}
use Rattle.std.proofs.lemmas.Bool.{false≢true}
use Rattle.domain_base.specs.Memory.{FaultyAir, PlannedParts, FailsNext, SamePartsForOthers, parts_for}
use Rattle.domain_base.proofs.Plans.{plan_attaches}
use Rattle.std.proofs.lemmas.Grind.{common_steps}
use Rattle.domain_base.proofs.memory_faults.MemAirAir.attach.Goals as goal

pub returns-in-Some-clause-attached : goal.returns-in-Some-clause-attached
returns-in-Some-clause-attached c =
    rw (← c.self.view_is)
    (plan_attaches _ _ _ _ _ _ _ (sym c.take_parts.ensures.parts ∙ c.in-Some.is) c.take_parts.ensures.given c.take_parts.ensures.others (search rules))

pub returns-then-next_fails-clause-fails : goal.returns-then-next_fails-clause-fails
returns-then-next_fails-clause-fails c = (λ _. inl (subst (λ (a : FaultyAir). FailsNext a.calls) c.self.view_is (c.if-next_fails.ensures.fails.0 refl)), λ _. refl)

pub returns-in-None-clause-fails : goal.returns-in-None-clause-fails
returns-in-None-clause-fails c = (λ _. inr (subst (λ (a : FaultyAir). parts_for c.args.node a.plans ≡ None) c.self.view_is (sym c.take_parts.ensures.parts ∙ c.in-None.is)), λ _. refl)

pub returns-in-Some-clause-fails : goal.returns-in-Some-clause-fails
returns-in-Some-clause-fails c = (
  λ e. absurd (false≢true e),
  λ x. elim x [
    | inl f ↦ absurd (false≢true (c.if-next_fails.ensures.fails.1 (subst (λ (a : FaultyAir). FailsNext a.calls) (sym c.self.view_is) f)))
    | inr n ↦ absurd (false≢true (ap (λ (o : Option PlannedParts). is_some o)
        (sym n ∙ (ap (λ (a : FaultyAir). parts_for c.args.node a.plans) (sym c.self.view_is) ∙ (sym c.take_parts.ensures.parts ∙ c.in-Some.is)))))
  ],
)

pub returns-in-Some-clause-others : goal.returns-in-Some-clause-others
returns-in-Some-clause-others c = subst (λ (a : FaultyAir). SamePartsForOthers c.args.node a.plans c.take_parts.new.plans.items) c.self.view_is c.take_parts.ensures.others

pub returns-in-Some-clause-planned : goal.returns-in-Some-clause-planned
returns-in-Some-clause-planned c = grind (arith, common_steps)
