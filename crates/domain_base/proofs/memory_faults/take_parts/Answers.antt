use Rattle.std.proofs.Common.{◌≡◌, ℕ, Option, position, sym, ap, ◌∙◌, List}
use Rattle.domain_base.proofs.Plans.{parts_for-found, parts_for-none, parts_for-taken, parts_for-others, parts_for-same}
use Rattle.domain_base.specs.Memory.{PlannedLink, is_plan_of}
use Rattle.domain_base.specs.declared.names.Node.{Node}
use Rattle.domain_base.proofs.memory_faults.take_parts.Goals as goal

-- the place found in the list that was lent
place : (node : Node) (plans lent : List PlannedLink) (found seen : Option ℕ) → lent ≡ plans → found ≡ position (is_plan_of node) lent → found ≡ seen → position (is_plan_of node) plans ≡ seen
place node plans lent found seen e f s = ap (λ (l : List PlannedLink). position (is_plan_of node) l) (sym e) ∙ sym f ∙ s

pub returns-in-Some-clause-parts : goal.returns-in-Some-clause-parts
returns-in-Some-clause-parts c =
    let at = place _ _ _ _ _ c.deref.ensures.value c.plan_of.ensures c.in-Some.is in
    c.take.ensures.parts ∙ ap (λ (p : PlannedLink). p.parts) c.index_mut.ensures.value ∙ sym (parts_for-found _ _ _ c.index_mut.result.now at)

pub returns-in-Some-clause-given : goal.returns-in-Some-clause-given
returns-in-Some-clause-given c =
    rw c.take.ensures.rest
    (parts_for-taken _ _ _ _ (place _ _ _ _ _ c.deref.ensures.value c.plan_of.ensures c.in-Some.is) c.index_mut.ensures.value)

pub returns-in-Some-clause-others : goal.returns-in-Some-clause-others
returns-in-Some-clause-others c other apart =
    rw c.take.ensures.rest
    (parts_for-others _ _ _ _ _ apart (place _ _ _ _ _ c.deref.ensures.value c.plan_of.ensures c.in-Some.is) c.index_mut.ensures.value)

pub returns-in-Some-clause-same : goal.returns-in-Some-clause-same
returns-in-Some-clause-same c none =
    rw c.take.ensures.rest
    (parts_for-same _ _ _ c.index_mut.ensures.value (sym c.take.ensures.parts ∙ none))

pub returns-in-None-clause-parts : goal.returns-in-None-clause-parts
returns-in-None-clause-parts c =
    sym (parts_for-none c.args.node c.args.plans.now.items (place _ _ _ _ _ c.deref.ensures.value c.plan_of.ensures c.in-None.is))

pub returns-in-None-clause-given : goal.returns-in-None-clause-given
returns-in-None-clause-given c = parts_for-none c.args.node c.args.plans.now.items (place _ _ _ _ _ c.deref.ensures.value c.plan_of.ensures c.in-None.is)
