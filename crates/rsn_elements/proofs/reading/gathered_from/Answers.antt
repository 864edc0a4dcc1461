use Rattle.std.proofs.Common.{◌++◌, ◌∷◌, [], length, ap, sym, subst, arith}
use Rattle.std.proofs.lemmas.List.{length-append}
use Rattle.rsn_elements.specs.declared.faults.ElementFault.{ElementFault}
use Rattle.rsn_elements.specs.Framing.{element_octets, joined}
use Rattle.rsn_elements.specs.Faults.{HasElementFault}
use Rattle.rsn_elements.specs.Fields.{element_of}
use Rattle.rsn_elements.proofs.Walk.{walk_starts, walk_ends, walk_truncated, walk_goes_on, walk_refuses, fault_place, going_front}
use Rattle.rsn_elements.proofs.reading.gathered_from.Goals as goal

pub moved-requires : goal.moved-requires
moved-requires c =
    let es = c.loop-element.invariant.0 in
    let walked = c.loop-element.invariant.1 in
    let e = element_of c.in-Whole.element in
    let first = c.in-Err.ensures.err es walked.gathers in
    let low = fault_place c.args.within es e _ _ first.here in
    omega (arith, low, ap length walked.cut, length-append (joined es) c.loop-element.rest.now, ap length c.in-Whole.ensures.1, length-append (element_octets e) c.in-Whole.behind.now)

pub returns-in-Err-clause-fault : goal.returns-in-Err-clause-fault
returns-in-Err-clause-fault c =
    let es = c.loop-element.invariant.0 in
    let walked = c.loop-element.invariant.1 in
    subst (λ (f : ElementFault). HasElementFault c.args.within c.args.bytes.now f.place f.kind) (sym c.moved.ensures)
    (walk_refuses c.args.within c.args.bytes.now es c.loop-element.rest.now _ (element_of c.in-Whole.element) c.in-Whole.behind.now _ _ walked c.in-Whole.ensures.0 c.in-Whole.ensures.1 (c.in-Err.ensures.err es walked.gathers))

pub loop-element-preserved : goal.loop-element-preserved
loop-element-preserved c =
    let es = c.loop-element.invariant.0 in
    let walked = c.loop-element.invariant.1 in
    let e = element_of c.in-Whole.element in
    (es ++ e ∷ [], walk_goes_on c.args.within c.args.bytes.now es c.loop-element.rest.now _ _ e c.in-Whole.behind.now walked c.in-Whole.ensures.1 (c.in_default.ensures.ok es (going_front c.args.within c.loop-element.rest.now e c.in-Whole.behind.now c.in-Whole.ensures.1 c.in-Whole.ensures.0) walked.gathers))

pub loop-element-init : goal.loop-element-init
loop-element-init c = ([], walk_starts c.args.within c.args.bytes.now _ c.nothing-gathered.ensures)

pub returns-in-End-clause-found : goal.returns-in-End-clause-found
returns-in-End-clause-found c =
    walk_ends c.args.within c.args.bytes.now c.loop-element.invariant.0 c.loop-element.rest.now _ c.loop-element.invariant.1 c.in-End.ensures

pub returns-in-Truncated-clause-fault : goal.returns-in-Truncated-clause-fault
returns-in-Truncated-clause-fault c =
    walk_truncated c.args.within c.args.bytes.now c.loop-element.invariant.0 c.loop-element.rest.now _ c.loop-element.invariant.1 c.in-Truncated.ensures.0 c.in-Truncated.ensures.1

pub loop-element-smaller : goal.loop-element-smaller
loop-element-smaller c = omega (arith, ap length c.in-Whole.ensures.1, length-append (element_octets (element_of c.in-Whole.element)) c.in-Whole.behind.now)

pub overflow_sub-place : goal.overflow_sub-place
overflow_sub-place c = omega (arith, ap length c.loop-element.invariant.1.cut, length-append (joined c.loop-element.invariant.0) c.loop-element.rest.now)
