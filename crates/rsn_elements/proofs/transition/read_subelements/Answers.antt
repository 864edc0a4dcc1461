use Rattle.std.proofs.Common.{ℕ, List, ap, ◌∙◌, ◌∷◌, [], ◌++◌, length, arith}
use Rattle.std.proofs.lemmas.Grind.{common_steps}
use Rattle.std.proofs.lemmas.List.{length-append}
use Rattle.rsn_elements.specs.Framing.{element_octets, joined}
use Rattle.rsn_elements.specs.Fields.{element_of}
use Rattle.rsn_elements.specs.Transition.{IsRight}
use Rattle.rsn_elements.proofs.Cuts.{cut_push, cut_place, All-push}
use Rattle.rsn_elements.proofs.transition.read_subelements.Goals as goal

pub loop-rest-preserved : goal.loop-rest-preserved
loop-rest-preserved c =
    let es = c.loop-rest.invariant.0 in
    let past = c.loop-rest.invariant.1 in
    let e = element_of c.in-Some.subelement in
    let next = cut_push c.args.octets.now es c.loop-rest.rest.now e c.in-Some.behind.now past.cut c.in-Some.ensures.0 in
    let here = past.cut ∙ ap (λ (w : List ℕ). joined es ++ w) c.in-Some.ensures.0 in (
      es ++ e ∷ [],
      record {
        cut = next;
        right = All-push IsRight es e past.right c.in-Some.ensures.1;
        reached = c.take.ensures c.args.octets.now es c.in-Some.behind.now here (cut_place _ _ _ past.cut) past.reached;
      },
    )

pub returns : goal.returns
returns c = grind (arith, common_steps)

pub loop-rest-smaller : goal.loop-rest-smaller
loop-rest-smaller c = omega (arith, ap length c.in-Some.ensures.0, length-append (element_octets (element_of c.in-Some.subelement)) c.in-Some.behind.now)

pub overflow_sub-place : goal.overflow_sub-place
overflow_sub-place c = omega (arith, ap length c.loop-rest.invariant.1.cut, length-append (joined c.loop-rest.invariant.0) c.loop-rest.rest.now)

pub returns-in_default : goal.returns-in_default
returns-in_default c =
    let es = c.loop-rest.invariant.0 in
    let past = c.loop-rest.invariant.1 in
    record { before = es; rest = c.loop-rest.rest.now; cut = past.cut; right = past.right; at = cut_place _ _ _ past.cut; some = λ e. grind (arith, e); wrong = c.in_default.ensures }
