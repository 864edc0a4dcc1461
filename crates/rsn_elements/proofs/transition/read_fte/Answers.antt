use Rattle.std.proofs.Common.{length, ap, arith}
use Rattle.std.proofs.lemmas.List.{length-drop}
use Rattle.std.proofs.lemmas.Grind.{common_steps}
use Rattle.rsn_elements.proofs.Subelements.{at_value}
use Rattle.rsn_elements.proofs.SubelementPlaces.{wrong_place, repeated_place}
use Rattle.rsn_elements.proofs.transition.read_fte.Goals as goal

pub overflow_add-result : goal.overflow_add-result
overflow_add-result c = omega (arith, wrong_place _ _ c.in-Err.ensures, ap length c.split_at.ensures.back, length-drop 82 c.args.body.now)

pub overflow_add-repeated : goal.overflow_add-repeated
overflow_add-repeated c = omega (arith, repeated_place _ _ (at_value _ _ _ _ c.in-Some.is c.in-Ok.ensures.1), ap length c.split_at.ensures.back, length-drop 82 c.args.body.now)

pub returns : goal.returns
returns c = grind (arith, common_steps)
