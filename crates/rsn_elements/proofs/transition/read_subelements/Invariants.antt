use Rattle.std.proofs.Common.{List, length}
use Rattle.rsn_elements.specs.Framing.{Element}
use Rattle.rsn_elements.proofs.Subelements.{Past}
use Rattle.rsn_elements.proofs.transition.read_subelements.Given as goal

-- the octets are subelements of right lengths up to the rest
abbrev pub invariant-loop-rest : goal.invariant-loop-rest
invariant-loop-rest l = (es : List Element) × Past l.octets es l.rest l.found

abbrev pub decreases-loop-rest : goal.decreases-loop-rest
decreases-loop-rest l = length l.rest
