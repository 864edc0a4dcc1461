use Rattle.std.proofs.Common.{List, length}
use Rattle.rsn_elements.specs.Framing.{Element}
use Rattle.rsn_elements.proofs.Walk.{Walked}
use Rattle.rsn_elements.proofs.reading.gathered_from.Given as goal

-- the octets are elements up to the rest, and what they say is kept
abbrev pub invariant-loop-element : goal.invariant-loop-element
invariant-loop-element l = (es : List Element) × Walked l.within l.bytes es l.rest l.gathered

abbrev pub decreases-loop-element : goal.decreases-loop-element
decreases-loop-element l = length l.rest
