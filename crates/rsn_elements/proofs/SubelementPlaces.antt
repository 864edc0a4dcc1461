-- A wrong subelement, and a second one, stand within the octets.
use Rattle.std.proofs.Common.{ℕ, ◌≤◌, List, ◌++◌, length, ap, arith}
use Rattle.std.proofs.lemmas.List.{length-append}
use Rattle.rsn_elements.specs.Framing.{element_octets, joined}
use Rattle.rsn_elements.specs.Transition.{HasWrongSubelement, HasRepeatedSubelement}

pub wrong_place : (octets : List ℕ) (place : ℕ) → HasWrongSubelement octets place → place ≤ length octets
wrong_place octets place w = omega (arith, w.at, ap length w.cut, length-append (joined w.before) w.rest)

pub repeated_place : (octets : List ℕ) (place : ℕ) → HasRepeatedSubelement octets place → place ≤ length octets
repeated_place octets place r = omega (arith, r.at, ap length r.cut, length-append (joined r.before) (element_octets r.again ++ r.behind))
