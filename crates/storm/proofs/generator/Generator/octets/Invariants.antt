use Rattle.storm.proofs.Octets.{Fills}
use Rattle.storm.proofs.generator.Generator.octets.Given as goal

-- the octets before this place are drawn
abbrev pub invariant-loop-place : goal.invariant-loop-place
invariant-loop-place l = Fills l.initial.self l.place l.out l.self
