use Rattle.std.proofs.Common.{refl, rules}
use Rattle.storm.proofs.Octets.{Fills-none, Fills-step, Fills-octets}
use Rattle.storm.proofs.generator.Generator.octets.Goals as goal

pub loop-place-init : goal.loop-place-init
loop-place-init c = Fills-none _ _ _ refl refl

pub loop-place-preserved : goal.loop-place-preserved
loop-place-preserved c =
    Fills-step _ c.loop-place.place c.loop-place.self _ _ c.loop-place.out c.loop-place.invariant c.octet.ensures.value c.octet.ensures.state (search rules)

pub returns-clause-value : goal.returns-clause-value
returns-clause-value c = Fills-octets _ c.loop-place.place c.loop-place.self c.loop-place.out c.loop-place.invariant (search rules)
