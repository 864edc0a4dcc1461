use Rattle.std.proofs.Common.{arith}
use Rattle.air_frame.proofs.ByNumber.{at_neither}
use Rattle.std.proofs.lemmas.Grind.{common_steps}
use Rattle.air_frame.proofs.reading.authentication.Goals as goal

pub returns-in-2-eq1 : goal.returns-in-2-eq1
returns-in-2-eq1 c = grind (arith, common_steps)

pub returns-in_default : goal.returns-in_default
returns-in_default c =
    at_neither c.args.octets.now (λ ft one. omega (arith, ft, one, c.little_u16_at-2.ensures, c.little_u16_at-3.ensures)) (λ ft two. omega (arith, ft, two, c.little_u16_at-2.ensures, c.little_u16_at-3.ensures))

pub returns-in-2-eq2 : goal.returns-in-2-eq2
returns-in-2-eq2 c = grind (arith, common_steps)
