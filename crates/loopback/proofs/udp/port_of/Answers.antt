use Rattle.std.proofs.Common.{◌≡◌, ◌<◌, ◌≤◌, ◌+◌, ℕ, Option, Some, None, sym, ap, ◌∙◌, arith, rules}
use Rattle.std.specs.Prelude.{MatchOption, SomeIff}
use Rattle.loopback.specs.Ports.{port_at}
use Rattle.loopback.proofs.udp.port_of.Goals as goal

-- a sum that is a port where it fits
placed : (r : Option ℕ) (sum port : ℕ) → SomeIff r (sum < 65536) sum → sum ≡ port → MatchOption r (65536 ≤ port) (λ p. p ≡ port)
placed (Some x) sum port s is = s.1 ∙ is
placed None sum port s is = omega (arith, s, is)

pub returns-in-Ap : goal.returns-in-Ap
returns-in-Ap c = search rules

pub returns-in-Some : goal.returns-in-Some
returns-in-Some c =
    placed c.checked_add-in-Some.result _ _ c.checked_add-in-Some.ensures
    (ap (λ (place : ℕ). c.args.first + place) c.in-Some.ensures.1 ∙ ap (port_at c.args.first c.args.access_points) (sym c.in-Sta.is))
