use Rattle.std.proofs.Common.{sym, subst}
use Rattle.kehtrop_c.specs.declared.inner.Role.{Role}
use Rattle.kehtrop_c.specs.declared.inner.Role.TheVariants.{Station, Ap}
use Rattle.kehtrop_c.specs.Going.{Tells}
use Rattle.kehtrop_c.proofs.Gone.{station_tells, ap_tells}
use Rattle.kehtrop_c.proofs.inner.Role.next.Goals as goal

pub returns-in-Station : goal.returns-in-Station
returns-in-Station c =
    let n = c.next in
    subst (λ (r : Role). Tells r (Station n.new.self) n.result) (sym c.in-Station.is)
    (station_tells c.in-Station.station n.new.self n.result n.ensures.domain n.ensures.node n.ensures.acts)

pub returns-in-Ap : goal.returns-in-Ap
returns-in-Ap c =
    let n = c.next-in-Ap in
    subst (λ (r : Role). Tells r (Ap n.new.self) n.result) (sym c.in-Ap.is)
    (ap_tells c.in-Ap.ap n.new.self n.result n.ensures.domain n.ensures.node n.ensures.holders n.ensures.acts)
