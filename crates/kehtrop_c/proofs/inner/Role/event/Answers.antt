use Rattle.std.proofs.Common.{sym, subst}
use Rattle.node_base.specs.Events.{event_of}
use Rattle.kehtrop_c.specs.declared.inner.Role.{Role}
use Rattle.kehtrop_c.specs.declared.inner.Role.TheVariants.{Station, Ap}
use Rattle.kehtrop_c.specs.Going.{Became}
use Rattle.kehtrop_c.proofs.Gone.{station_became, ap_became}
use Rattle.kehtrop_c.proofs.inner.Role.event.Goals as goal

pub returns-in-Station : goal.returns-in-Station
returns-in-Station c =
    let e = c.event in
    subst (λ (r : Role). Became r (Station e.new.self) (event_of c.args.event.now) c.status_of.result) (sym c.in-Station.is)
    (station_became e.result (event_of c.args.event.now) c.in-Station.station e.new.self c.status_of.result c.status_of.ensures e.ensures.domain e.ensures.steps e.ensures.cause e.ensures.same)

pub returns-in-Ap : goal.returns-in-Ap
returns-in-Ap c =
    let e = c.event-in-Ap in
    subst (λ (r : Role). Became r (Ap e.new.self) (event_of c.args.event.now) c.status_of-in-Ap.result) (sym c.in-Ap.is)
    (ap_became e.result (event_of c.args.event.now) c.in-Ap.ap e.new.self c.status_of-in-Ap.result c.status_of-in-Ap.ensures e.ensures.domain e.ensures.same_domain e.ensures.steps e.ensures.cause e.ensures.same e.ensures.same_rows e.ensures.kept
    e.ensures.looks e.ensures.pushed e.ensures.same_pushed)
