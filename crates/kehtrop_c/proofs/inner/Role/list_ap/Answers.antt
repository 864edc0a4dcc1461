use Rattle.std.proofs.Common.{sym, subst}
use Rattle.run_journal.specs.Listing.{with_ap}
use Rattle.kehtrop_c.specs.declared.inner.Role.{Role}
use Rattle.kehtrop_c.specs.declared.inner.Role.TheVariants.{Station, Ap}
use Rattle.kehtrop_c.specs.Going.{Listed, network, ap_unlisted}
use Rattle.kehtrop_c.proofs.Gone.{station_listed, other_listed}
use Rattle.kehtrop_c.proofs.inner.Role.list_ap.Goals as goal

pub returns-in-Station : goal.returns-in-Station
returns-in-Station c =
    let l = c.list_ap in let address = c.args.address in let id = c.args.r0kh_id.now in
    subst (λ (r : Role). Listed r (Station l.new.self) (with_ap (network r) address id) (ap_unlisted r address id) c.status_listed.result) (sym c.in-Station.is)
    (station_listed l.result c.in-Station.station l.new.self address id c.status_listed.result c.status_listed.ensures l.ensures.acts l.ensures.stands l.ensures.network l.ensures.cause l.ensures.same)

pub returns-in-Ap : goal.returns-in-Ap
returns-in-Ap c =
    let l = c.list_ap-in-Ap in let address = c.args.address in let id = c.args.r0kh_id.now in
    subst (λ (r : Role). Listed r (Ap l.new.self) (with_ap (network r) address id) (ap_unlisted r address id) c.status_listed-in-Ap.result) (sym c.in-Ap.is)
    (other_listed l.result c.in-Ap.ap l.new.self address id c.status_listed-in-Ap.result c.status_listed-in-Ap.ensures l.ensures.acts l.ensures.stands l.ensures.network l.ensures.pushed l.ensures.cause l.ensures.same)
