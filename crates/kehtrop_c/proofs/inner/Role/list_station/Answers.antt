use Rattle.std.proofs.Common.{sym, subst}
use Rattle.run_journal.specs.Listing.{with_sta}
use Rattle.kehtrop_c.specs.declared.inner.Role.{Role}
use Rattle.kehtrop_c.specs.declared.inner.Role.TheVariants.{Ap}
use Rattle.kehtrop_c.specs.Going.{Listed, network, sta_unlisted}
use Rattle.kehtrop_c.proofs.Gone.{ap_listed, station_lists_no_station}
use Rattle.kehtrop_c.proofs.inner.Role.list_station.Goals as goal

pub returns-in-Station : goal.returns-in-Station
returns-in-Station c = station_lists_no_station _ _ c.args.address c.args.psk.now c.in-Station.is

pub returns-in-Ap : goal.returns-in-Ap
returns-in-Ap c =
    let l = c.list_station in let address = c.args.address in let psk = c.args.psk.now in
    subst (λ (r : Role). Listed r (Ap l.new.self) (with_sta (network r) address psk) (sta_unlisted r address) c.status_listed.result) (sym c.in-Ap.is)
    (ap_listed l.result c.in-Ap.ap l.new.self address psk c.status_listed.result c.status_listed.ensures l.ensures.acts l.ensures.stands l.ensures.network l.ensures.pushed l.ensures.cause l.ensures.same)
