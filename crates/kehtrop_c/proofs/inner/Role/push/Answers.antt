use Rattle.std.proofs.Common.{sym, subst}
use Rattle.kehtrop_c.specs.declared.inner.Role.{Role}
use Rattle.kehtrop_c.specs.declared.inner.Role.TheVariants.{Ap}
use Rattle.kehtrop_c.specs.Going.{Pushed}
use Rattle.kehtrop_c.proofs.Gone.{was_pushed, station_takes_none}
use Rattle.kehtrop_c.proofs.inner.Role.push.Goals as goal

pub returns-in-Station : goal.returns-in-Station
returns-in-Station c = station_takes_none _ _ c.args.r0kh_id.now c.args.key.now c.in-Station.is

pub returns-in-Ap : goal.returns-in-Ap
returns-in-Ap c =
    let p = c.push in let id = c.args.r0kh_id.now in let k = c.args.key.now in
    subst (λ (r : Role). Pushed r (Ap p.new.self) id k c.status_listed.result) (sym c.in-Ap.is)
    (was_pushed p.result c.in-Ap.ap p.new.self id k c.status_listed.result c.status_listed.ensures p.ensures.domain p.ensures.node p.ensures.acts p.ensures.given p.ensures.fit p.ensures.cause p.ensures.same)
