use Rattle.kehtrop_c.proofs.Gone.{no_access_point, ap_not_begun, ap_begins}
use Rattle.kehtrop_c.proofs.kehtrop_access_point.Goals as goal

pub returns-in_default : goal.returns-in_default
returns-in_default c = no_access_point c.args.config.now c.args.r0kh_id.now c.args.first_draw _ c.in_default.ensures

pub returns-in-Ok : goal.returns-in-Ok
returns-in-Ok c =
    let e = c.in-Ok.ensures in
    ap_begins c.put_in.result c.args.first_draw c.args.config.now c.args.r0kh_id.now c.in-Some.header c.in-Ok.ap _ _ c.in-Some.ensures
    e.acts e.stands e.network e.holders e.cause c.put_in.ensures

pub returns-in-Err : goal.returns-in-Err
returns-in-Err c =
    ap_not_begun c.status_untaken.result c.args.first_draw c.args.config.now c.args.r0kh_id.now c.in-Some.header c.in-Err.why _ c.in-Some.ensures
    c.in-Err.ensures.cause c.status_untaken.ensures
