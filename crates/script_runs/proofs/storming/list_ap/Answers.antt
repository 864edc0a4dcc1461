use Rattle.std.proofs.Common.{rules, ◌≡◌, refl}
use Rattle.script_runs.proofs.Nodes.{ap_form, ap_here, ap_listed, ap_room, front_ap}
use Rattle.script_runs.proofs.storming.list_ap.Goals as goal

pub add_ap-requires-clause-form : goal.add_ap-requires-clause-form
add_ap-requires-clause-form c =
    let a = c.ap_at-ap.result.now in
    let here = ap_here c.args.storm.now.number c.args.place c.args.domain.now a c.requires.network c.requires.few c.ap_at-ap.ensures in
    let same : c.in-Ok.r0kh_id.items ≡ a.r0kh_id = search rules in
    ap_form c.args.storm.now.number c.args.place c.args.world.now c.args.journal.now.entries a _ c.requires.listing here same c.requires.few

pub returns-in-Ok-add_ap-clause-listing : goal.returns-in-Ok-add_ap-clause-listing
returns-in-Ok-add_ap-clause-listing c =
    let a = c.ap_at-ap.result.now in
    let here = ap_here c.args.storm.now.number c.args.place c.args.domain.now a c.requires.network c.requires.few c.ap_at-ap.ensures in
    let same : c.in-Ok.r0kh_id.items ≡ a.r0kh_id = search rules in
    ap_listed c.args.storm.now.number c.args.place c.args.world.now c.add_ap.new.self c.args.journal.now.entries c.add_ap.new.journal.entries a _ c.requires.listing here same
    c.in-Ok-add_ap.ensures.domain c.in-Ok-add_ap.ensures.since c.add_ap.ensures.rounds c.add_ap.ensures.own c.in-Ok-add_ap.ensures.started

pub ap_at-ap-requires : goal.ap_at-ap-requires
ap_at-ap-requires c = ap_room c.args.storm.now.number c.args.place c.args.domain.now c.requires.network c.requires.few

pub returns-in_default-clause-front : goal.returns-in_default-clause-front
returns-in_default-clause-front c = front_ap c.args.storm.now.number c.args.place c.args.world.now c.args.journal.now.entries c.args.journal.now.entries c.requires.listing c.requires.few refl

pub returns-in-Err-clause-front : goal.returns-in-Err-clause-front
returns-in-Err-clause-front c = front_ap c.args.storm.now.number c.args.place c.args.world.now c.args.journal.now.entries c.add_ap.new.journal.entries c.requires.listing c.requires.few c.in-Err.ensures.kept
