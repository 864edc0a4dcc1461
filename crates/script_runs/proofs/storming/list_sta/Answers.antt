use Rattle.script_runs.proofs.Nodes.{sta_form, sta_here, sta_listed, sta_room, front_sta}
use Rattle.script_runs.proofs.storming.list_sta.Goals as goal

pub add_station-requires-clause-form : goal.add_station-requires-clause-form
add_station-requires-clause-form c =
    let here = sta_here c.args.storm.now.number c.args.place c.args.domain.now c.sta_at-sta.result c.requires.network c.requires.few c.sta_at-sta.ensures in
    sta_form c.args.storm.now.number c.args.place c.args.world.now c.args.journal.now.entries c.sta_at-sta.result c.requires.listing here c.requires.few

pub returns-in-Ok-clause-listing : goal.returns-in-Ok-clause-listing
returns-in-Ok-clause-listing c =
    let j = c.args.journal.now.entries in
    let here = sta_here c.args.storm.now.number c.args.place c.args.domain.now c.sta_at-sta.result c.requires.network c.requires.few c.sta_at-sta.ensures in
    sta_listed c.args.storm.now.number c.args.place c.args.world.now c.add_station.new.self j c.sta_at-sta.result c.requires.listing here
    c.in-Ok.ensures.domain (λ d since. c.in-Ok.ensures.since d j c.requires.listing.own since) c.add_station.ensures.rounds (c.add_station.ensures.own j c.requires.listing.own) (c.in-Ok.ensures.started j)

pub sta_at-sta-requires : goal.sta_at-sta-requires
sta_at-sta-requires c = sta_room c.args.storm.now.number c.args.place c.args.domain.now c.requires.network c.requires.few

pub returns-in-Err-clause-front : goal.returns-in-Err-clause-front
returns-in-Err-clause-front c = front_sta c.args.storm.now.number c.args.place c.args.world.now c.args.journal.now.entries c.requires.listing c.requires.few
