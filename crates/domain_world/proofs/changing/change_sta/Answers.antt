use Rattle.std.proofs.Common.{ℕ, List, true≢false, sym, subst}
use Rattle.run_journal.specs.declared.acts.Act.{Act}
use Rattle.domain_base.specs.declared.names.Node.TheVariants.{Sta}
use Rattle.domain_rules.specs.Here.{here}
use Rattle.domain_rules.specs.Rows.{NodeEvent}
use Rattle.node_base.specs.Changing.{after, HasRoomFor}
use Rattle.node_base.specs.Events.{IsEventAt, Steps, seen}
use Rattle.station_node.specs.Stands.{Stands as StationStands}
use Rattle.domain_world.specs.Changing.{change_of}
use Rattle.domain_world.proofs.ChangingNodes.{station_by_step}
use Rattle.domain_world.proofs.changing.change_sta.Goals as goal

pub step_station-requires-clause-event : goal.step_station-requires-clause-event
step_station-requires-clause-event c = subst (IsEventAt c.args.change.domain.now (Sta c.args.station.now.number)) (sym c.secret_of-event.ensures) c.requires.sta

-- there is room
pub unreachable-requires : goal.unreachable-requires
unreachable-requires c = true≢false (sym (c.in-Err.ensures.always (subst (λ (e : NodeEvent). HasRoomFor c.args.change.domain.now e c.args.out.now.spare) (sym c.secret_of-event.ensures) c.requires.room)))

pub returns-clause-changed : goal.returns-clause-changed
returns-clause-changed c =
    let d = c.args.change.domain.now in
    let s = c.args.station.now in
    station_by_step d (change_of c.args.change) s c.step_station.new.station c.args.out.now.acts c.step_station.new.out.acts c.in-Ok.field-0 c.requires.waiting
    (subst (λ (e : NodeEvent). (first : ℕ) (h : List Act) → StationStands d first s h → Steps (here d first (Sta s.number)) e (StationStands (after d e) first c.step_station.new.station) h (seen c.args.out.now.acts c.step_station.new.out.acts c.in-Ok.field-0)) c.secret_of-event.ensures
    c.in-Ok.ensures.steps)

pub returns-clause-spare : goal.returns-clause-spare
returns-clause-spare c = c.in-Ok.ensures.spare (subst (λ (e : NodeEvent). HasRoomFor c.args.change.domain.now e c.args.out.now.spare) (sym c.secret_of-event.ensures) c.requires.room)
