use Rattle.std.proofs.Common.{refl, arith}
use Rattle.script_runs.proofs.Courses.{event_can, under_way_front, under_way_more}
use Rattle.script_runs.proofs.storming.one_event.Goals as goal

pub returns-in_default-clause-front : goal.returns-in_default-clause-front
returns-in_default-clause-front c =
    under_way_front c.args.storm.now c.args.world.now c.args.journal.now.entries c.args.journal.now.entries c.requires.under_way (omega (arith, c.requires.few)) refl

pub event-requires-2-clause-event : goal.event-requires-2-clause-event
event-requires-2-clause-event c =
    event_can c.args.storm.now c.args.world.now c.args.journal.now.entries c.in-Ok.event c.requires.under_way c.in-Ok.ensures.event

pub returns-in-Ok-event-clause-under_way : goal.returns-in-Ok-event-clause-under_way
returns-in-Ok-event-clause-under_way c =
    under_way_more c.args.storm.now c.event.new.self c.args.world.now c.event-2.new.self c.in-Ok.event c.args.journal.now.entries c.event-2.new.journal.entries c.requires.under_way c.in-Ok.ensures.event c.in-Ok.ensures.state c.in-Ok.ensures.seen c.event.ensures.number
    c.in-Ok-event.ensures.step c.in-Ok-event.ensures.rounds c.in-Ok-event.ensures.domain c.event-2.ensures.since c.event-2.ensures.own

pub returns-clause-front : goal.returns-clause-front
returns-clause-front c =
    under_way_front c.args.storm.now c.args.world.now c.args.journal.now.entries c.event-2.new.journal.entries c.requires.under_way (omega (arith, c.requires.few)) c.in-Err.ensures.kept
