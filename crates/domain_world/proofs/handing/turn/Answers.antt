use Rattle.node_base.specs.Events.{event_of}
use Rattle.holder_table.specs.Histories.{held_at}
use Rattle.domain_world.proofs.Pulled.{turned_by}
use Rattle.domain_world.proofs.Stilled.{still_ap, still_others}
use Rattle.domain_world.proofs.handing.turn.Goals as goal

pub returns-clause-turned : goal.returns-clause-turned
returns-clause-turned c =
    let d = c.args.domain.now in
    let event = event_of c.args.event.now in
    let ap = c.args.ap.now in
    let old = c.args.holders.now in
    let new = c.step_ap.new.holders in
    let steps = still_ap d event ap c.step_ap.new.ap (held_at ap.number old.pass.knows.seen) (held_at ap.number new.pass.knows.seen) c.args.out.now.acts c.step_ap.new.out.acts c.in_ok-step_ap.field-0 c.requires.still c.in_ok-step_ap.ensures.steps in
    let others = still_others event ap.number old.table.now.ids new.table.now.ids old.pass.knows.has new.pass.knows.has (λ r. held_at r old.pass.knows.seen) (λ r. held_at r new.pass.knows.seen) c.requires.still c.step_ap.ensures.others c.step_ap.ensures.one in
    turned_by d event ap c.step_ap.new.ap old.table.now new.table.now old.pass new.pass c.args.out.now.acts c.step_ap.new.out.acts c.in_ok-step_ap.field-0 c.requires.ids c.requires.has c.requires.waiting steps c.in_ok-step_ap.ensures.looks others c.step_ap.ensures.no_less
