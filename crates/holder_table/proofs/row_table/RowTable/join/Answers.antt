use Rattle.std.proofs.Common.{◌≡◌, ap, subst, ◌∙◌, arith}
use Rattle.holder_table.specs.declared.view.View.{View}
use Rattle.holder_table.specs.Knowledge.{TookIn}
use Rattle.holder_table.specs.Steps.{Sees, united}
use Rattle.holder_table.proofs.Passes.{joins}
use Rattle.holder_table.proofs.Loads.{settles}
use Rattle.holder_table.proofs.Lasting.{settled_lasts}
use Rattle.holder_table.proofs.row_table.RowTable.join.Goals as goal

took_in : (v other u w : View) → u ≡ united v other → Sees u w → w.loads ≡ u.loads → TookIn v other w
took_in v other u w is sees loads =
    let s : Sees (united v other) w = subst (λ (x : View). Sees x w) is sees in
    record { seen = s.seen; others_seen = s.told; has = s.has; own = s.own; others = s.brought; loads = loads ∙ ap (λ (x : View). x.loads) is; settled = s.settled.0 }

pub join_seat-requires : goal.join_seat-requires
join_seat-requires c =
    let shared = c.args.self.now.table.shared in
    let size = c.args.self.now.sized in
    let seat = c.args.seat.now in
    (c.requires.pass, c.requires.other_table, c.requires.other_free, omega (arith, size), joins shared.key seat.id seat.me.0 c.args.other.id c.args.other.me.0)

pub load-requires : goal.load-requires
load-requires c =
    let shared = c.args.self.now.table.shared in
    let size = c.args.self.now.sized in
    let seat = c.join_seat.new.seat in
    (c.join_seat.ensures.0 ∙ c.requires.pass, omega (arith, size), settles shared.key shared.table_id.slots seat.id 0 seat.me)

pub returns-clause-took_in : goal.returns-clause-took_in
returns-clause-took_in c = took_in c.args.seat.now.me.0 c.args.other.me.0 c.join_seat.new.seat.me.0 c.load.new.seat.me.0 (ap (λ m. m.0) c.join_seat.ensures.2) c.load.ensures.2.0 c.load.ensures.2.1

pub returns-clause-lasting : goal.returns-clause-lasting
returns-clause-lasting c = settled_lasts c.join_seat.new.seat.me.0 c.load.new.seat.me.0 c.load.ensures.2.0 c.load.ensures.2.1
