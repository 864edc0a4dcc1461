use Rattle.std.proofs.Common.{refl, arith}
use Rattle.holder_table.specs.Histories.{live}
use Rattle.holder_table.proofs.Stores.{revokes}
use Rattle.holder_table.proofs.row_table.RowTable.end_row.Goals as goal

pub fetch_or-requires : goal.fetch_or-requires
fetch_or-requires c =
    let shared = c.args.self.now.table.shared in
    let size = c.args.self.now.sized in
    let seat = c.args.seat.now in
    let there = c.requires.there in
    (c.requires.pass, omega (arith, size, c.requires.ap, c.requires.place), revokes shared.key shared.table_id.slots seat.id _ c.args.ap c.args.place (live there.0) seat.me c.requires.place c.requires.has there.1 refl)

pub returns-clause-pass : goal.returns-clause-pass
returns-clause-pass c = (c.fetch_or.ensures.0, (c.fetch_or.ensures.2 c.args.ap c.args.place c.requires.place refl).1)

pub returns-clause-adds : goal.returns-clause-adds
returns-clause-adds c = (c.fetch_or.ensures.2 c.args.ap c.args.place c.requires.place refl).0
