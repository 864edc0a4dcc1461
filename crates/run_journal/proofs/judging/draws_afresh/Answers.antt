use Rattle.std.proofs.Common.{sym}
use Rattle.run_journal.proofs.Found.{afresh}
use Rattle.run_journal.proofs.judging.draws_afresh.Goals as goal

pub returns-in-Some : goal.returns-in-Some
returns-in-Some c = afresh c.args.entries.now c.args.entry.now.act c.in-Some.octets.now c.find.result c.is_none.result c.is_none.ensures (sym c.in-Some.ensures) c.find.ensures
