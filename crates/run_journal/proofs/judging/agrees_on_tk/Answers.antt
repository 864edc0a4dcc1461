use Rattle.std.proofs.Common.{sym}
use Rattle.run_journal.specs.Looking.{temporal_key}
use Rattle.run_journal.proofs.Found.{agreed}
use Rattle.run_journal.proofs.judging.agrees_on_tk.Goals as goal

pub returns-in-Some : goal.returns-in-Some
returns-in-Some c = agreed temporal_key c.args.entries.now c.args.entry.now c.in-Some.key.now c.find-place.result c.agrees_at.result (sym c.in-Some.ensures) c.find-place.ensures c.agrees_at.ensures
