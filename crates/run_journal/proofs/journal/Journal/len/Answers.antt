use Rattle.std.proofs.Common.{ap, arith}
use Rattle.run_journal.specs.Kept.{Kept}
use Rattle.run_journal.proofs.Reversed.{count_of}
use Rattle.run_journal.proofs.journal.Journal.len.Goals as goal

pub returns : goal.returns
returns c =
    let count = count_of c.self.inside.entries.items c.args.self.now.entries (ap (λ (v : Kept). v.entries) c.self.view_is) in
    omega (arith, c.len.ensures, count)
