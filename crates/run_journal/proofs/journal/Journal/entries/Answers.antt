use Rattle.std.proofs.Common.{ap, ◌∙◌}
use Rattle.run_journal.specs.Kept.{Kept}
use Rattle.run_journal.proofs.Reversed.{in_order}
use Rattle.run_journal.proofs.journal.Journal.entries.Goals as goal

pub returns : goal.returns
returns c = c.as_slice.ensures.value ∙ in_order c.self.inside.entries.items c.args.self.now.entries (ap (λ (v : Kept). v.entries) c.self.view_is)
