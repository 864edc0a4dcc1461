use Rattle.std.proofs.Common.{◌≡◌, reverse, take}
use Rattle.journal_report.specs.Counts.{counts_of}
use Rattle.journal_report.proofs.summary.count_acts.Given as goal

-- the acts so far are counted
abbrev pub invariant-loop-entry : goal.invariant-loop-entry
invariant-loop-entry l = l.counts ≡ counts_of (reverse (take l.entry-index l.entries))
