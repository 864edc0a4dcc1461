use Rattle.std.proofs.Common.{rules}
use Rattle.ccmp_guard.proofs.guard.Installed.counter.Goals as goal

pub returns-in-Pairwise : goal.returns-in-Pairwise
returns-in-Pairwise c = search rules
