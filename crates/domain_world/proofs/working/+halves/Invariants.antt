use Rattle.std.proofs.Common.{◌+◌, ◌*◌, length}
use Rattle.domain_world.proofs.working.+halves.Given as goal

abbrev pub decreases-run_batch : goal.decreases-run_batch
decreases-run_batch g l = 4 * length l.batch.aps.items + 1

abbrev pub decreases-both_halves : goal.decreases-both_halves
decreases-both_halves g l = 4 * (length l.front.aps.items + length l.back.aps.items)

abbrev pub decreases-both_halves-join+arg2 : goal.decreases-both_halves-join+arg2
decreases-both_halves-join+arg2 g l = 4 * length l.front.aps.items + 2

abbrev pub decreases-both_halves-join+arg3 : goal.decreases-both_halves-join+arg3
decreases-both_halves-join+arg3 g l = 4 * length l.back.aps.items + 2
