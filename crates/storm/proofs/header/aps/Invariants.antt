use Rattle.std.proofs.Common.{◌≡◌}
use Rattle.storm.specs.Header.{aps_to}
use Rattle.storm.proofs.header.aps.Given as goal

abbrev pub invariant-loop-place : goal.invariant-loop-place
invariant-loop-place l = l.aps.items ≡ aps_to l.place
