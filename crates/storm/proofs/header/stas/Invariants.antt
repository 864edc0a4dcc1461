use Rattle.std.proofs.Common.{◌≡◌}
use Rattle.storm.specs.Header.{stas_to}
use Rattle.storm.proofs.header.stas.Given as goal

abbrev pub invariant-loop-place : goal.invariant-loop-place
invariant-loop-place l = l.stas ≡ stas_to l.psk l.place
