use Rattle.std.proofs.Common.{◌↔◌, length, reverse}
use Rattle.packet_history.specs.Own.{DerivesBefore, SomeIn}
use Rattle.packet_history.proofs.sources.some_derives.Given as goal

abbrev pub invariant-loop-entry : goal.invariant-loop-entry
invariant-loop-entry l = SomeIn (DerivesBefore l.inputs l.later) (reverse l.older) ↔ SomeIn (DerivesBefore l.inputs l.later) (reverse l.entries)

abbrev pub decreases-loop-entry : goal.decreases-loop-entry
decreases-loop-entry l = length l.older
