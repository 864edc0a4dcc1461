use Rattle.std.proofs.Common.{◌≡◌, ◌++◌, take, drop}
use Rattle.key_holders.specs.Rows.{ended}
use Rattle.key_holders.proofs.holder_rows.HolderRows.end.Given as goal

abbrev pub invariant-loop-place : goal.invariant-loop-place
invariant-loop-place l = l.self-inside.0.items ≡ ended l.name (take l.place l.initial.self-inside.0.items) ++ drop l.place l.initial.self-inside.0.items
