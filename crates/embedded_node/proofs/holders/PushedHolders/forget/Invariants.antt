use Rattle.std.proofs.Common.{◌≡◌, ◌++◌, take, drop}
use Rattle.embedded_node.specs.Pushed.{forgotten}
use Rattle.embedded_node.proofs.holders.PushedHolders.forget.Given as goal

abbrev pub invariant-loop-place : goal.invariant-loop-place
invariant-loop-place l =
    let old = l.initial.self-inside in
    (l.self-inside.own ≡ old.own) × (l.self-inside.others.items ≡ old.others.items)
    × (l.self-inside.pushed.items ≡ forgotten l.sta (take l.place old.pushed.items) ++ drop l.place old.pushed.items)
