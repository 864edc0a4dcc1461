use Rattle.std.proofs.Common.{◌≡◌, ◌++◌, take, drop}
use Rattle.run_journal.specs.Changed.{rekeyed}
use Rattle.run_journal.proofs.domain.Stas.change_keys.Given as goal

-- those so far have the keys that they have then, and the index is as it was
abbrev pub invariant-loop-place : goal.invariant-loop-place
invariant-loop-place l = record {
  keyed : l.self-inside.listed.items ≡ rekeyed l.sta l.psk 0 (take l.place l.initial.self-inside.listed.items) ++ drop l.place l.initial.self-inside.listed.items;
  places : l.self-inside.places ≡ l.initial.self-inside.places;
}
