-- What a replay of a script in memory comes to (profile).
use Rattle.std.specs.Prelude.{ℕ, List, [], Option, Some}
use Rattle.run_journal.specs.declared.acts.Entry.{Entry}
use Rattle.run_journal.specs.Premises.{Fresh, NoCollision, Unforged}
use Rattle.domain_cli.specs.declared.status.Status.{Status}
use Rattle.domain_cli.specs.declared.status.Status.TheVariants.{Done, Script, Limit, WriteFault, NoMemory}
use Rattle.domain_cli.specs.Safety.{SafeRun}
use Rattle.domain_cli.specs.Story.{Runs}

-- how it ends: no call of a source in memory fails, and no link or draw is asked for
abbrev pub EndsInMemory : Status → Type 0
EndsInMemory Done = Unit {0}
EndsInMemory (Script number reason mistake) = Unit {0}
EndsInMemory (Limit which) = Unit {0}
EndsInMemory WriteFault = Unit {0}
EndsInMemory NoMemory = Unit {0}
EndsInMemory _ = ⊥

-- of that script, how it ended, what it wrote, and its journal
pub record IsReplayed (script : List ℕ) (s : Status) (out : List ℕ) (j : List Entry) : Type 0 where
  pub left : Option (List ℕ)
  pub runs : Runs (Some script) left (Some []) (Some out) s j
  pub ends : EndsInMemory s
  pub safe : Fresh j → NoCollision j → Unforged j → SafeRun j
