-- What the program promises, which runs over sockets of this machine and with its random source (profile).
use Rattle.std.specs.Prelude.{◌≡◌, ◌⊎◌, ℕ, List, Option, None}
use Rattle.run_journal.specs.declared.acts.Entry.{Entry}
use Rattle.command_words.specs.Words.{command_of}
use Rattle.domain_cli.specs.declared.status.Status.{Status}
use Rattle.domain_cli.specs.declared.status.Status.TheVariants.{Usage, NoMemory}
use Rattle.domain_cli.specs.Promises.{Outside, Promises}

-- what source and sink tell, each with the count of its calls that failed
pub record Streams : Type 0 where
  pub left : Option (List ℕ)
  pub read_faults : ℕ
  pub out : Option (List ℕ)
  pub write_faults : ℕ

-- the four, as they are told
abbrev pub streams : Option (List ℕ) → ℕ → Option (List ℕ) → ℕ → Streams
streams left reads out writes = record { left = left; read_faults = reads; out = out; write_faults = writes }

-- source and sink of an outside
abbrev pub streams_of : Outside → Streams
streams_of o = streams o.left o.read_faults o.out o.write_faults

-- these words were run with that source and sink, and with an air and draws of which no call had failed before and which had given no
-- seed
pub record Ran (words : List (List ℕ)) (old new : Streams) (s : Status) : Type 0 where
  pub first : Outside
  pub last : Outside
  pub entries : List Entry
  pub from : streams_of first ≡ old
  pub to : streams_of last ≡ new
  pub unfailed : (first.link_faults ≡ 0) × (first.draw_faults ≡ 0)
  pub undrawn : first.last ≡ None
  pub promises : Promises (command_of words) first last s entries

-- these words were run, or memory ran out before, and nothing was read or written
abbrev pub OnMachine : List (List ℕ) → Streams → Streams → Status → Type 0
OnMachine words old new s = Ran words old new s ⊎ ((s ≡ NoMemory) × (new ≡ old))

-- some words were run; or they could not be read, or memory ran out before, and nothing was read or written
abbrev pub HasRun : Streams → Streams → Status → Type 0
HasRun old new s = ((words : List (List ℕ)) × Ran words old new s) ⊎ (((s ≡ Usage) ⊎ (s ≡ NoMemory)) × (new ≡ old))
