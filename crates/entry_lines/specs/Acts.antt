-- The act of a line, as the code reads it.
-- For the code alone: no public contract speaks of it.
use Rattle.std.specs.Prelude.{ℕ, ◌≡◌, List}
use Rattle.domain_base.specs.declared.names.Node.{Node}
use Rattle.run_journal.specs.declared.acts.Act.{Act}
use Rattle.run_journal.specs.declared.acts.Act.TheVariants as act
use Rattle.entry_lines.specs.declared.names.ActKind.{ActKind}
use Rattle.entry_lines.specs.declared.names.ActKind.TheVariants as acts
use Rattle.run_journal.specs.declared.acts.Entry.{Entry}
use Rattle.entry_lines.specs.Entries.{FitsAct, HasLine, SpellsEntry, bare, bare_act}
use Rattle.entry_lines.specs.Lines.{act_words}
use Rattle.entry_lines.specs.Splitting.{Joins}

-- the kind of an act that has a line
abbrev pub kind_of : Act → ActKind
kind_of (act.Opened p s) = acts.Opened
kind_of (act.Closed p part) = acts.Closed
kind_of (act.Drew v) = acts.Drew
kind_of (act.Derived p i k) = acts.Derived
kind_of (act.Sent p k octets s) = acts.Sent
kind_of (act.Took from octets k o s) = acts.Took
kind_of (act.Installed p key) = acts.Installed
kind_of (act.Resumed p key) = acts.Resumed
kind_of (act.Used p key id n octets) = acts.Used
kind_of (act.HandedUp p key id tid n octets) = acts.HandedUp
kind_of (act.Finished p i) = acts.Finished
kind_of (act.Put x m p answer) = acts.Put
kind_of (act.Looked x m p answer) = acts.Looked
kind_of (act.Revoked x m p answer) = acts.Revoked
kind_of (act.Secret p psk) = acts.Secret
kind_of (act.GaveUp p m) = acts.GaveUp
kind_of (act.Idle y) = acts.Idle
kind_of (act.Link sta s) = acts.Idle

-- an act of that kind that has a line, as its line tells it; and where the text tells an act of that kind at node n, it is that act
pub record ReadsAct (k : ActKind) (n : Node) (text : List ℕ) (read : Act) : Type 0 where
  pub has : HasLine read
  pub is_kind : kind_of read ≡ k
  pub is_bare : bare_act n read ≡ read
  pub same : (number : ℕ) (a : Act) → kind_of a ≡ k → HasLine a → FitsAct a → Joins 32 text (act_words number a) → read ≡ bare_act n a

-- an entry that has a line, as its line tells it; and where the text is the line of an entry, it is that entry
pub record ReadsEntry (text : List ℕ) (read : Entry) : Type 0 where
  pub has : HasLine read.act
  pub is_bare : bare read ≡ read
  pub same : (e : Entry) → SpellsEntry text e → read ≡ e
