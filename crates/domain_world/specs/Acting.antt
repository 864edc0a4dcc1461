-- What an event at a node does.
-- For the code alone: no public contract speaks of it.
use Rattle.std.specs.Prelude.{◌≡◌, ◌<◌, ℕ, List, length}
use Rattle.std.specs.List.{AllByRecursion}
use Rattle.domain_base.specs.declared.names.Node.{Node}
use Rattle.run_journal.specs.declared.domain.Event.{Event}
use Rattle.run_journal.specs.declared.domain.Event.TheVariants.{Alter}
use Rattle.run_journal.specs.declared.acts.Act.{Act}
use Rattle.run_journal.specs.declared.acts.Entry.{Entry}
use Rattle.run_journal.specs.Questions.{history}
use Rattle.run_journal.specs.Events.{IsListed}
use Rattle.domain_rules.specs.Rows.{NodeEvent, Adds}
use Rattle.domain_rules.specs.Explained.{push, altered, WasSent}
use Rattle.domain_rules.specs.Here.{here}
use Rattle.domain_rules.specs.HeldRight.{AnsweredInTime}
use Rattle.domain_rules.specs.Present.{present}
use Rattle.run_journal.specs.declared.domain.Domain.{Domain}
use Rattle.domain_world.specs.declared.part.Part.{Part}
use Rattle.domain_world.specs.State.{Nodes}
use Rattle.domain_world.specs.Owning.{Stand}
use Rattle.domain_world.specs.Ordering.{InTurn}
use Rattle.domain_world.specs.Waiting.{joined, AreShort}

-- after that journal the node does these acts, the nodes stand for the journal with them, and key holders answered rightly, by
-- whatever header whose network after the journal is the nodes' own
pub record Acted (node : Node) (event : NodeEvent) (j : List Entry) (old new : Nodes) (acts : List Act) : Type 0 where
  pub adds : Adds (here old.domain 0 node) (history node j) event acts
  pub stand : (round : ℕ) → Stand new (push round node acts j)
  pub right : (round : ℕ) → AllByRecursion (λ (e : Entry). e.round < round) j → (c : Domain) → present c j ≡ old.domain → AnsweredInTime c j → AnsweredInTime c (push round node acts j)

-- these are the octets of the frame of that number with one changed
abbrev pub IsAltered : List Entry → ℕ → ℕ → ℕ → ℕ → List ℕ → Type 0
IsAltered j round number place mask changed = (octets : List ℕ) × (WasSent j round number octets × (changed ≡ altered place mask octets))

-- what an event that changes an octet brings; no other event speaks of it
abbrev pub IsChanged : Event → List Entry → ℕ → List ℕ → Type 0
IsChanged (Alter number place mask to) j round changed = IsAltered j round number place mask changed
IsChanged event j round changed = Unit {0}

-- events one after the other took the nodes from old to new, and this waits of them
pub record Played (round : ℕ) (events : List Event) (j : List Entry) (old new : Nodes) (parts : List Part) : Type 0 where
  pub follows : InTurn old.domain round events j (joined round parts j)
  pub stand : Stand new (joined round parts j)
  pub right : (c : Domain) → present c j ≡ old.domain → AnsweredInTime c j → AnsweredInTime c (joined round parts j)
  pub listed : AllByRecursion (λ (part : Part). IsListed old.domain part.node) parts
  pub domain : new.domain ≡ old.domain
  pub count : length new.stas ≡ length old.stas
  pub short : AreShort (length old.stas) parts
