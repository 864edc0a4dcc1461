use Rattle.std.proofs.Common.{ℕ, List, Option, ap, ◌∙◌}
use Rattle.std.specs.Prelude.{unwrap_or}
use Rattle.group_key.specs.Keys.{Memories, kept_counter, kept_in}
use Rattle.station_node.specs.State.{no_keys, memory_at}
use Rattle.station_node.proofs.MemoryPlaces.{none_counted}
use Rattle.station_node.proofs.memories.Memories.counter_of.Goals as goal

pub returns-in-Some : goal.returns-in-Some
returns-in-Some c =
    c.counter_of.ensures ∙ ap (λ (o : Option Memories). kept_counter c.args.key.now (kept_in c.args.id (unwrap_or o no_keys))) c.in-Some.ensures.value
    ∙ ap (λ (l : List (ℕ × Memories)). kept_counter c.args.key.now (kept_in c.args.id (memory_at l c.args.ap))) c.self.view_is

pub returns-in-None : goal.returns-in-None
returns-in-None c =
    none_counted c.args.key.now c.args.id
    ∙ ap (λ (o : Option Memories). kept_counter c.args.key.now (kept_in c.args.id (unwrap_or o no_keys))) c.in-None.ensures.value
    ∙ ap (λ (l : List (ℕ × Memories)). kept_counter c.args.key.now (kept_in c.args.id (memory_at l c.args.ap))) c.self.view_is
