use Rattle.std.proofs.Common.{ap, ◌∙◌}
use Rattle.run_journal.specs.declared.acts.GroupKind.TheVariants as groups
use Rattle.embedded_node.specs.States.{Station}
use Rattle.embedded_node.specs.Counters.{counter_at}
use Rattle.embedded_node.proofs.GroupCounters.{is_got}
use Rattle.embedded_node.proofs.station.EmbeddedStation.integrity_counter.Goals as goal

-- by the memory of the node
pub returns-clause-got : goal.returns-clause-got
returns-clause-got c =
    is_got groups.Igtk c.args.self.now c.args.ap c.args.key.now c.integrity_counter.result
    (c.integrity_counter.ensures ∙ ap (λ (s : Station). counter_at groups.Igtk s c.args.ap c.args.key.now) c.self.view_is)
