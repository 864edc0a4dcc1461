use Rattle.std.proofs.Common.{◌∙◌, Option, is_some, ap}
use Rattle.group_key.specs.declared.keys.GroupKey.{GroupKey}
use Rattle.ap_node.specs.State.{State}
use Rattle.ap_node.proofs.Carrying.{some_beside}
use Rattle.ap_node.proofs.access_point.ApNode.has_igtk.Goals as goal

pub returns : goal.returns
returns c = c.is_some.ensures ∙ ap (λ (o : Option GroupKey). is_some o) c.newest_igtk.ensures ∙ some_beside c.self.inside.group.igtk ∙ ap (λ (t : State). is_some t.group.igtk) c.self.view_is
