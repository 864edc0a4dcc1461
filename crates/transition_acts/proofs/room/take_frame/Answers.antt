use Rattle.std.proofs.Common.{◌∙◌, ap}
use Rattle.rsn_elements.specs.Fields.{element_fields}
use Rattle.transition_acts.specs.Seals.{came_covered}
use Rattle.transition_acts.specs.declared.sides.Side.{Side}
use Rattle.transition_acts.proofs.Rooming.{room_for}
use Rattle.transition_acts.proofs.room.take_frame.Goals as goal

pub returns : goal.returns
returns c =
    room_for c.take.result _ _ c.args.sent.now c.args.frame (element_fields c.args.elements.now) c.take.ensures
    (c.covered-parts.ensures ∙ ap (λ (s : Side). came_covered s c.args.frame (element_fields c.args.elements.now)) c.side.ensures)
