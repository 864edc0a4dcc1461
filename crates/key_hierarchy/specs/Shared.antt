-- What inputs in memory of their own are (profile).
use Rattle.std.specs.Arc.{arc_value}
use Rattle.key_hierarchy.specs.declared.inputs.Inputs.{Inputs}
use Rattle.key_hierarchy.specs.declared.shared_inputs.Place.{Place}
use Rattle.key_hierarchy.specs.declared.shared_inputs.Place.TheVariants.{Own, Common}

-- inputs by the memory in which they stand, their own or one that others share
abbrev pub inputs_at : Place → Inputs
inputs_at (Own b) = b
inputs_at (Common a) = arc_value a
