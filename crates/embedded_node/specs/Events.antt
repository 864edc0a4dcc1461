-- Why an event was not taken (profile).
use Rattle.embedded_node.specs.declared.untaken.Untaken.{Untaken}
use Rattle.embedded_node.specs.declared.untaken.Untaken.TheVariants.{Unfit, Full, NoMemory}

-- unfit: it is not one that the node takes; else memory ran out
abbrev pub IsCauseOf : Type 0 → Untaken → Type 0
IsCauseOf IsTaken Unfit = IsTaken → ⊥
IsCauseOf IsTaken Full = ⊥
IsCauseOf IsTaken NoMemory = IsTaken
