use Rattle.std.proofs.Common.{◌∙◌, ◌++◌, ℕ, [], ◌∷◌, ap}
use Rattle.transition_acts.proofs.Parting.{seven_parts}
use Rattle.transition_acts.proofs.covering.append_covered.Goals as goal

pub returns : goal.returns
returns c =
    seven_parts _ _ _ _ _ _ _ _ _ _ _ _ _ _ _ c.append.ensures.items c.append-2.ensures.items c.append-3.ensures.items (c.append-4.ensures.items ∙ ap (λ (k : ℕ). c.append-3.new.octets.items ++ k ∷ []) c.number.ensures)
    c.append-5.ensures.items c.append-6.ensures.items c.append_fte.ensures
