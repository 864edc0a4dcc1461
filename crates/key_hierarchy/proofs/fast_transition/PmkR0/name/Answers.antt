use Rattle.std.proofs.Common.{List, ℕ, take, ap, ◌∙◌}
use Rattle.key_hierarchy.specs.FastTransition.{pmk_r0_name}
use Rattle.key_hierarchy.proofs.fast_transition.PmkR0.name.Goals as goal

pub returns : goal.returns
unfolding pmk_r0_name
returns c =
    let digest = c.finalize.ensures _ (c.update-2.ensures _ (c.update.ensures _ c.new-hasher.ensures)) in
    c.truncated.ensures ∙ ap (λ (w : List ℕ). take 16 w) digest
