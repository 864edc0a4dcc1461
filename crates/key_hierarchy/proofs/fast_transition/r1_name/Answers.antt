use Rattle.std.proofs.Common.{List, ℕ, ◌++◌, take, ap, ◌∙◌}
use Rattle.std.specs.Prelude.{codes}
use Rattle.sha2.specs.Sha256.{sha256}
use Rattle.key_hierarchy.specs.FastTransition.{pmk_r1_name}
use Rattle.key_hierarchy.proofs.fast_transition.r1_name.Goals as goal

pub returns : goal.returns
unfolding pmk_r1_name
returns c =
    let digest = c.finalize.ensures _ (c.update-3.ensures _ (c.update-2.ensures _ (c.update.ensures _ c.new-hasher.ensures))) in
    c.truncated.ensures ∙ ap (λ (w : List ℕ). take 16 w) digest
    ∙ ap (λ (w : List ℕ). take 16 (sha256 (codes "FT-R1N" ++ c.args.r0_name.now ++ w))) c.r1_context.ensures
