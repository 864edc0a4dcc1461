use Rattle.std.proofs.Common.{List, ℕ, ◌++◌, take, ap, ◌∙◌}
use Rattle.std.specs.Prelude.{codes}
use Rattle.sha2.specs.Sha256.{sha256}
use Rattle.key_hierarchy.specs.FastTransition.{ptk_name}
use Rattle.key_hierarchy.proofs.fast_transition.ptk_name.Goals as goal

pub returns : goal.returns
unfolding ptk_name
returns c =
    let digest = c.finalize.ensures _ (c.update-3.ensures _ (c.update-2.ensures _ (c.update.ensures _ c.new-hasher.ensures))) in
    c.truncated.ensures ∙ ap (λ (w : List ℕ). take 16 w) digest
    ∙ ap (λ (w : List ℕ). take 16 (sha256 (c.args.r1.now.name ++ codes "FT-PTKN" ++ w))) c.ft_context.ensures
