use Rattle.std.proofs.Common.{List, ℕ, ap, ◌∙◌}
use Rattle.std.specs.Prelude.{codes}
use Rattle.key_hierarchy.specs.Keys.{expansion, pairwise_ptk}
use Rattle.key_hierarchy.specs.Parts.{split_ptk}
use Rattle.key_hierarchy.proofs.pairwise.pairwise_ptk.Goals as goal

pub returns : goal.returns
unfolding pairwise_ptk
returns c =
    c.from_octets.ensures ∙ ap split_ptk c.expanded.ensures
    ∙ ap (λ (w : List ℕ). split_ptk (expansion c.args.akm c.args.psk.now (codes "Pairwise key expansion") w 48)) c.pairwise_context-context.ensures
