use Rattle.std.proofs.Common.{List, ℕ, ap, ◌∙◌}
use Rattle.std.specs.Prelude.{codes}
use Rattle.mac_prf.specs.Prf.{kdf}
use Rattle.key_hierarchy.specs.FastTransition.{ft_ptk}
use Rattle.key_hierarchy.specs.Parts.{split_ptk}
use Rattle.key_hierarchy.proofs.fast_transition.ptk_from_r1.Goals as goal

pub returns : goal.returns
unfolding ft_ptk
returns c =
    c.from_octets.ensures ∙ ap split_ptk c.kdf.ensures
    ∙ ap (λ (w : List ℕ). split_ptk (kdf c.args.r1.now.key (codes "FT-PTK") w 48)) c.ft_context-context.ensures
