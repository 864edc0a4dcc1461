use Rattle.std.proofs.Common.{List, ℕ, ap, ◌∙◌}
use Rattle.std.specs.Prelude.{codes}
use Rattle.mac_prf.specs.Prf.{kdf}
use Rattle.key_hierarchy.specs.Keys.{pairwise_ptk}
use Rattle.key_hierarchy.specs.Parts.{split_ptk}
use Rattle.key_hierarchy.proofs.pairwise.keyed_ptk.Goals as goal

pub returns : goal.returns
unfolding pairwise_ptk
returns c =
    c.from_octets.ensures ∙ ap split_ptk c.kdf.ensures
    ∙ ap (λ (w : List ℕ). split_ptk (kdf c.args.psk.now (codes "Pairwise key expansion") w 48)) c.pairwise_context-context.ensures
