-- What suite 4 adds to key data stays as the network grows, or keys of other stations change.
use Rattle.std.proofs.Common.{◌≡◌, ℕ, List, Option, Some, None, sym, ap, ◌∙◌}
use Rattle.domain_base.specs.declared.names.Node.{Node}
use Rattle.key_hierarchy.specs.declared.inputs.Inputs.{Inputs}
use Rattle.run_journal.specs.declared.domain.Domain.{Domain}
use Rattle.domain_rules.specs.FastTransition.{r1_name}
use Rattle.node_base.proofs.Grown.{Alike}
use Rattle.frame_making.specs.Mobile.{Mobility}
use Rattle.frame_making.specs.KeyData.{IsMobility}

pub mobility_grown : {S : Node → Type 0} (d e : Domain) (i j : Inputs) (fte gte : List ℕ) (o : Option Mobility) → Alike d e S → j ≡ i → gte ≡ fte → IsMobility d i fte o → IsMobility e j gte o
mobility_grown d e i j fte gte None g same alike is = λ suite. is (sym g.akm ∙ suite)
mobility_grown d e i j fte gte (Some m) g same alike is = (g.akm ∙ is.0, is.1 ∙ ap r1_name (sym same), is.2 ∙ sym g.mdid, is.3 ∙ sym alike)
