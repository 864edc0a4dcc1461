-- What the pairwise key of a node with its peer is made of.
use Rattle.std.proofs.Common.{◌≡◌, ℕ, Bool, true, false, List, Option, None, Some, refl}
use Rattle.domain_base.specs.declared.names.Node.{Node}
use Rattle.domain_base.specs.declared.names.Node.TheVariants.{Ap, Sta}
use Rattle.key_hierarchy.specs.declared.inputs.Inputs.{Inputs}
use Rattle.run_journal.specs.declared.domain.Domain.{Domain}
use Rattle.run_journal.specs.declared.reply.Keyed.{Keyed}
use Rattle.domain_rules.specs.Network.{Root, inputs, root_at, station_of}
use Rattle.act_memory.specs.Templates.{IsTemplate, TemplateWhere, TemplateFor}

pub template_is : (d : Domain) (r : Root) (n p : Node) (i : Inputs) (own other : List ℕ) → i ≡ inputs d r n p own other → IsTemplate d r n p i
template_is d r (Ap k) p i own other is = record { is = λ y. rw is refl }
template_is d r (Sta k) p i own other is = record { is = λ y. rw is refl }

-- a template that may be asked for is there for each key that may come
pub template_for : (d : Domain) (id : List ℕ) (n p : Node) (may : Bool) (i : Option Inputs) (y : Option Keyed) → (may ≡ false → y ≡ None) → TemplateWhere may d n p id i → TemplateFor d (root_at d (station_of n p) id) n p i y
template_for d id n p false None y none there = none refl
template_for d id n p false (Some i) y none there = absurd (cc)
template_for d id n p true None y none there = absurd there
template_for d id n p true (Some i) y none there = there

-- where there is none, there is no key
pub no_key : (d : Domain) (r : Root) (n p : Node) (i : Option Inputs) (y : Option Keyed) → i ≡ None → TemplateFor d r n p i y → y ≡ None
no_key d r n p None y is there = there
no_key d r n p (Some i) y is there = absurd (cc)
