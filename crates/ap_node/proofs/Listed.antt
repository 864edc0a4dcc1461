-- The access point is listed, by whichever name its number comes.
use Rattle.std.proofs.Common.{◌≡◌, ◌<◌, ℕ, length, sym, subst}
use Rattle.domain_base.specs.declared.names.Node.{Node}
use Rattle.domain_base.specs.declared.names.Node.TheVariants.{Ap}
use Rattle.run_journal.specs.declared.domain.Domain.{Domain}
use Rattle.run_journal.specs.Events.{IsListed}
use Rattle.ap_node.specs.State.{State}

pub ap_listed : (d : Domain) (n : Node) (a : ℕ) → n ≡ Ap a → a < length d.aps → IsListed d n
ap_listed d n a is few = subst (λ (x : Node). IsListed d x) (sym is) few

-- of a state that is another
pub number_listed : (d : Domain) (s t : State) → s ≡ t → t.number < length d.aps → s.number < length d.aps
number_listed d s t is few = subst (λ (x : State). x.number < length d.aps) (sym is) few
