use Rattle.std.proofs.Common.{◌≡◌, sym, subst, rules}
use Rattle.domain_base.specs.declared.names.Node.TheVariants.{Ap}
use Rattle.key_hierarchy.specs.Sizes.{IsR0khId}
use Rattle.domain_rules.specs.Network.{r0kh_id}
use Rattle.node_base.proofs.HolderIds.{own_id_sized}
use Rattle.node_base.proofs.network.r0kh_id.Goals as goal

pub returns-clause-sized : goal.returns-clause-sized
returns-clause-sized c =
    let is : c.id_at.result.now ≡ r0kh_id c.args.domain.now (Ap c.args.ap) = search rules in
    subst IsR0khId (sym is) (own_id_sized c.args.domain.now c.args.ap c.requires.form c.requires.listed)
