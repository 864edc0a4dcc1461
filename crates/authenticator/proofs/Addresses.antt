-- The addresses of the ends.
use Rattle.std.proofs.Common.{subst}
use Rattle.domain_base.specs.declared.names.Mac.{Mac}
use Rattle.domain_base.specs.declared.names.Node.{Node}
use Rattle.air_frame.specs.Sent.{IsAddress}
use Rattle.run_journal.specs.declared.domain.Domain.{Domain}
use Rattle.domain_rules.specs.Network.{address}
use Rattle.node_base.specs.declared.ends.Ends.{Ends}
use Rattle.node_base.specs.Ends.{AreEnds}

pub own_address : (d : Domain) (n p : Node) (l : Ends) → AreEnds d n p l → IsAddress l.own.0 → IsAddress (address d n)
own_address d n p l ends whole = subst (λ (m : Mac). IsAddress m.0) ends.own whole

pub peer_address : (d : Domain) (n p : Node) (l : Ends) → AreEnds d n p l → IsAddress l.peer.0 → IsAddress (address d p)
peer_address d n p l ends whole = subst (λ (m : Mac). IsAddress m.0) ends.peer whole
