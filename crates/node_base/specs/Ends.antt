-- The two ends of a pairwise key (profile).
use Rattle.std.specs.Prelude.{◌≡◌}
use Rattle.domain_base.specs.declared.names.Node.{Node}
use Rattle.run_journal.specs.declared.domain.Domain.{Domain}
use Rattle.run_journal.specs.Events.{protects}
use Rattle.domain_rules.specs.Network.{mac, direction}
use Rattle.node_base.specs.declared.ends.Ends.{Ends}

-- the two ends of the pairwise key of node n with its peer p, as addresses, with the suite, the version of the network's
-- rules, and whether it protects group-addressed management frames
pub record AreEnds (d : Domain) (n p : Node) (l : Ends) : Type 0 where
  pub akm : l.akm ≡ d.akm
  pub direction_is : l.direction ≡ direction n
  pub own : l.own ≡ mac d n
  pub peer : l.peer ≡ mac d p
  pub version : l.version ≡ d.extras.version
  pub mfp_is : l.mfp ≡ protects d
