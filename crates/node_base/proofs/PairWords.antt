-- Suites 2 and 6 look at no R0KH-ID.
use Rattle.std.proofs.Common.{◌≡◌, ◌≢◌, ℕ, List, ap}
use Rattle.domain_base.specs.declared.names.Akm.TheVariants.{FtPsk}
use Rattle.domain_base.specs.declared.names.Node.{Node}
use Rattle.run_journal.specs.declared.domain.Domain.{Domain}
use Rattle.domain_rules.specs.Network.{Root, station_of}
use Rattle.domain_rules.specs.Replies.{pair}
use Rattle.domain_rules.proofs.SuiteWords.{root_suite}
use Rattle.node_base.specs.Pairs.{pair_of, pair_at}

pub pair_suite : (d : Domain) (id : List ℕ) (n p : Node) → d.akm ≢ FtPsk → pair_at d id n p ≡ pair d n p
pair_suite d id n p other = ap (λ (r : Root). pair_of d r n p) (root_suite d.akm d (station_of n p) id other)
