-- A node with its peer, and what their keys go back to (IEEE Std 802.11-2020, 12.7.1.3, 12.7.1.6.4).
use Rattle.std.specs.Prelude.{ℕ, List}
use Rattle.domain_base.specs.declared.names.Node.{Node}
use Rattle.run_journal.specs.declared.domain.Domain.{Domain}
use Rattle.domain_rules.specs.Network.{Root, station_of, root_at}
use Rattle.domain_rules.specs.Replies.{Pair}

-- a node with its peer, and what their keys go back to, by a root
abbrev pub pair_of : Domain → Root → Node → Node → Pair
pair_of d r n p = record { domain = d; root = r; node = n; peer = p }

-- by the station among the two and an R0KH-ID, which suites 2 and 6 do not look at
abbrev pub pair_at : Domain → List ℕ → Node → Node → Pair
pair_at d id n p = pair_of d (root_at d (station_of n p) id) n p
