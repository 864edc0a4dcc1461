-- What an attempt of an authenticator goes back to (IEEE Std 802.11-2020, 12.7.1.6, 13.4.2, profile).
use Rattle.std.specs.Prelude.{◌≡◌, []}
use Rattle.domain_base.specs.declared.names.Node.{Node}
use Rattle.rsn_elements.specs.Sent.{fte_octets}
use Rattle.run_journal.specs.declared.domain.Domain.{Domain}
use Rattle.domain_rules.specs.Network.{Root, r0kh_id, root_at, station_of, inputs_at}
use Rattle.domain_rules.specs.Replies.{Pair}
use Rattle.node_base.specs.Pairs.{pair_of}
use Rattle.domain_rules.specs.FastTransition.{assoc_fte}
use Rattle.node_base.specs.PairwiseKeys.{pmk_of}
use Rattle.frame_making.specs.KeyData.{IsMobility}
use Rattle.authenticator.specs.declared.base.Base.{Base}

-- what the keys of access point n with its station p go back to: with suite 4 the access point is the R0KH (13.4.2,
-- profile)
abbrev pub home : Domain → Node → Node → Root
home d n p = root_at d (station_of n p) (r0kh_id d n)

-- an access point and its station, by what their keys go back to (13.4.2, profile)
abbrev pub own_pair : Domain → Node → Node → Pair
own_pair d n p = pair_of d (home d n p) n p

-- what the keys of access point n with its station p go back to (13.4.2, profile)
pub record IsBaseOf (d : Domain) (n p : Node) (b : Base) : Type 0 where
  pub pmk : b.pmk ≡ pmk_of d (home d n p) n p
  pub mobility : IsMobility d (inputs_at d n p (r0kh_id d n) [] []) (fte_octets (assoc_fte d n)) b.mobility
