-- What contracts see of an embedded node (profile).
use Rattle.std.specs.Prelude.{◌≡◌, ◌<◌, List, length}
use Rattle.run_journal.specs.declared.domain.Domain.{Domain}
use Rattle.run_journal.specs.declared.acts.Act.{Act}
use Rattle.ft_exchange.specs.Asking.{ids_of}
use Rattle.domain_rules.specs.Network.{InForm}
use Rattle.station_node.specs.State.{State as StationState}
use Rattle.ap_node.specs.State.{State as ApState}
use Rattle.embedded_node.specs.Pushed.{Holding, ids_in}

-- the network as the station knows it, the station, and the acts that were not told yet
pub record Station : Type 0 where
  pub domain : Domain
  pub node : StationState
  pub acts : List Act

-- it is the first station of a network in form
pub record IsStation (s : Station) : Type 0 where
  pub form : InForm s.domain
  pub listed : 0 < length s.domain.stas
  pub number : s.node.number ≡ 0

-- the same of an access point, with its key holder, and of the others what they gave
pub record Ap : Type 0 where
  pub domain : Domain
  pub node : ApState
  pub holders : Holding
  pub acts : List Act

-- it is the first access point of a network in form
pub record IsAp (s : Ap) : Type 0 where
  pub form : InForm s.domain
  pub listed : 0 < length s.domain.aps
  pub number : s.node.number ≡ 0
  pub ids : ids_in s.holders ≡ ids_of s.domain
