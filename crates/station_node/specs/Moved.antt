-- Frames of a fast transition handed to the originator of an attempt (this project's choice).
-- For the code alone: no public contract speaks of it.
use Rattle.std.specs.Prelude.{◌≡◌, List, ◌++◌}
use Rattle.domain_base.specs.declared.names.Node.{Node}
use Rattle.domain_base.specs.declared.names.Node.TheVariants.{Ap}
use Rattle.rsn_elements.specs.Fields.{element_fields}
use Rattle.run_journal.specs.declared.domain.Domain.{Domain}
use Rattle.run_journal.specs.declared.acts.Outcome.{Outcome}
use Rattle.run_journal.specs.declared.acts.Act.{Act}
use Rattle.run_journal.specs.declared.reply.Reply.{Reply}
use Rattle.domain_rules.specs.Network.{root_at, station_of}
use Rattle.ft_exchange.specs.Exchange.{Both}
use Rattle.ft_exchange.specs.OriginatorSteps.{IsAuthTaken, IsReassocTaken}
use Rattle.ft_exchange.specs.Told.{came, auth_response_acts, reassoc_response_acts}
use Rattle.station_node.specs.declared.managed.Managed.{Managed}
use Rattle.station_node.specs.declared.moving.Way.{Way}
use Rattle.station_node.specs.declared.moving.Arrival.{Arrival}

-- the originator and the group keys before and after a frame, and the acts that waited then
pub record Move : Type 0 where
  pub old : Both
  pub new : Both
  pub waited : List Act
  pub waits : List Act

abbrev pub move : Both → Both → List Act → List Act → Move
move old new waited waits = record { old = old; new = new; waited = waited; waits = waits }

-- the acts are those of the originator's reply
pub record IsAnswered (d : Domain) (n : Node) (w : Way) (m : Managed) (t : Move) (outcome : Outcome) : Type 0 where
  pub reply : Reply
  pub acts : t.waits ≡ t.waited ++ auth_response_acts d (root_at d (station_of n (Ap w.ap)) w.r0kh_id.now) n (Ap w.ap)
      (came m.octets.now (element_fields m.elements) outcome) reply
  pub taken : IsAuthTaken m.frame.status (element_fields m.elements) t.old.part t.new.part outcome reply

pub record IsArrived (d : Domain) (n : Node) (w : Way) (m : Managed) (t : Move) (a : Arrival) : Type 0 where
  pub reply : Reply
  pub acts : t.waits ≡ t.waited ++ reassoc_response_acts d (root_at d (station_of n (Ap w.ap)) w.r0kh_id.now) n (Ap w.ap) w.left
      (came m.octets.now (element_fields m.elements) a.outcome) reply
  pub taken : IsReassocTaken m.frame.status (element_fields m.elements) t.old t.new a.outcome reply
  pub installed : a.installed ≡ reply.installed
