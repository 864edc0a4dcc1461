-- A message handed to the supplicant of an attempt or of a session (this project's choice).
-- For the code alone: no public contract speaks of it.
use Rattle.std.specs.Prelude.{◌≡◌, ℕ, false, List, ◌++◌, Option, option_map, is_some}
use Rattle.domain_base.specs.declared.names.Node.{Node}
use Rattle.run_journal.specs.declared.domain.Domain.{Domain}
use Rattle.run_journal.specs.declared.acts.Act.{Act}
use Rattle.run_journal.specs.declared.reply.Reply.{Reply}
use Rattle.run_journal.specs.declared.reply.Keyed.{Keyed}
use Rattle.run_journal.specs.declared.acts.Outcome.{Outcome}
use Rattle.domain_rules.specs.Replies.{replied_acts, reply_acts, taken_as}
use Rattle.node_base.specs.Pairs.{pair_at}
use Rattle.frame_intake.specs.declared.delivered.Heard.{Heard}
use Rattle.frame_intake.specs.Views.{message_fields}
use Rattle.supplicant.specs.State.{State, Both}
use Rattle.supplicant.specs.Steps.{opening_between}
use Rattle.supplicant.specs.Taken.{IsTaken as IsTakenBySupplicant, IsOpening}
use Rattle.station_node.specs.declared.handing.Came.{Came}

-- the supplicant and the group keys before and after it, and the acts that waited then
pub record Handing : Type 0 where
  pub old : Both
  pub new : Both
  pub waited : List Act
  pub waits : List Act

abbrev pub handing : Both → Both → List Act → List Act → Handing
handing old new waited waits = record { old = old; new = new; waited = waited; waits = waits }

-- the acts are those of the supplicant's reply, by whether it had a session, and an installed key makes an attempt a
-- session
pub record IsHanded (d : Domain) (n p : Node) (m : Heard) (t : Handing) (came : Came) : Type 0 where
  pub reply : Reply
  pub acts : t.waits ≡ t.waited ++ reply_acts (pair_at d t.new.part.base.r0kh_id n p) (is_some t.old.part.session)
      (taken_as m.octets.now (message_fields m.message) came.outcome) reply
  pub taken : IsTakenBySupplicant m.message.message m.message.frame t.old t.new came.outcome reply
  pub installed : came.installed ≡ option_map (λ (y : Keyed). y.ptk.tk) reply.installed

-- the supplicant of a session before and after an M1 that may begin to renew its key, and the acts that waited then
pub record Renewal : Type 0 where
  pub old : State
  pub new : State
  pub waited : List Act
  pub waits : List Act

abbrev pub renewal : State → State → List Act → List Act → Renewal
renewal old new waited waits = record { old = old; new = new; waited = waited; waits = waits }

-- the acts are those of the supplicant's reply, and those by which the attempt begins under that nonce
pub record IsRenewed (d : Domain) (n p : Node) (m : Heard) (v : Option (List ℕ)) (t : Renewal) (outcome : Outcome) : Type 0 where
  pub reply : Reply
  pub acts : t.waits ≡ t.waited ++ replied_acts (pair_at d t.new.base.r0kh_id n p) false
      (taken_as m.octets.now (message_fields m.message) outcome) reply (opening_between outcome p v)
  pub taken : IsOpening m.message.frame v t.old t.new outcome reply
