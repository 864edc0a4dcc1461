-- Events at nodes, and what one step of a node does (profile).
use Rattle.std.specs.Prelude.{◌≡◌, ◌<◌, ◌≤◌, true, List, ◌++◌, length}
use Rattle.domain_base.specs.declared.names.Akm.TheVariants.{FtPsk}
use Rattle.domain_base.specs.declared.names.Node.{Node}
use Rattle.domain_base.specs.declared.names.Node.TheVariants.{Ap, Sta}
use Rattle.run_journal.specs.declared.domain.Domain.{Domain}
use Rattle.run_journal.specs.declared.acts.Act.{Act}
use Rattle.run_journal.specs.declared.acts.Outcome.{Outcome}
use Rattle.run_journal.specs.Questions.{add}
use Rattle.domain_rules.specs.Rows.{NodeEvent as AnyEvent, Take, Begin, Roam, Retry, Rekey, Send, Expire, Revoke, Leave, Secret, Renew, Announce, Adds, outcome_of}
use Rattle.domain_rules.specs.Here.{Here}
use Rattle.run_journal.specs.Events.{IsReceiverOf, NamesSta, renews, most_payload, protects}
use Rattle.run_journal.specs.Changed.{is_named}
use Rattle.node_base.specs.declared.event.NodeEvent.{NodeEvent}
use Rattle.node_base.specs.declared.event.NodeEvent.TheVariants as event

-- the event of the definitions that an event of the code is
abbrev pub event_of : NodeEvent → AnyEvent
event_of (event.Take octets) = Take octets.now
event_of (event.Connect a) = Begin a
event_of (event.Roam a) = Roam a
event_of (event.Retry s) = Retry s
event_of event.Rekey = Rekey
event_of (event.Send q tid octets) = Send q tid octets.now
event_of (event.Expire s) = Expire s
event_of (event.Revoke s) = Revoke s
event_of event.Leave = Leave
event_of (event.Renew s) = Renew s
event_of (event.Secret named psk) = Secret named psk.now
event_of (event.Announce octets) = Announce octets.now

-- the other node is listed. Stations begin attempts, by fast transition with suite 4 alone, and leave. Access points
-- send again, draw new group keys, drop what they have with a station, revoke its key, and renew its pairwise key in a
-- network that renews them. Both send payloads of at most that many octets. Access points take each changed key of listed
-- stations, and a station its own. Access points announce payloads where management frames are protected
abbrev pub IsEventAt : Domain → Node → AnyEvent → Type 0
IsEventAt d n (Take octets) = Unit {0}
IsEventAt d (Ap k) (Begin a) = ⊥
IsEventAt d (Sta k) (Begin a) = a < length d.aps
IsEventAt d (Ap k) (Roam a) = ⊥
IsEventAt d (Sta k) (Roam a) = (a < length d.aps) × (d.akm ≡ FtPsk)
IsEventAt d (Ap k) (Retry s) = s < length d.stas
IsEventAt d (Sta k) (Retry s) = ⊥
IsEventAt d (Ap k) Rekey = Unit {0}
IsEventAt d (Sta k) Rekey = ⊥
IsEventAt d n (Send q tid octets) = IsReceiverOf d n q × (length octets ≤ most_payload)
IsEventAt d (Ap k) (Expire s) = s < length d.stas
IsEventAt d (Sta k) (Expire s) = ⊥
IsEventAt d (Ap k) (Revoke s) = s < length d.stas
IsEventAt d (Sta k) (Revoke s) = ⊥
IsEventAt d (Ap k) Leave = ⊥
IsEventAt d (Sta k) Leave = Unit {0}
IsEventAt d (Ap k) (Secret named psk) = NamesSta d named
IsEventAt d (Sta k) (Secret named psk) = is_named named k ≡ true
IsEventAt d (Ap k) (Renew s) = (s < length d.stas) × (renews d ≡ true)
IsEventAt d (Sta k) (Renew s) = ⊥
IsEventAt d (Ap k) (Announce octets) = (length octets ≤ most_payload) × (protects d ≡ true)
IsEventAt d (Sta k) (Announce octets) = ⊥

-- what is seen of a step: the acts that waited before it, those that wait after it, and what came
-- of the event
pub record Seen : Type 0 where
  pub waited : List Act
  pub waits : List Act
  pub outcome : Outcome

-- what is seen of a step, by the acts that waited before it, those that wait after it, and what came of it
abbrev pub seen : List Act → List Act → Outcome → Seen
seen waited waits outcome = record { waited = waited; waits = waits; outcome = outcome }

-- A node that stands for its history h is taken by the event to one that stands for the history with these acts, which
-- are put after those that waited.
pub record Steps (w : Here) (event : AnyEvent) (Stands : List Act → Type 0) (h : List Act)
    (s : Seen) : Type 0 where
  pub acts : List Act
  pub adds : Adds w h event acts
  pub waiting : s.waits ≡ s.waited ++ acts
  pub came : s.outcome ≡ outcome_of acts
  pub stands : Stands (add acts h)
