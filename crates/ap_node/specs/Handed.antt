-- What an EAPOL-Key message does to an access point where all is ready (this project's choice).
-- For the code alone: no public contract speaks of it.
use Rattle.std.specs.Prelude.{◌≡◌, ◌++◌, ℕ, List}
use Rattle.domain_base.specs.declared.names.Node.{Node}
use Rattle.run_journal.specs.declared.domain.Domain.{Domain}
use Rattle.run_journal.specs.declared.acts.Act.{Act}
use Rattle.domain_rules.specs.Reading.{KeyMessage as KeyFields}
use Rattle.domain_rules.specs.Replies.{taken_as}
use Rattle.frame_intake.specs.declared.delivered.KeyMessage.{KeyMessage}
use Rattle.node_base.specs.Pairs.{pair_at}
use Rattle.node_base.specs.Events.{Seen}
use Rattle.act_memory.specs.Rooms.{IsRoom, between_of}
use Rattle.authenticator.specs.Judged.{frame_of}
use Rattle.authenticator.specs.Taken.{given}
use Rattle.ap_node.specs.State.{State, station_at, newest_of}
use Rattle.ap_node.specs.Parts.{IsHanded}
use Rattle.ap_node.specs.declared.ready.Ready.{Ready}

-- the part with the station took it, in the room that is ready for it
abbrev pub IsHandedOver : ℕ → KeyMessage → Ready → State → State → Seen → Type 0
IsHandedOver sta message ready old new s =
    (d : Domain) (id : List ℕ) (n p : Node) (octets : List ℕ) (k : KeyFields) → IsRoom d id n p octets k ready.room
    → (acts : List Act) × (s.waits ≡ s.waited ++ acts)
    × IsHanded (pair_at d id n p) (given message.message (frame_of message.frame) (newest_of old)) (taken_as octets k s.outcome)
    (between_of ready.between) (station_at old.stations sta) (station_at new.stations sta) acts
