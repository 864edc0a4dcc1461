-- What is kept of the entries of one node, a list, NEWEST FIRST (profile).
use Rattle.std.specs.Prelude.{◌≡◌, List, Option}
use Rattle.run_journal.specs.declared.acts.Act.{Act}
use Rattle.run_journal.specs.declared.acts.Entry.{Entry}
use Rattle.packet_history.specs.declared.packets.Packet.{Packet}
use Rattle.packet_history.specs.declared.packets.Packets.{Packets}
use Rattle.packet_history.specs.declared.records.NodePackets.{NodePackets}
use Rattle.packet_history.specs.Packets.{install_packet, use_packet, up_packet, place_in, place_of}

-- the newest place of each packet
abbrev pub Places : (Act → Option Packet) → List Entry → Packets → Type 0
Places f own packets = (q : Packet) → place_in packets.places.entries q ≡ place_of f q own

-- the keys that were installed, and the packet numbers that were used and handed up
pub record Records (own : List Entry) (kept : NodePackets) : Type 0 where
  pub installed : Places install_packet own kept.installed
  pub used : Places use_packet own kept.used
  pub handed_up : Places up_packet own kept.handed_up
