-- Keys and packet numbers of the entries of one node, a list, NEWEST FIRST, and where they stand in it (profile).
use Rattle.std.specs.Prelude.{ℕ, cond, Bool, false, List, [], ◌∷◌, length, Option, Some, None}
use Rattle.std.specs.declared.cmp.Ordering.{Ordering}
use Rattle.std.specs.Ordering.{ordering_then, nat_cmp}
use Rattle.std.specs.Cmp.Lexicographic.{slice_cmp}
use Rattle.std.specs.BTreeMap.{is_at}
use Rattle.std.specs.Map.{lookup}
use Rattle.run_journal.specs.declared.acts.Act.{Act}
use Rattle.run_journal.specs.declared.acts.Act.TheVariants.{Installed, Used, HandedUp}
use Rattle.run_journal.specs.declared.acts.Entry.{Entry}
use Rattle.run_journal.specs.Acts.{key_octets}
use Rattle.packet_history.specs.declared.packets.Packet.{Packet}

-- a key and a packet number under it
abbrev pub packet : List ℕ → ℕ → Packet
packet key number = record { key = key; number = number }

-- by key, and then by number
abbrev pub packet_cmp : Packet → Packet → Ordering
packet_cmp a b = ordering_then (slice_cmp nat_cmp a.key b.key) (nat_cmp a.number b.number)

-- the key that the act installs, with number 0
abbrev pub install_packet : Act → Option Packet
install_packet (Installed p key) = Some (packet (key_octets key) 0)
install_packet _ = None

-- the packet number that the act uses, with its key
abbrev pub use_packet : Act → Option Packet
use_packet (Used p key id number octets) = Some (packet key number)
use_packet _ = None

-- the packet number of a payload that the act hands up, with its key
abbrev pub up_packet : Act → Option Packet
up_packet (HandedUp p key id tid number octets) = Some (packet key number)
up_packet _ = None

-- it is that packet
abbrev pub is_packet : Packet → Option Packet → Bool
is_packet q None = false
is_packet q (Some p) = is_at (packet_cmp p) q

-- the place of the newest entry of which the act has that packet, counted from the oldest
abbrev pub place_of : (Act → Option Packet) → Packet → List Entry → Option ℕ
place_of f q [] = None
place_of f q (e ∷ past) = cond (is_packet q (f e.act)) (Some (length past)) (place_of f q past)

-- what a map has there
abbrev pub place_in : List (Packet × ℕ) → Packet → Option ℕ
place_in places q = lookup (is_at (packet_cmp q)) places
