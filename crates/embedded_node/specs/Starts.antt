-- Which nodes can start (profile).
use Rattle.std.specs.Prelude.{◌≡◌, ℕ, nat_lt, nat_le, ◌&&◌, Bool, true, false, List, length}
use Rattle.domain_base.specs.declared.names.Mac.{Mac}
use Rattle.domain_rules.specs.AccessPointRows.{last_draw}
use Rattle.domain_rules.specs.Network.{draw_end}
use Rattle.embedded_node.specs.declared.header.Header.{Header}
use Rattle.embedded_node.specs.declared.untaken.Untaken.{Untaken}
use Rattle.embedded_node.specs.declared.untaken.Untaken.TheVariants.{Unfit, Full, NoMemory}
use Rattle.embedded_node.specs.Free.{is_single, is_id}
use Rattle.embedded_node.specs.Headers.{bare}

-- the name of a network: 1 to 32 octets (IEEE Std 802.11-2020, 9.4.2.2)
abbrev pub is_ssid : List ℕ → Bool
is_ssid octets = nat_le 1 (length octets) && nat_le (length octets) 32

-- the draws of the node are not at their end, and the name of its network and its address are such
abbrev pub can_start : Header → Mac → ℕ → Bool
can_start h address first = nat_lt first draw_end && is_ssid h.ssid.now && is_single address.0

-- the same of an access point, whose R0KH-ID is one, and whose first group keys can be drawn
abbrev pub can_start_ap : Header → Mac → List ℕ → ℕ → Bool
can_start_ap h address r0kh_id first = can_start h address first && is_id r0kh_id && nat_lt (last_draw (bare h) first) draw_end

-- a node did not start: it cannot, and so is unfit; or it can, and memory ran out
abbrev pub IsStartCause : Bool → Untaken → Type 0
IsStartCause can Unfit = can ≡ false
IsStartCause can Full = ⊥
IsStartCause can NoMemory = can ≡ true
