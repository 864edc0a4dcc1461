-- Why a guard refuses, in the order of the tests (profile).
use Rattle.std.specs.Prelude.{ℕ, ◌||◌, ◌==◌, not, nat_lt, nat_le, List, length, Option, None, Some, if◌then◌else◌}
use Rattle.replay_window.specs.Numbers.{last_number}
use Rattle.ccmp_guard.specs.declared.guard.GuardFault.{GuardFault}
use Rattle.ccmp_guard.specs.declared.guard.GuardFault.TheVariants.{NoKey, Spent, Replayed, Header, KeyId}
use Rattle.ccmp_guard.specs.Ccmp.{key_id_in, ext_iv, packet_number}
use Rattle.ccmp_guard.specs.Roles.{key_id}
use Rattle.ccmp_guard.specs.Held.{Held, kept_number}

-- why nothing is protected: no key, or every packet number of it was used
abbrev pub protect_fault : Option Held → Option GuardFault
protect_fault None = Some NoKey
protect_fault (Some h) = if nat_lt h.used last_number then None else Some Spent

-- why a body is refused before its seal is tried: no key, a CCMP header that is short or without ExtIV, another key id than the
-- one of the key, a packet number that is at most the kept one
abbrev pub unprotect_fault : Option Held → List ℕ → List ℕ → Option GuardFault
unprotect_fault None header body = Some NoKey
unprotect_fault (Some h) header body =
    if nat_lt (length body) 16 || not (ext_iv body == 1) then Some Header
    else if not (key_id_in body == key_id h.role) then Some KeyId
    else if nat_le (packet_number body) (kept_number h header) then Some (Replayed (kept_number h header))
    else None
