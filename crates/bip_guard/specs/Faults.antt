-- Why a guard refuses, in the order of the tests. The order of the first two is this project's choice (IEEE Std
-- 802.11-2020, 12.5.4.4 to 12.5.4.6, profile).
use Rattle.std.specs.Prelude.{ℕ, ◌==◌, not, nat_lt, nat_le, List, Option, None, Some, if◌then◌else◌}
use Rattle.replay_window.specs.Numbers.{last_number}
use Rattle.bip_guard.specs.declared.guard.BipFault.{BipFault}
use Rattle.bip_guard.specs.declared.guard.BipFault.TheVariants.{NoKey, Spent, Replayed, Seal, KeyId}
use Rattle.bip_guard.specs.Bip.{key_id_in, ipn_in, mic_verifies}
use Rattle.bip_guard.specs.Held.{Held}

-- why nothing is protected: no key, or every packet number of it was used
abbrev pub protect_fault : Option Held → Option BipFault
protect_fault None = Some NoKey
protect_fault (Some h) = if nat_lt h.used last_number then None else Some Spent

-- why a body that ends in an MME is refused: no key, another key id than the one of the key, a packet number that is at most the
-- kept one, a MIC that does not verify
abbrev pub unprotect_fault : Option Held → List ℕ → List ℕ → Option BipFault
unprotect_fault None header body = Some NoKey
unprotect_fault (Some h) header body =
    if not (key_id_in body == h.id) then Some KeyId
    else if nat_le (ipn_in body) h.kept then Some (Replayed h.kept)
    else if not (mic_verifies h.key header body) then Some Seal
    else None
