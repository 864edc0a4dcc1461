-- What a guard answers once the MIC was tried.
use Rattle.std.proofs.Common.{◌≡◌, ◌<◌, ℕ, List, Some, None, true, false, refl}
use Rattle.std.proofs.lemmas.Bool.{eq-eqb, lt-leb}
use Rattle.bip_guard.specs.declared.guard.BipFault.TheVariants.{Seal}
use Rattle.bip_guard.specs.Bip.{key_id_in, ipn_in, mic_verifies}
use Rattle.bip_guard.specs.Held.{Held}
use Rattle.bip_guard.specs.Faults.{unprotect_fault}

pub none-refused : (h : Held) (header body : List ℕ) → key_id_in body ≡ h.id → h.kept < ipn_in body → mic_verifies h.key header body ≡ true
    → unprotect_fault (Some h) header body ≡ None
none-refused h header body id above mic =
    rw (eq-eqb (key_id_in body) h.id id, lt-leb (ipn_in body) h.kept above, mic) refl

pub seal-refused : (h : Held) (header body : List ℕ) → key_id_in body ≡ h.id → h.kept < ipn_in body → mic_verifies h.key header body ≡ false
    → unprotect_fault (Some h) header body ≡ Some Seal
seal-refused h header body id above mic =
    rw (eq-eqb (key_id_in body) h.id id, lt-leb (ipn_in body) h.kept above, mic) refl
