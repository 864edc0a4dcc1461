-- What G1 is judged as. The order of the checks is this project's choice (IEEE Std 802.11-2020, 12.7.7.2, profile).
use Rattle.std.specs.Prelude.{◌≡◌, ℕ, Bool, List, Option, Some, None, bytes_eq, if◌then◌else◌, Result, Ok, Err}
use Rattle.domain_base.specs.declared.names.Akm.{Akm}
use Rattle.mac_prf.specs.Mic.{mic}
use Rattle.key_hierarchy.specs.declared.inputs.Ptk.{Ptk}
use Rattle.eapol_key.specs.KeyFrame.{KeyFields}
use Rattle.run_journal.specs.declared.acts.Reason.{Reason}
use Rattle.run_journal.specs.declared.acts.Reason.TheVariants as reason
use Rattle.run_journal.specs.declared.acts.Outcome.{Outcome}
use Rattle.run_journal.specs.declared.acts.Outcome.TheVariants.{Refused}
use Rattle.domain_rules.specs.Asking.{above}
use Rattle.supplicant.specs.declared.key_data.CarriedKeys.{CarriedKeys}
use Rattle.supplicant.specs.KeyData.{IsOpened}

-- what G1 is judged by: whether management frames are protected, the suite, the key, and the counter that is kept, where one is
pub record UnderG1 : Type 0 where
  pub protected : Bool
  pub akm : Akm
  pub ptk : Ptk
  pub kept : Option ℕ

abbrev pub under_g1 : Bool → Akm → Ptk → Option ℕ → UnderG1
under_g1 protected akm ptk kept = record { protected = protected; akm = akm; ptk = ptk; kept = kept }

-- what comes of G1 with these fields and octets before its key data
abbrev pub before_g1_key_data : UnderG1 → KeyFields → List ℕ → Outcome → Outcome
before_g1_key_data u f octets then_ =
    above u.kept f.counter (if bytes_eq f.mic (mic u.akm u.ptk.kck octets) then then_ else Refused reason.Mic)

-- its MIC verified, and its key data is that (12.7.7.2)
pub record IsVerifiedG1 (u : UnderG1) (f : KeyFields) (octets : List ℕ) (r : Result CarriedKeys Reason) : Type 0 where
  pub comes : (o : Outcome) → before_g1_key_data u f octets o ≡ o
  pub opened : IsOpened u.protected None u.ptk.kek f.key_data r

-- G1 is refused before its MIC is tried (12.7.7.2)
abbrev pub IsG1RefusedBefore : UnderG1 → KeyFields → List ℕ → Result CarriedKeys Reason → Type 0
IsG1RefusedBefore u f octets (Ok c) = ⊥
IsG1RefusedBefore u f octets (Err why) = (o : Outcome) → before_g1_key_data u f octets o ≡ Refused why

-- what it is judged as: its group keys, or why it is refused; and the KCK where its MIC verified (12.7.7.2)
abbrev pub IsG1 : UnderG1 → KeyFields → List ℕ → Result CarriedKeys Reason → Option (List ℕ) → Type 0
IsG1 u f octets r None = IsG1RefusedBefore u f octets r
IsG1 u f octets r (Some kck) = (kck ≡ u.ptk.kck) × IsVerifiedG1 u f octets r
