-- What M3 is judged as (IEEE Std 802.11-2020, 12.7.6.4; the order of the checks is this project's choice).
-- For the code alone: no public contract speaks of it.
use Rattle.std.specs.Prelude.{◌≡◌, ℕ, ◌<◌, ◌≤◌, Bool, List, Option, Some, None, bytes_eq, if◌then◌else◌, Result, Ok, Err}
use Rattle.mac_prf.specs.Mic.{mic}
use Rattle.eapol_key.specs.KeyFrame.{KeyFields}
use Rattle.run_journal.specs.declared.acts.Reason.{Reason}
use Rattle.run_journal.specs.declared.acts.Reason.TheVariants as reason
use Rattle.run_journal.specs.declared.acts.Outcome.{Outcome}
use Rattle.run_journal.specs.declared.acts.Outcome.TheVariants.{Refused}
use Rattle.run_journal.specs.declared.reply.Keyed.{Keyed}
use Rattle.domain_rules.specs.Asking.{above}
use Rattle.supplicant.specs.declared.base.Base.{Base}
use Rattle.supplicant.specs.declared.key_data.CarriedKeys.{CarriedKeys}
use Rattle.supplicant.specs.KeyData.{IsOpened}

-- the counter is above the kept one, where there is one
abbrev pub IsAbove : Option ℕ → ℕ → Type 0
IsAbove None counter = Unit {0}
IsAbove (Some kept) counter = kept < counter

-- or it is not above that one
abbrev pub IsNotAbove : Option ℕ → ℕ → ℕ → Type 0
IsNotAbove None counter was = ⊥
IsNotAbove (Some kept) counter was = (was ≡ kept) × (counter ≤ kept)

-- what M3 is judged by: whether management frames are protected, the base of the attempt, the key, and in a session the counter that
-- is kept
pub record Under : Type 0 where
  pub protected : Bool
  pub base : Base
  pub key : Keyed
  pub kept : Option ℕ

abbrev pub under : Bool → Base → Keyed → Option ℕ → Under
under protected b y kept = record { protected = protected; base = b; key = y; kept = kept }

-- what comes of M3 with these fields and octets before its key data
abbrev pub before_key_data : Under → KeyFields → List ℕ → Outcome → Outcome
before_key_data u f octets then_ =
    above u.kept f.counter
    (if bytes_eq f.nonce u.key.anonce
    then (if bytes_eq f.mic (mic u.base.akm u.key.ptk.kck octets) then then_ else Refused reason.Mic)
    else Refused reason.Nonce)

-- its MIC verified, and its key data is that
pub record IsVerified (u : Under) (f : KeyFields) (octets : List ℕ) (r : Result CarriedKeys Reason) : Type 0 where
  pub comes : (o : Outcome) → before_key_data u f octets o ≡ o
  pub opened : IsOpened u.protected (Some u.base) u.key.ptk.kek f.key_data r

-- or it is refused before
abbrev pub IsRefusedBefore : Under → KeyFields → List ℕ → Result CarriedKeys Reason → Type 0
IsRefusedBefore u f octets (Ok c) = ⊥
IsRefusedBefore u f octets (Err why) = (o : Outcome) → before_key_data u f octets o ≡ Refused why

-- what it is judged as: its group keys, or why it is refused; and the KCK where its MIC verified
abbrev pub IsM3 : Under → KeyFields → List ℕ → Result CarriedKeys Reason → Option (List ℕ) → Type 0
IsM3 u f octets r None = IsRefusedBefore u f octets r
IsM3 u f octets r (Some kck) = (kck ≡ u.key.ptk.kck) × IsVerified u f octets r
