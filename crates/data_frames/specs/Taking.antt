-- What taking protected data under a key in use comes to (IEEE Std 802.11-2020, 12.5.3.4, profile).
use Rattle.std.specs.Prelude.{◌≡◌, ℕ, List, [], ◌∷◌, ◌++◌, Some, None}
use Rattle.domain_base.specs.declared.names.Node.{Node}
use Rattle.ccmp_guard.specs.declared.guard.GuardFault.{GuardFault}
use Rattle.ccmp_guard.specs.declared.guard.GuardFault.TheVariants as fault
use Rattle.ccmp_guard.specs.Ccmp.{packet_number, ccm_nonce, ccm_aad}
use Rattle.ccmp_guard.specs.Roles.{key_id, counter_of}
use Rattle.ccmp_guard.specs.Held.{Held, with_taken}
use Rattle.ccmp_guard.specs.Faults.{unprotect_fault}
use Rattle.run_journal.specs.declared.acts.Kind.TheVariants.{Data}
use Rattle.run_journal.specs.declared.acts.Reason.{Reason}
use Rattle.run_journal.specs.declared.acts.Reason.TheVariants as reason
use Rattle.run_journal.specs.declared.acts.Outcome.TheVariants.{Accepted, Refused}
use Rattle.run_journal.specs.declared.acts.Act.{Act}
use Rattle.run_journal.specs.declared.acts.Act.TheVariants.{Took, HandedUp}
use Rattle.domain_rules.specs.DataFrames.{data_seal}
use Rattle.domain_rules.specs.DataVerdict.{IsOpened}
use Rattle.node_base.specs.Events.{Seen}
use Rattle.frame_intake.specs.SealedFields.{SealedFields}

-- the form of the seal of protected data, and what the seal covers before the plain text (12.5.3.3, profile)
abbrev pub covered_front : List ℕ → ℕ → List ℕ
covered_front header pn = 3 ∷ (ccm_nonce header pn ++ ccm_aad header)

-- why protected data is refused that came as far as its key: the reader saw to the header of its body
abbrev pub reason_of : GuardFault → Reason
reason_of (fault.Replayed kept) = reason.Replayed kept
reason_of fault.NoKey = reason.NoKey
reason_of fault.KeyId = reason.NoKey
reason_of _ = reason.Seal

-- the act of refusing protected data, for that reason
abbrev pub refusal : Node → List ℕ → Reason → List Act
refusal p octets why = Took (Some p) octets Data (Refused why) None ∷ []

-- what a payload that was opened under the key is handed up by
abbrev pub taken_acts : Node → List ℕ → SealedFields → Held → List ℕ → List Act
taken_acts p octets s k plain =
    Took (Some p) octets Data Accepted (Some (data_seal k.key s.header.octets (packet_number s.body) plain))
    ∷ HandedUp p k.key (key_id k.role) (counter_of k.role s.header.octets) (packet_number s.body) plain ∷ []

-- the body opens to that plain text, and its packet number is taken
pub record IsOpenedTo (f : SealedFields) (old new : Held) (plain : List ℕ) : Type 0 where
  pub faultless : unprotect_fault (Some old) f.header.octets f.body ≡ None
  pub opened : IsOpened old.key (key_id old.role) f.header.octets f.body (Some plain)
  pub taken : new ≡ with_taken f.header.octets (packet_number f.body) old

-- the body is refused before its seal is tried, or its seal does not verify
pub data IsStoppedBy (f : SealedFields) (old : Held) (why : GuardFault) : Type 0 where
  Before : unprotect_fault (Some old) f.header.octets f.body ≡ Some why → IsStoppedBy f old why
  Unsealed : unprotect_fault (Some old) f.header.octets f.body ≡ None → why ≡ fault.Seal
      → IsOpened old.key (key_id old.role) f.header.octets f.body None → IsStoppedBy f old why

-- the key before and after these octets of p, which are that protected data, and what is seen of it
pub data IsOpenedUnder (p : Node) (octets : List ℕ) (f : SealedFields) (old new : Held) (s : Seen) : Type 0 where
  HandsUp : (plain : List ℕ) → IsOpenedTo f old new plain → s.outcome ≡ Accepted
      → s.waits ≡ s.waited ++ taken_acts p octets f old plain → IsOpenedUnder p octets f old new s
  Refuses : (why : GuardFault) → IsStoppedBy f old why → new ≡ old → s.outcome ≡ Refused (reason_of why)
      → s.waits ≡ s.waited ++ refusal p octets (reason_of why) → IsOpenedUnder p octets f old new s
