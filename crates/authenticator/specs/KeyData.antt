-- How the key data of an M2 is judged (IEEE Std 802.11-2020, 12.7.6.3).
-- For the code alone: no public contract speaks of it.
use Rattle.std.specs.Prelude.{◌≡◌, ℕ, Bool, false, not, ◌&&◌, List, Option, Some, None, option_and_then, bytes_eq, if◌then◌else◌}
use Rattle.rsn_elements.specs.declared.framing.Within.TheVariants.{Body}
use Rattle.rsn_elements.specs.Rsne.{RsneFields}
use Rattle.rsn_elements.specs.Transition.{MdeFields}
use Rattle.rsn_elements.specs.Elements.{ElementFields, SpellsElements}
use Rattle.run_journal.specs.declared.acts.KeyDataFault.{KeyDataFault}
use Rattle.run_journal.specs.declared.acts.KeyDataFault.TheVariants as fault
use Rattle.run_journal.specs.declared.acts.Reason.TheVariants as reason
use Rattle.run_journal.specs.declared.acts.Outcome.{Outcome}
use Rattle.run_journal.specs.declared.acts.Outcome.TheVariants.{Accepted, Refused}
use Rattle.domain_rules.specs.Facts.{is_same, ReadsKeyData}
use Rattle.domain_rules.specs.TransitionKeyData.{has_same_suites}
use Rattle.frame_making.specs.Mobile.{Mobility}
use Rattle.domain_rules.specs.AccessPointKeys.{m2_key_data}

abbrev pub key_data_outcome : Option KeyDataFault → Outcome
key_data_outcome None = Accepted
key_data_outcome (Some fault) = Refused (reason.KeyData fault)

-- what is wrong with its RSNE with suites 2 and 6, by that of the request
abbrev pub plain_fault : Option (List ℕ) → List ℕ → Option KeyDataFault
plain_fault found rsne = if is_same found (Some rsne) then None else Some fault.Rsne

-- it names that key, and no other
abbrev pub is_named_by : List ℕ → Option RsneFields → Bool
is_named_by name rsne = is_same (option_and_then (λ (r : RsneFields). r.pmkids) rsne) (Some name)

-- it is of that mobility domain
abbrev pub has_mdid : List ℕ → Option MdeFields → Bool
has_mdid mdid None = false
has_mdid mdid (Some f) = bytes_eq f.mdid mdid

-- what is wrong with its elements with suite 4, by the RSNE of the request
abbrev pub mobile_fault : Mobility → Option RsneFields → ElementFields → Option KeyDataFault
mobile_fault m requested e =
    if not (has_same_suites e.rsne requested && is_named_by m.name e.rsne) then Some fault.Rsne
    else if not (has_mdid m.mdid e.mde) then Some fault.Mde
    else if is_same e.fte_octets (Some m.fte) then None
    else Some fault.Fte

-- what is wrong with what it says, where those octets spell the RSNE of the request
abbrev pub mobile_data : Mobility → Option RsneFields → Option ElementFields → Option KeyDataFault
mobile_data m requested None = Some fault.Unreadable
mobile_data m requested (Some e) = mobile_fault m requested e

abbrev pub SaysKeyData : Option Mobility → List ℕ → Option ElementFields → Option KeyDataFault → Type 0
SaysKeyData None rsne says what = m2_key_data (Some rsne) says ≡ key_data_outcome what
SaysKeyData (Some m) rsne says what =
    (e : ElementFields) → SpellsElements Body rsne e → mobile_data m e.rsne says ≡ what

-- the key data says the RSNE of the request, with suite 4 with the name of the key, the mobility domain and the FTE, or what is wrong
-- with it
pub record IsKeyDataOf (m : Option Mobility) (rsne octets : List ℕ) (fault : Option KeyDataFault) : Type 0 where
  pub says : Option ElementFields
  pub reads : ReadsKeyData octets says
  pub is : SaysKeyData m rsne says fault
