-- Association responses at a station, by what they say (IEEE Std 802.11-2020, 13.4.2).
-- For the code alone: no public contract speaks of it.
use Rattle.std.specs.Prelude.{◌==◌, ℕ, List, [], Option, Some, None, unwrap_or, if◌then◌else◌}
use Rattle.domain_base.specs.declared.names.Akm.{Akm}
use Rattle.domain_base.specs.declared.names.Akm.TheVariants.{FtPsk}
use Rattle.domain_base.specs.declared.names.Node.TheVariants.{Ap}
use Rattle.rsn_elements.specs.Elements.{ElementFields}
use Rattle.run_journal.specs.declared.domain.Domain.{Domain}
use Rattle.run_journal.specs.declared.acts.Reason.{Reason}
use Rattle.run_journal.specs.declared.acts.Reason.TheVariants as reason
use Rattle.run_journal.specs.declared.acts.Outcome.{Outcome}
use Rattle.run_journal.specs.declared.acts.Outcome.TheVariants.{Accepted, Refused}
use Rattle.domain_rules.specs.Associating.{response_fields}

-- what came of a frame for which that is why it is refused
abbrev pub outcome_by : Option Reason → Outcome
outcome_by None = Accepted
outcome_by (Some why) = Refused why

-- a response of access point ap that is awaited
abbrev pub response_outcome : Domain → ℕ → ℕ → ElementFields → Outcome
response_outcome d ap status e =
    if status == 0 then response_fields d.akm d (Ap ap) e else Refused (reason.Status status)

-- its FTE as a supplicant takes it
abbrev pub fte_with : Akm → ElementFields → List ℕ
fte_with FtPsk e = unwrap_or e.fte_octets []
fte_with _ e = []
