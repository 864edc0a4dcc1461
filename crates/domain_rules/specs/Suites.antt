-- Which RSNE fits, and which is sent (IEEE Std 802.11-2020, 9.4.1.9, 9.4.2.24, profile).
use Rattle.std.specs.Prelude.{ℕ, List, Option, Some, None, if◌then◌else◌}
use Rattle.domain_base.specs.declared.names.Akm.{Akm}
use Rattle.rsn_elements.specs.Rsne.{RsneFields}
use Rattle.rsn_elements.specs.Fits as fits
use Rattle.rsn_elements.specs.Sent.{rsne_octets, rsne_mfp_octets}
use Rattle.run_journal.specs.declared.domain.Domain.{Domain}
use Rattle.run_journal.specs.Events.{protects}
use Rattle.run_journal.specs.declared.acts.Reason.TheVariants as reason
use Rattle.run_journal.specs.declared.acts.Outcome.{Outcome}
use Rattle.run_journal.specs.declared.acts.Outcome.TheVariants.{Refused}

-- the status with which a network refuses an RSNE (9.4.1.9)
abbrev pub rsne_status : Domain → Option RsneFields → Option ℕ
rsne_status d r = fits.rsne_status (protects d) d.akm r

-- the RSNE as a network with that suite sends it, with a PMKID or without: where management frames are protected, with the
-- capability and the suite that say so (9.4.2.24, profile)
abbrev pub network_rsne_by : Akm → Domain → Option (List ℕ) → List ℕ
network_rsne_by akm d name = if protects d then rsne_mfp_octets akm name else rsne_octets akm name

-- the RSNE as a network sends it (9.4.2.24, profile)
abbrev pub network_rsne : Domain → Option (List ℕ) → List ℕ
network_rsne d name = network_rsne_by d.akm d name

-- refused with that status, where there is one (profile)
abbrev pub without_status : Option ℕ → Outcome → Outcome
without_status None then_ = then_
without_status (Some status) then_ = Refused (reason.Status status)
