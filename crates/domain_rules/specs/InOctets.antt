-- What a network has that is put into frames of fast transition: of the sizes that their fields have, and of octets. So
-- it is of every network that a program reads (profile).
use Rattle.std.specs.Prelude.{◌≡◌, length}
use Rattle.std.specs.List.{AllByRecursion}
use Rattle.domain_base.specs.Octets.{AreOctets}
use Rattle.air_frame.specs.Sent.{IsAddress}
use Rattle.run_journal.specs.declared.domain.Domain.{Domain}
use Rattle.run_journal.specs.declared.domain.ListedAp.{ListedAp}
use Rattle.run_journal.specs.declared.domain.ListedSta.{ListedSta}

-- what fast transition puts into frames of a network is of octets, with a mobility domain of two octets and addresses
-- of six
pub record InOctets (d : Domain) : Type 0 where
  pub mdid : length d.mdid ≡ 2
  pub ap_sizes : AllByRecursion (λ (a : ListedAp). IsAddress a.address.0) d.aps
  pub sta_sizes : AllByRecursion (λ (s : ListedSta). IsAddress s.address.0) d.stas
  pub mdid_octets : AreOctets d.mdid
  pub ap_octets : AllByRecursion (λ (a : ListedAp). AreOctets a.address.0) d.aps
  pub sta_octets : AllByRecursion (λ (s : ListedSta). AreOctets s.address.0) d.stas
  pub id_octets : AllByRecursion (λ (a : ListedAp). AreOctets a.r0kh_id) d.aps
