-- Protected data, without where it lies in memory (IEEE Std 802.11-2020, 9.3.2.1, 12.5.3.2).
use Rattle.std.specs.Prelude.{◌≡◌, ◌≤◌, ℕ, List, ◌++◌, length, Option, unwrap_or}
use Rattle.domain_base.specs.Octets.{AreOctets}
use Rattle.air_frame.specs.Fields.{HeaderFields}
use Rattle.air_frame.specs.declared.frame.Direction.{Direction}
use Rattle.ccmp_guard.specs.Ccmp.{IsHeader, traffic_identifier, ext_iv}
use Rattle.domain_rules.specs.Reading.{Reading, Sealed}

-- protected data: its header, which way it goes, its TID where it is QoS data, and its body
pub record SealedFields : Type 0 where
  pub header : HeaderFields
  pub direction : Direction
  pub tid : Option ℕ
  pub body : List ℕ

-- what it is to a node
abbrev pub sealed_reading : SealedFields → Reading
sealed_reading s = Sealed s.header s.direction s.tid s.body

-- the header is that of data or of QoS data, which has the TID in it, and the body has room for the CCMP header, with the bit
-- ExtIV set, and the MIC
pub record IsSealedData (s : SealedFields) : Type 0 where
  pub header : IsHeader s.header.octets
  pub tid : unwrap_or s.tid 0 ≡ traffic_identifier s.header.octets
  pub long : 16 ≤ length s.body
  pub extended : ext_iv s.body ≡ 1
  pub octets : AreOctets (s.header.octets ++ s.body)
