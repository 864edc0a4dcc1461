-- Action frames to a group, without where they lie in memory (IEEE Std 802.11-2020, 9.3.3.13, 12.5.4).
use Rattle.std.specs.Prelude.{◌≡◌, true, List, ℕ, length}
use Rattle.air_frame.specs.Fields.{HeaderFields}
use Rattle.bip_guard.specs.Bip.{EndsInMme}
use Rattle.run_journal.specs.Addresses.{is_group}
use Rattle.domain_rules.specs.Reading.{Reading, Acting}

-- an Action frame: its header and its body
pub record ActionFields : Type 0 where
  pub header : HeaderFields
  pub body : List ℕ

-- what it is to a node
abbrev pub action_reading : ActionFields → Reading
action_reading a = Acting a.header a.body

-- the header has 24 octets and names a group as its receiver, and the body ends in an MME
pub record IsActionFrame (a : ActionFields) : Type 0 where
  pub header : length a.header.octets ≡ 24
  pub group : is_group a.header.a1 ≡ true
  pub mme : EndsInMme a.body
