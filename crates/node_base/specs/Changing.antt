-- What a changed key is to a node and its network (profile).
use Rattle.std.specs.Prelude.{◌≡◌, ℕ, ◌≤◌, ◌+◌, ◌*◌, length}
use Rattle.domain_base.specs.declared.names.Node.TheVariants.{Sta}
use Rattle.run_journal.specs.declared.domain.Domain.{Domain}
use Rattle.run_journal.specs.Changed.{changed}
use Rattle.domain_rules.specs.Network.{mac, psk_of}
use Rattle.domain_rules.specs.Rows.{NodeEvent, Secret}

-- the network after an event at a node: a changed key is that of its stations then
abbrev pub after : Domain → NodeEvent → Domain
after d (Secret named psk) = changed d named psk
after d event = d

-- to how many acts a changed key comes at a node at most, where so many stations are listed
abbrev pub most_changed : ℕ → ℕ
most_changed stas = 6 + 4 * stas

-- the event is a changed key, and there is room for its acts
abbrev pub HasRoomFor : Domain → NodeEvent → ℕ → Type 0
HasRoomFor d (Secret named psk) spare = most_changed (length d.stas) ≤ spare
HasRoomFor d event spare = ⊥

-- what goes for each event but for a changed key
abbrev pub ButSecret : NodeEvent → Type 0 → Type 0
ButSecret (Secret named psk) P = Unit {0}
ButSecret event P = P

-- the event is no changed key
abbrev pub IsStill : NodeEvent → Type 0
IsStill (Secret named psk) = ⊥
IsStill event = Unit {0}

-- network e is network d, with other keys of stations: those of which it is told have the same key
pub record Rekeys (d e : Domain) (IsSame : ℕ → Type 0) : Type 0 where
  pub seed : e.seed ≡ d.seed
  pub ssid : e.ssid ≡ d.ssid
  pub akm : e.akm ≡ d.akm
  pub mdid : e.mdid ≡ d.mdid
  pub extras : e.extras ≡ d.extras
  pub aps : e.aps ≡ d.aps
  pub count : length e.stas ≡ length d.stas
  pub macs : (k : ℕ) → mac e (Sta k) ≡ mac d (Sta k)
  pub keys : (k : ℕ) → IsSame k → psk_of e (Sta k) ≡ psk_of d (Sta k)
