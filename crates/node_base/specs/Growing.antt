-- A network with more nodes (profile).
use Rattle.std.specs.Prelude.{◌≡◌, ◌++◌, List}
use Rattle.run_journal.specs.declared.domain.Domain.{Domain}
use Rattle.run_journal.specs.declared.domain.ListedAp.{ListedAp}
use Rattle.run_journal.specs.declared.domain.ListedSta.{ListedSta}

-- a network e with the header of another, d, and its nodes with others after them
pub record Grows (d e : Domain) : Type 0 where
  pub seed : e.seed ≡ d.seed
  pub ssid : e.ssid ≡ d.ssid
  pub akm : e.akm ≡ d.akm
  pub mdid : e.mdid ≡ d.mdid
  pub extras : e.extras ≡ d.extras
  pub more_aps : List ListedAp
  pub aps : e.aps ≡ d.aps ++ more_aps
  pub more_stas : List ListedSta
  pub stas : e.stas ≡ d.stas ++ more_stas
