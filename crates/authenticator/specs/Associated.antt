-- What an association of a station gave (IEEE Std 802.11-2020, 12.7.6.3, profile).
use Rattle.std.specs.Prelude.{ℕ, List}
use Rattle.authenticator.specs.declared.base.Base.{Base}

-- what its keys go back to, and the RSNE of the request
pub record Associated : Type 0 where
  pub base : Base
  pub rsne : List ℕ
