-- What the keyed state of a KCK holds.
-- For the code alone: no public contract speaks of it.
use Rattle.std.specs.Prelude.{ℕ, List, []}
use Rattle.sha1.specs.Sha1.{sha1, Holds as HoldsSha1}
use Rattle.mac_prf.specs.HoldsText.{HoldsText}
use Rattle.mac_prf.specs.HoldsBlocks.{HoldsBlocks}
use Rattle.mac_prf.specs.declared.integrity.Keyed.{Keyed}
use Rattle.mac_prf.specs.declared.integrity.Keyed.TheVariants.{Hmac, Cmac}

-- it has taken in the key, and no text
abbrev pub HoldsKeyed : Keyed → List ℕ → Type 0
HoldsKeyed (Hmac h) kck = HoldsText HoldsSha1 sha1 h.inner h.outer kck []
HoldsKeyed (Cmac s) kck = HoldsBlocks s.cipher s.chain s.block s.count kck []
