-- Frames under their MIC (IEEE Std 802.11-2020, 12.7.2).
use Rattle.std.specs.Prelude.{ℕ, List, ◌++◌, take, drop}
use Rattle.domain_base.specs.declared.names.Akm.{Akm}
use Rattle.mac_prf.specs.Mic.{mic}

-- the frame with its MIC in its MIC field, octets 81 to 96
abbrev pub sealed : Akm → List ℕ → List ℕ → List ℕ
sealed akm kck frame = take 81 frame ++ mic akm kck frame ++ drop 97 frame
