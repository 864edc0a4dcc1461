use Rattle.std.proofs.Common.{◌≡◌, ◌++◌, take, drop}
use Rattle.mac_prf.specs.Hmac.{masked}
use Rattle.mac_prf.proofs.hmac.mask.Given as goal

-- the octets so far are masked, and the rest stand as they were
abbrev pub invariant-loop-octet : goal.invariant-loop-octet
invariant-loop-octet l = l.block ≡ masked l.pad (take l.octet-index l.fn.block) ++ drop l.octet-index l.fn.block
