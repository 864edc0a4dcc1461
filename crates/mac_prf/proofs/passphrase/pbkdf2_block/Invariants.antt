use Rattle.std.proofs.Common.{ℕ, List, [], ◌++◌}
use Rattle.std.specs.Int.{w32, to_be_bytes}
use Rattle.sha1.specs.Sha1.{sha1, Holds as HoldsSha1}
use Rattle.mac_prf.specs.HoldsText.{HoldsText}
use Rattle.mac_prf.proofs.Iterates.{IsReached}
use Rattle.mac_prf.proofs.passphrase.pbkdf2_block.Given as goal

-- the iterate of the counter, and the sum up to it
abbrev pub invariant-loop : goal.invariant-loop
invariant-loop l =
    (key : List ℕ) → HoldsText HoldsSha1 sha1 l.keyed.inner l.keyed.outer key [] → IsReached key (l.salt ++ to_be_bytes w32 l.fn.i) l.iterate l.sum l.counter
