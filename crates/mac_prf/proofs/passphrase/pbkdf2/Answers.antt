use Rattle.std.proofs.Common.{◌∙◌, ◌++◌, ℕ, List, ap, take, replicate, arith, refl}
use Rattle.mac_prf.specs.Pbkdf2.{pbkdf2, pbkdf2_block}
use Rattle.mac_prf.proofs.Halves.{two_blocks}
use Rattle.mac_prf.proofs.passphrase.pbkdf2.Goals as goal

pub returns : goal.returns
unfolding pbkdf2
returns c =
    let first = c.pbkdf2_block-first.ensures _ c.new-keyed.ensures in
    let second = c.pbkdf2_block-second.ensures _ c.new-keyed.ensures in
    two_blocks (replicate 32 0) _ _ _ _ refl (omega arith) (omega arith) (omega arith) (omega arith) c.put_block.ensures.front c.put_block-2.ensures.front
    ∙ ap (λ (w : List ℕ). take 32 (w ++ c.pbkdf2_block-second.result)) first
    ∙ ap (λ (w : List ℕ). take 32 (pbkdf2_block c.args.passphrase.now c.args.ssid.now 4096 1 ++ w)) second
