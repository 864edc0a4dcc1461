use Rattle.std.proofs.Common.{◌≡◌, ◌∙◌, ℕ, ap, ◌++◌, arith}
use Rattle.std.specs.Int.{w32, to_be_bytes}
use Rattle.mac_prf.specs.Pbkdf2.{sum_of_iterates}
use Rattle.mac_prf.proofs.Iterates.{first_reached, next_reached}
use Rattle.mac_prf.proofs.passphrase.pbkdf2_block.Goals as goal

pub loop-init : goal.loop-init
loop-init c key held =
    let text = rw c.to_be_bytes.ensures at (c.update-2.ensures key _ (c.update.ensures key _ (c.fork-state.ensures key _ held))) in
    first_reached key _ _ (c.finalize-iterate.ensures key _ text)

pub loop-preserved : goal.loop-preserved
loop-preserved c key held =
    next_reached key _ _ _ _ _ c.loop.counter (c.loop.invariant key held) (c.next_iterate-iterate.ensures key held) c.add.ensures

pub returns : goal.returns
returns c key held =
    (c.loop.invariant key held).total ∙ ap (λ (n : ℕ). sum_of_iterates key (c.args.salt.now ++ to_be_bytes w32 c.args.i) n) (let e : c.loop.counter ≡ c.args.count = omega arith in e)
