use Rattle.std.proofs.Common.{sym, ap, arith, ℕ, List, ◌++◌, take}
use Rattle.std.proofs.lemmas.List.{length-take, length-drop, take_all, append-nil}
use Rattle.mac_prf.proofs.Chains.{holds-same, taken_more}
use Rattle.mac_prf.proofs.chaining.CmacState.update.Goals as goal

pub loop-at-init : goal.loop-at-init
loop-at-init c = record {
  within = omega arith;
  taken = λ key text h. holds-same _ _ _ _ key _ _ (sym (append-nil text)) h;
}

pub loop-at-preserved : goal.loop-at-preserved
loop-at-preserved c = record {
  within = omega (arith, length-take {A = ℕ}, length-drop {A = ℕ}, c.take_in-count.ensures.few);
  taken = λ key text h.
      let piece = c.args.piece.now in
      let at = c.loop-at.at in
      holds-same _ _ _ _ key _ _ (taken_more text piece at c.take_in-count.result)
      (c.take_in-count.ensures.holds key (text ++ take at piece) (c.loop-at.invariant.taken key text h));
}

pub returns : goal.returns
returns c key text h =
    holds-same _ _ _ _ key _ _ (ap (λ (w : List ℕ). text ++ w) (take_all c.loop-at.at c.args.piece.now (omega arith))) (c.loop-at.invariant.taken key text h)
