use Rattle.std.proofs.Common.{ℕ, ◌+◌, refl, sym, ap, ◌∙◌, arith}
use Rattle.std.proofs.lemmas.List.{length-set}
use Rattle.aes_block.specs.Cipher.{power_of_x, round_key}
use Rattle.aes_block.specs.Words.{columns}
use Rattle.aes_block.proofs.KeyLemmas.{round_constant_at, power_of_x_below, round_key-more, IsBlock-round_key, filled_more, keys_first}
use Rattle.aes_block.proofs.expand_key.Goals as goal

pub loop-n-init : goal.loop-n-init
loop-n-init c = record {
  len = refl;
  keys = λ s b e. keys_first c.args.key s e;
}

pub loop-n-preserved : goal.loop-n-preserved
loop-n-preserved c = record {
  len = length-set _ _ _ ∙ c.loop-n.invariant.len;
  keys = λ s b e.
      let n = c.loop-n.n in
      let done = c.loop-n.invariant.keys s b e in
      filled_more c.loop-n.round_keys (λ (k : ℕ). columns (round_key s k)) (n + 1) (omega (arith, c.loop-n.invariant.len)) done
      (c.next_round_key.ensures (power_of_x n) (round_key s n) (power_of_x_below n) (IsBlock-round_key s n b) (round_constant_at n (omega arith)) (done n (omega arith))
      ∙ ap columns (sym (round_key-more s n)));
}

pub returns : goal.returns
returns c = λ s b e n h. c.loop-n.invariant.keys s b e n (omega arith)
