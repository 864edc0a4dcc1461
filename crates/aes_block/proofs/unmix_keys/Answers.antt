use Rattle.std.proofs.Common.{ℕ, ◌+◌, refl, ◌∙◌, arith}
use Rattle.std.proofs.lemmas.List.{length-set}
use Rattle.aes_block.specs.Cipher.{round_key}
use Rattle.aes_block.specs.Words.{columns, unmix_columns}
use Rattle.aes_block.proofs.KeyLemmas.{IsBlock-round_key, filled_more}
use Rattle.aes_block.proofs.unmix_keys.Goals as goal

pub loop-i-init : goal.loop-i-init
loop-i-init c = record {
  len = refl;
  keys = λ s b are k h. absurd (omega arith);
}

pub loop-i-preserved : goal.loop-i-preserved
loop-i-preserved c = record {
  len = length-set _ _ _ ∙ c.loop-i.invariant.len;
  keys = λ s b are.
      let n = c.loop-i.i in
      filled_more c.loop-i.unmixed (λ (k : ℕ). columns (unmix_columns (round_key s (k + 1)))) n (omega (arith, c.loop-i.invariant.len))
      (c.loop-i.invariant.keys s b are)
      (c.unmix_key.ensures (round_key s (n + 1)) (IsBlock-round_key s (n + 1) b) (are (n + 1) (omega arith)));
}

pub returns : goal.returns
returns c = λ s b are n h. c.loop-i.invariant.keys s b are n (omega arith)
