use Rattle.std.proofs.Common.{ℕ, List, take, drop, ap, ◌∙◌}
use Rattle.aes_block.specs.Octets.{exclusive_or}
use Rattle.aes_block.specs.Cipher.{cipher}
use Rattle.aes_block.proofs.CipherLemmas.{length-cipher}
use Rattle.key_wrap.specs.KeyWrap.{counter}
use Rattle.key_wrap.proofs.StepLemmas.{lower_half}
use Rattle.key_wrap.proofs.wrap_step.Goals as goal

pub returns : goal.returns
returns c =
    let block = c.encrypt-encrypted.ensures ∙ ap (cipher c.args.key.now) c.joined.ensures in record {
      check = c.with_count-upper.ensures ∙ ap (λ (w : List ℕ). exclusive_or w (counter c.args.t)) (c.upper_half.ensures ∙ ap (take 8) block);
      block = c.copy_from_slice.ensures.after ∙ ap (λ (w : List ℕ). take 8 (drop 8 w)) block ∙ lower_half _ (length-cipher c.args.key.now _);
    }
