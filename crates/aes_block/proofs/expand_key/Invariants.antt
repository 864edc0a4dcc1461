use Rattle.std.proofs.Common.{◌≡◌, ℕ, ◌<◌, ◌+◌, List, [], length, get_or}
use Rattle.aes_block.specs.Octets.{IsBlock}
use Rattle.aes_block.specs.Cipher.{round_key}
use Rattle.aes_block.specs.Words.{columns}
use Rattle.aes_block.proofs.expand_key.Given as goal

abbrev pub invariant-loop-n : goal.invariant-loop-n
invariant-loop-n l = record {
  len : length l.round_keys ≡ 11;
  keys : (s : List ℕ) → IsBlock s → l.fn.key ≡ columns s → (k : ℕ) → k < l.n + 1 → get_or l.round_keys k [] ≡ columns (round_key s k);
}
