use Rattle.std.proofs.Common.{◌≡◌, ℕ, ◌<◌, ◌+◌, List, [], length, get_or}
use Rattle.aes_block.specs.Octets.{IsBlock}
use Rattle.aes_block.specs.Cipher.{round_key}
use Rattle.aes_block.specs.Words.{columns, unmix_columns}
use Rattle.aes_block.proofs.unmix_keys.Given as goal

abbrev pub invariant-loop-i : goal.invariant-loop-i
invariant-loop-i l = record {
  len : length l.unmixed ≡ 9;
  keys : (s : List ℕ) → IsBlock s → ((k : ℕ) → k < 11 → get_or l.fn.round_keys k [] ≡ columns (round_key s k))
      → (k : ℕ) → k < l.i → get_or l.unmixed k [] ≡ columns (unmix_columns (round_key s (k + 1)));
}
