use Rattle.aes_block.proofs.RoundLemmas.{unmix_key_is}
use Rattle.aes_block.proofs.unmix_key.Goals as goal

pub returns : goal.returns
returns c = λ k b e. unmix_key_is k c.args.key b e c.unmix_word.ensures c.unmix_word-2.ensures c.unmix_word-3.ensures c.unmix_word-4.ensures
