use Rattle.aes_block.proofs.RoundLemmas.{next_round_key_is}
use Rattle.aes_block.proofs.next_round_key.Goals as goal

pub returns : goal.returns
returns c = λ x k below b ex ek. next_round_key_is x k c.args.key below b ex ek c.turned_word.ensures
