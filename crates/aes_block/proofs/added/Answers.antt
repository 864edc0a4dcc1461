use Rattle.aes_block.proofs.RoundLemmas.{added_is}
use Rattle.aes_block.proofs.added.Goals as goal

pub returns : goal.returns
returns c = λ s k bs bk es ek. added_is s k c.args.state c.args.key bs bk es ek
