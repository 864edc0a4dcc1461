use Rattle.aes_block.proofs.RoundLemmas.{last_round_is}
use Rattle.aes_block.proofs.last_round.Goals as goal

pub returns : goal.returns
returns c = λ s k bs bk es ek.
    last_round_is s k c.args.state c.args.key bs bk es ek c.substituted_column.ensures c.substituted_column-2.ensures
    c.substituted_column-3.ensures c.substituted_column-4.ensures
