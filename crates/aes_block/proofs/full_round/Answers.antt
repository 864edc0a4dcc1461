use Rattle.aes_block.proofs.RoundLemmas.{full_round_is}
use Rattle.aes_block.proofs.full_round.Goals as goal

pub returns : goal.returns
returns c = λ s k bs bk es ek.
    full_round_is s k c.args.state c.args.key bs bk es ek c.mixed_column.ensures c.mixed_column-2.ensures c.mixed_column-3.ensures c.mixed_column-4.ensures
