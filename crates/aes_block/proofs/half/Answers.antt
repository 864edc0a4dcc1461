use Rattle.std.proofs.Common.{◌∙◌, arith}
use Rattle.aes_block.proofs.WordLemmas.{half_is}
use Rattle.aes_block.proofs.half.Goals as goal

pub returns : goal.returns
returns c = c.to_be_bytes.ensures ∙ half_is c.args.first c.args.second (omega arith) (omega arith)
