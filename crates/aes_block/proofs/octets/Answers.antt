use Rattle.std.proofs.Common.{◌∙◌}
use Rattle.aes_block.proofs.WordLemmas.{halves_joined}
use Rattle.aes_block.proofs.octets.Goals as goal

pub returns : goal.returns
returns c =
    halves_joined c.args.state (c.copy_from_slice.ensures.after ∙ c.half.ensures) (c.copy_from_slice-2.ensures.after ∙ c.half-2.ensures)
