use Rattle.std.proofs.Common.{◌∙◌}
use Rattle.aes_block.proofs.WordLemmas.{word_of_octets, four_words, columns_are}
use Rattle.aes_block.proofs.columns.Goals as goal

pub returns : goal.returns
returns c =
    four_words (c.from_be_bytes.ensures ∙ word_of_octets _ _ _ _) (c.from_be_bytes-2.ensures ∙ word_of_octets _ _ _ _)
    (c.from_be_bytes-3.ensures ∙ word_of_octets _ _ _ _) (c.from_be_bytes-4.ensures ∙ word_of_octets _ _ _ _)
    ∙ columns_are c.args.block
