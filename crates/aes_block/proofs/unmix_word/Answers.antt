use Rattle.std.proofs.Common.{◌<◌, ◌/◌, ◌%◌, ◌^◌, arith}
use Rattle.aes_block.proofs.RoundLemmas.{unmix_word_is}
use Rattle.aes_block.proofs.unmix_word.Goals as goal

pub returns : goal.returns
returns c =
    let w = c.args.word in
    let first : w / 2 ^ 24 < 256 = omega arith in
    let second : w / 2 ^ 16 % 256 < 256 = omega arith in
    let third : w / 2 ^ 8 % 256 < 256 = omega arith in
    let fourth : w % 256 < 256 = omega arith in
    let is = unmix_word_is (w / 2 ^ 24) (w / 2 ^ 16 % 256) (w / 2 ^ 8 % 256) (w % 256) first second third fourth c.substituted_column-s.ensures in
    c.unmixed_column.ensures (w / 2 ^ 24) (w / 2 ^ 16 % 256) (w / 2 ^ 8 % 256) (w % 256) first second third fourth is.0 is.1 is.2 is.3
