use Rattle.std.proofs.Common.{◌≡◌, ◌++◌, length, ◌∙◌, rules}
use Rattle.holder_table.proofs.Pieces.{key_parts}
use Rattle.holder_table.proofs.words.RowWords.of_parts.Goals as goal

pub returns-clause-key : goal.returns-clause-key
returns-clause-key c =
    let len : length c.args.key.now ≡ 32 = search rules in
    let a = c.word_at-first.ensures in
    let b = c.word_at-second.ensures in
    let d = c.word_at-third.ensures in
    let e = c.word_at-fourth.ensures in
    (λ i. a i ++ b i ++ d i ++ e i) ∙ key_parts c.args.key.now len
