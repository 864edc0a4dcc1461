use Rattle.std.proofs.Common.{◌++◌, ◌∙◌, rules}
use Rattle.holder_table.proofs.Pieces.{name_parts}
use Rattle.holder_table.proofs.words.NameWords.of.Goals as goal

pub returns : goal.returns
returns c =
    let a = c.word_at.ensures in
    let b = c.word_at-2.ensures in
    (λ i. a i ++ b i) ∙ name_parts c.args.name.now (search rules)
