use Rattle.std.proofs.Common.{◌∙◌}
use Rattle.entry_lines.proofs.Digits.{sized_hex}
use Rattle.entry_lines.proofs.values.array_of.Goals as goal

pub returns-in-Ok : goal.returns-in-Ok
returns-in-Ok g c = λ octets is same. (let both = c.in-Ok.ensures ∙ sized_hex g.row.N c.args.word.now octets is same in cc both)

pub returns-in-Err : goal.returns-in-Err
returns-in-Err g c = λ octets is same. (let both = c.in-Err.ensures ∙ sized_hex g.row.N c.args.word.now octets is same in absurd (cc both))
