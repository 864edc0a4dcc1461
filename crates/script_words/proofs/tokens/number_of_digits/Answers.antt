use Rattle.std.proofs.Common.{sym, ◌∙◌}
use Rattle.script_words.proofs.Numbered.{OneMore-step}
use Rattle.script_words.proofs.tokens.number_of_digits.Goals as goal

pub loop-digit-preserved : goal.loop-digit-preserved
loop-digit-preserved c =
    let digit = sym c.is_ascii_digit.ensures.value ∙ c.if-not-is_ascii_digit.false in
    let range = c.if-not-is_ascii_digit.ensures.cases in
    OneMore-step c.args.text.now c.loop-digit.digit-index c.loop-digit.number c.from.result c.loop-digit-test.true c.loop-digit.invariant digit range.0 range.1 c.from.ensures
