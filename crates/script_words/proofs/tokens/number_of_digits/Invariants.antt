use Rattle.script_words.proofs.Numbered.{OneMore}
use Rattle.script_words.proofs.tokens.number_of_digits.Given as goal

-- the digits so far write the number so far
abbrev pub invariant-loop-digit : goal.invariant-loop-digit
invariant-loop-digit l = OneMore l.text l.digit-index l.number
