use Rattle.command_words.proofs.Digits.{OneMore}
use Rattle.command_words.proofs.numbers.digits_number.Given as goal

-- the digits so far write the number so far
abbrev pub invariant-loop-digit : goal.invariant-loop-digit
invariant-loop-digit l = OneMore l.text l.digit-index l.number
