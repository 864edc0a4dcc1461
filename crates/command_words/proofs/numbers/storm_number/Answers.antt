use Rattle.std.proofs.Common.{◌≡◌, ◌<◌, ◌∙◌, ◌^◌, ℕ, Bool, true, List, Option, Some, None, ap, sym, arith, nat_lt, option_and_then, rules}
use Rattle.std.specs.Prelude.{if◌then◌else◌}
use Rattle.command_words.specs.Words.{digits_number, storm_number}
use Rattle.command_words.proofs.numbers.storm_number.Goals as goal

-- a number of 32 bits that the text writes
storm_of : (text : List ℕ) (found : Option ℕ) (number : ℕ) → found ≡ Some number → found ≡ digits_number text → number < 2 ^ 32 → Some number ≡ storm_number text
storm_of text found number is of small =
    let test : nat_lt number (2 ^ 32) ≡ true = search rules in
    ap (λ (b : Bool). if b then Some number else None) (sym test)
    ∙ ap (option_and_then (λ (n : ℕ). if nat_lt n (2 ^ 32) then Some n else None)) (sym is ∙ of)

pub overflow_cast-result : goal.overflow_cast-result
overflow_cast-result c = omega arith

pub returns-then-number : goal.returns-then-number
returns-then-number c = storm_of c.args.text.now _ c.in-Some.number c.in-Some.is c.digits_number.ensures (omega arith)
