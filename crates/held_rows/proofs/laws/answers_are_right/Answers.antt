use Rattle.held_rows.proofs.Pulling.{answers_by_rows, answers_by_holder, answers_no_holder}
use Rattle.held_rows.proofs.laws.answers_are_right.Goals as goal

pub returns : goal.returns
returns c = record { by_rows = λ d n xs past l k answer. answers_by_rows d n xs past l k answer; by_holder = λ d has rows past l k r id answer. answers_by_holder d has rows past l k r id answer; no_holder = answers_no_holder }
