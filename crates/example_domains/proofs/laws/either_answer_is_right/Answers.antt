use Rattle.example_domains.proofs.Example.{either_answer_explained}
use Rattle.example_domains.proofs.laws.either_answer_is_right.Goals as goal

pub returns : goal.returns
returns c = either_answer_explained c.looks_are_right.ensures
