use Rattle.example_domains.proofs.Example.{second_change_explained}
use Rattle.example_domains.proofs.laws.second_change_is_explained.Goals as goal

pub returns : goal.returns
returns c = second_change_explained c.looks_are_right.ensures
