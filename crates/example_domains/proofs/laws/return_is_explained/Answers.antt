use Rattle.example_domains.proofs.Example.{return_explained}
use Rattle.example_domains.proofs.laws.return_is_explained.Goals as goal

pub returns : goal.returns
returns c = return_explained c.looks_are_right.ensures
