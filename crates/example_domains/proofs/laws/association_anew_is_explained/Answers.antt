use Rattle.example_domains.proofs.Example.{anew_explained}
use Rattle.example_domains.proofs.laws.association_anew_is_explained.Goals as goal

pub returns : goal.returns
returns c = anew_explained c.looks_are_right.ensures
