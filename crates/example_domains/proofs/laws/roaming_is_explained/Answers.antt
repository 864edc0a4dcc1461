use Rattle.example_domains.proofs.Example.{roaming_explained}
use Rattle.example_domains.proofs.laws.roaming_is_explained.Goals as goal

pub returns : goal.returns
returns c = roaming_explained c.looks_are_right.ensures
