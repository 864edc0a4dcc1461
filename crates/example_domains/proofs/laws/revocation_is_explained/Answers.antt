use Rattle.example_domains.proofs.Example.{revocation_explained}
use Rattle.example_domains.proofs.laws.revocation_is_explained.Goals as goal

pub returns : goal.returns
returns c = revocation_explained c.looks_are_right.ensures
