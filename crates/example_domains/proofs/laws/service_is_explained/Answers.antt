use Rattle.example_domains.proofs.Example.{service_explained}
use Rattle.example_domains.proofs.laws.service_is_explained.Goals as goal

pub returns : goal.returns
returns c = service_explained c.looks_are_right.ensures
