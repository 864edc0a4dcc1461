use Rattle.example_domains.proofs.Example.{change_explained}
use Rattle.example_domains.proofs.laws.changed_key_is_explained.Goals as goal

pub returns : goal.returns
returns c = change_explained c.looks_are_right.ensures
