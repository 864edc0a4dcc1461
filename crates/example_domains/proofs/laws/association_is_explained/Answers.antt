use Rattle.example_domains.proofs.Example.{association_explained}
use Rattle.example_domains.proofs.PairNetwork.{pair-can_roam}
use Rattle.example_domains.proofs.laws.association_is_explained.Goals as goal

pub returns : goal.returns
returns c = record { whole = association_explained c.looks_are_right.ensures; network = pair-can_roam }
