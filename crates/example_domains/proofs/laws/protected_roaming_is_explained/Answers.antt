use Rattle.example_domains.proofs.ProtectedRoaming.{protecting-roams}
use Rattle.example_domains.proofs.laws.protected_roaming_is_explained.Goals as goal

pub returns : goal.returns
returns c = protecting-roams c.looks_are_right.ensures
