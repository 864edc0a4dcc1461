use Rattle.example_domains.proofs.Protected.{protected, protecting-in_form}
use Rattle.example_domains.proofs.laws.protection_is_explained.Goals as goal

pub returns : goal.returns
returns c = record { whole = protected; network = protecting-in_form }
