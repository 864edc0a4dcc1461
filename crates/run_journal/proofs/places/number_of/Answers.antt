use Rattle.std.proofs.Common.{rules}
use Rattle.run_journal.specs.Places.{number_of}
use Rattle.run_journal.proofs.ByAddress.{whole_from}
use Rattle.run_journal.proofs.places.number_of.Goals as goal

pub returns-clause-number : goal.returns-clause-number
unfolding number_of
returns-clause-number c = search rules

pub returns-clause-whole : goal.returns-clause-whole
returns-clause-whole c = whole_from c.args.address.0 (search rules) (search rules)
