use Rattle.domain_rules.proofs.OneReading.{one_reading, one_reading_at}
use Rattle.domain_rules.proofs.OneOutcome.{one_verdict}
use Rattle.domain_rules.proofs.laws.one_reading.Goals as goal

pub returns : goal.returns
returns c = record { reading = one_reading; at_node = one_reading_at; outcome = one_verdict }
