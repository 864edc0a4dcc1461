use Rattle.rsn_elements.proofs.Apart.{one_value, value_or_fault, one_fault}
use Rattle.rsn_elements.proofs.Unique.{has_raw}
use Rattle.rsn_elements.proofs.laws.one_reading.Goals as goal

pub returns : goal.returns
returns c = record { value = one_value; either = value_or_fault; fault = one_fault; raw = has_raw }
