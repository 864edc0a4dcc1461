use Rattle.audit_rules.proofs.First.{one_first, none_first, one_in_round, none_in_round}
use Rattle.audit_rules.proofs.Files.{one_in_file, none_in_file}
use Rattle.audit_rules.proofs.laws.first_place_is_one.Goals as goal

pub returns : goal.returns
returns c = record {
  place = one_first;
  none = none_first;
  in_round = one_in_round;
  none_in_round = none_in_round;
  in_file = one_in_file;
  none_in_file = none_in_file;
}
