use Rattle.domain_rules.proofs.OldKeys.{ends_at_ap, ends_at_sta}
use Rattle.domain_rules.proofs.KeysPresent.{ends_in_round}
use Rattle.domain_rules.proofs.laws.old_keys_end.Goals as goal

pub returns : goal.returns
returns c = record {
  at_ap = ends_at_ap;
  at_sta = ends_at_sta;
  in_round = ends_in_round;
}
