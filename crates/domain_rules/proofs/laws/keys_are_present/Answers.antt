use Rattle.domain_rules.proofs.KeysPresent.{key_at_ap, key_at_sta}
use Rattle.domain_rules.proofs.laws.keys_are_present.Goals as goal

pub returns : goal.returns
returns c = record {
  at_ap = key_at_ap;
  at_sta = key_at_sta;
}
