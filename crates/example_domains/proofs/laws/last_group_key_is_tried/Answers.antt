use Rattle.example_domains.proofs.LastKey.{last_for_data, last_for_actions, none_without}
use Rattle.example_domains.proofs.laws.last_group_key_is_tried.Goals as goal

pub returns : goal.returns
returns c = record { payload = last_for_data; announcement = last_for_actions; left = none_without }
