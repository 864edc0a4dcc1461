use Rattle.example_domains.proofs.UsedKeys.{used_keys_explained, renewing_networks}
use Rattle.example_domains.proofs.laws.renewed_key_is_used.Goals as goal

pub returns : goal.returns
returns c = record { whole = used_keys_explained; network = renewing_networks }
