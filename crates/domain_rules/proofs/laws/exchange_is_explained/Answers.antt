use Rattle.std.proofs.Common.{refl}
use Rattle.domain_rules.proofs.Example.{exchange_explained, small-octets}
use Rattle.domain_rules.proofs.laws.exchange_is_explained.Goals as goal

pub returns : goal.returns
returns c = record { whole = exchange_explained; network = λ akm seed ssid psk. (small-octets akm seed ssid psk, refl) }
