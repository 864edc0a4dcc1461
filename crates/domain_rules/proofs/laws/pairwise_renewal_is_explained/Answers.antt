use Rattle.std.proofs.Common.{refl}
use Rattle.domain_rules.proofs.Example.{renewed_key_explained, renewing-in_form, renewing-whole, renewing-renews}
use Rattle.domain_rules.proofs.laws.pairwise_renewal_is_explained.Goals as goal

pub returns : goal.returns
returns c = record { whole = renewed_key_explained; network = λ akm at seed ssid psk is other. (renewing-in_form akm at seed ssid psk is, renewing-whole akm at seed ssid psk, renewing-renews akm at seed ssid psk other, refl) }
