use Rattle.std.proofs.Common.{refl}
use Rattle.domain_rules.proofs.Example.{handshake_explained, small-in_form, small-whole}
use Rattle.domain_rules.proofs.laws.handshake_is_explained.Goals as goal

pub returns : goal.returns
returns c = record { whole = handshake_explained; network = λ akm seed ssid psk is. (small-in_form akm seed ssid psk is, small-whole akm seed ssid psk, refl) }
