use Rattle.std.proofs.Common.{◌≡◌}
use Rattle.run_journal.specs.declared.acts.Key.TheVariants.{Group}
use Rattle.entry_lines.proofs.fields.group_key_of.Goals as goal

pub returns : goal.returns
returns c = λ which key id bssid rest f j.
    let kind : c.group_kind_of.result ≡ which = c.group_kind_of.ensures which (c.field-kind.ensures _ j) in
    let octets : c.array_of.result ≡ key = c.array_of.ensures key f.0 (c.field-key.ensures _ j) in
    let number : c.byte_of.result ≡ id = c.byte_of.ensures id f.1 (c.field-id.ensures _ j) in
    let address : c.array_of-2.result ≡ bssid.0 = c.array_of-2.ensures bssid.0 f.2 (c.field-bssid.ensures _ j) in
    λ t. Group (kind t) (octets t) (number t) (record { 0 = address t })
