use Rattle.std.proofs.Common.{◌≡◌}
use Rattle.entry_lines.proofs.fields.inputs_with.Goals as goal

pub returns : goal.returns
returns c = λ i rest f j s r.
    let akm : c.akm_of.result ≡ i.akm = c.akm_of.ensures i.akm (c.field-akm.ensures _ j) in
    let psk : c.array_of.result ≡ i.psk = c.array_of.ensures i.psk f.psk (c.field-psk.ensures _ j) in
    let mdid : c.array_of-2.result ≡ i.mdid = c.array_of-2.ensures i.mdid f.mdid (c.field-mdid.ensures _ j) in
    let aa : c.array_of-3.result ≡ i.aa.0 = c.array_of-3.ensures i.aa.0 f.aa (c.field-aa.ensures _ j) in
    let spa : c.array_of-4.result ≡ i.spa.0 = c.array_of-4.ensures i.spa.0 f.spa (c.field-spa.ensures _ j) in
    let anonce : c.array_of-5.result ≡ i.anonce = c.array_of-5.ensures i.anonce f.anonce (c.field-anonce.ensures _ j) in
    let snonce : c.array_of-6.result ≡ i.snonce = c.array_of-6.ensures i.snonce f.snonce (c.field-snonce.ensures _ j) in
    λ t. record { akm = akm t; psk = psk t; ssid = s t; mdid = mdid t; r0kh_id = r t; aa = record { 0 = aa t }; spa = record { 0 = spa t }; anonce = anonce t; snonce = snonce t }
