use Rattle.std.proofs.Common.{◌≡◌, ◌∙◌}
use Rattle.entry_lines.specs.Lines.{ptk_octets}
use Rattle.entry_lines.proofs.Keys.{kck_part, kek_part, ptk_array, tk_part}
use Rattle.entry_lines.proofs.fields.ptk_of.Goals as goal

pub returns : goal.returns
returns c = λ k f is.
    let octets : c.array_of-octets.result ≡ ptk_octets k = c.array_of-octets.ensures (ptk_octets k) (ptk_array k f) is in
    let kck : c.array_at.result ≡ k.kck = c.array_at.ensures ∙ kck_part k _ f octets in
    let kek : c.array_at-2.result ≡ k.kek = c.array_at-2.ensures ∙ kek_part k _ f octets in
    let tk : c.array_at-3.result ≡ k.tk = c.array_at-3.ensures ∙ tk_part k _ f octets in
    λ t. record { kck = kck t; kek = kek t; tk = tk t }
