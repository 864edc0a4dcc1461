use Rattle.std.proofs.Common.{◌∙◌}
use Rattle.entry_lines.proofs.fields.inputs_of.Goals as goal

pub returns : goal.returns
returns c = λ i rest f j.
    c.of.ensures ∙ c.in_ok-inputs.ensures
    ∙ c.inputs_with-inputs.ensures i rest f j (c.in_ok-ssid.ensures i.ssid f.ssid (c.field-ssid.ensures _ j)) (c.in_ok-r0kh_id.ensures i.r0kh_id f.r0kh_id (c.field-r0kh_id.ensures _ j))
