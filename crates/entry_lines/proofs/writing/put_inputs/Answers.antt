use Rattle.std.proofs.Common.{[], ◌∷◌, sym, ap, length, arith}
use Rattle.run_journal.specs.Report.{hex, payload_text}
use Rattle.entry_lines.specs.Lines.{after_spaces}
use Rattle.entry_lines.proofs.Fielded.{Writes-is}
use Rattle.entry_lines.proofs.writing.put_inputs.Goals as goal

pub returns-clause-written : goal.returns-clause-written
returns-clause-written c =
    let i = c.args.inputs.now in
    Writes-is _ _ _ _ _ _ c.put_fields.ensures.written
    (λ t. after_spaces (sym c.akm_word.ensures.text t ∷ hex i.psk ∷ payload_text (sym c.as_slice.ensures t) ∷ hex i.mdid ∷ payload_text (sym c.as_slice-2.ensures t) ∷ hex i.aa.0 ∷ hex i.spa.0 ∷ hex i.anonce ∷ hex i.snonce ∷ []))

pub put_fields-requires : goal.put_fields-requires
put_fields-requires c =
    omega (arith, c.requires, c.akm_word.ensures.short, ap length c.as_slice.ensures, ap length c.as_slice-2.ensures, c.inputs_fit.ensures.psk.0, c.inputs_fit.ensures.mdid.0, c.inputs_fit.ensures.aa.0, c.inputs_fit.ensures.spa.0, c.inputs_fit.ensures.anonce.0, c.inputs_fit.ensures.snonce.0)

pub returns-clause-short : goal.returns-clause-short
returns-clause-short c =
    omega (arith, c.put_fields.ensures.short, c.akm_word.ensures.short, ap length c.as_slice.ensures, ap length c.as_slice-2.ensures, c.inputs_fit.ensures.psk.0, c.inputs_fit.ensures.mdid.0, c.inputs_fit.ensures.aa.0, c.inputs_fit.ensures.spa.0, c.inputs_fit.ensures.anonce.0, c.inputs_fit.ensures.snonce.0)
