use Rattle.std.proofs.Common.{List, subst, arith}
use Rattle.std.proofs.lemmas.List.{take_all}
use Rattle.journal_report.specs.Writing.{Writes}
use Rattle.entry_lines.specs.declared.words.Field.{Field}
use Rattle.entry_lines.specs.Words.{fields_text}
use Rattle.entry_lines.proofs.Fielded.{field-room, field-room-step, fields-step, no_field}
use Rattle.entry_lines.proofs.words.put_fields.Goals as goal

pub put_field-end-requires : goal.put_field-end-requires
put_field-end-requires c =
    omega (arith, c.requires, c.loop-field.auto.out, field-room c.args.fields.now c.loop-field.field-index no_field c.loop-field.end _ c.loop-field-test.true c.loop-field.invariant.room)

pub loop-field-preserved : goal.loop-field-preserved
loop-field-preserved c = record {
  written = fields-step c.args.fields.now c.loop-field.field-index no_field _ _ _ _ _ _ c.loop-field-test.true c.loop-field.invariant.written c.put_field-end.ensures.written;
  room = field-room-step c.args.fields.now c.loop-field.field-index no_field c.loop-field.end _ _ c.loop-field-test.true c.loop-field.invariant.room c.put_field-end.ensures.short;
}

pub returns-clause-written : goal.returns-clause-written
returns-clause-written c =
    subst (λ (fs : List Field). Writes (fields_text fs) c.args.at c.args.out.now c.loop-field.end c.loop-field.out)
    (take_all c.loop-field.field-index c.args.fields.now (omega (arith, c.loop-field-test.false))) c.loop-field.invariant.written
