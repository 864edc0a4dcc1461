use Rattle.std.proofs.Common.{◌≡◌}
use Rattle.run_journal.specs.declared.acts.Key.TheVariants.{Pairwise}
use Rattle.entry_lines.proofs.fields.pairwise_key_of.Goals as goal

pub returns : goal.returns
returns c = λ tk i rest f j.
    let key : c.array_of.result ≡ tk = c.array_of.ensures tk f.0 (c.field-tk.ensures _ j) in
    let inputs : c.in_ok-inputs.inputs ≡ i = c.in_ok-inputs.ensures i rest f.1 (c.after_fields-rest.ensures _ j) in
    λ t. Pairwise (key t) (inputs t)
