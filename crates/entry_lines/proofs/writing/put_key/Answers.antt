use Rattle.std.proofs.Common.{[], ◌∷◌, ap, sym, ◌∙◌, codes, decimal, arith}
use Rattle.run_journal.specs.declared.acts.Key.{Key}
use Rattle.run_journal.specs.Report.{hex}
use Rattle.entry_lines.specs.Lines.{after_spaces, inputs_words, key_words}
use Rattle.entry_lines.specs.Room.{inputs_octets, key_octets}
use Rattle.entry_lines.proofs.Fielded.{Writes-is, fields-then}
use Rattle.entry_lines.proofs.writing.put_key.Goals as goal

pub returns-in-Pairwise-clause-written : goal.returns-in-Pairwise-clause-written
returns-in-Pairwise-clause-written c =
    Writes-is _ _ _ _ _ _
    (fields-then (codes "ptk" ∷ hex c.in-Pairwise.tk ∷ codes "0" ∷ []) (inputs_words c.inputs.result.now) _ _ _ _ _ _ c.put_fields-at.ensures.written c.put_inputs.ensures.written)
    (ap (λ (k : Key). after_spaces (key_words k)) c.in-Pairwise.is ∙ (λ t. after_spaces (codes "ptk" ∷ hex c.in-Pairwise.tk ∷ codes "0" ∷ inputs_words (sym c.inputs.ensures t))))

pub returns-in-Group-clause-written : goal.returns-in-Group-clause-written
returns-in-Group-clause-written c =
    Writes-is _ _ _ _ _ _ c.put_fields.ensures.written
    (ap (λ (k : Key). after_spaces (key_words k)) c.in-Group.is ∙ (λ t. after_spaces (sym c.group_word.ensures.text t ∷ hex c.in-Group.octets ∷ decimal (sym c.from.ensures t) ∷ hex c.in-Group.bssid.0 ∷ [])))

pub put_inputs-requires : goal.put_inputs-requires
put_inputs-requires c =
    omega (arith, c.requires, c.array_fits.ensures.0, ap key_octets c.in-Pairwise.is, ap inputs_octets c.inputs.ensures, c.put_fields-at.ensures.short, c.put_fields-at.ensures.written.len)

pub returns-in-Pairwise-clause-short : goal.returns-in-Pairwise-clause-short
returns-in-Pairwise-clause-short c =
    omega (arith, c.array_fits.ensures.0, ap key_octets c.in-Pairwise.is, ap inputs_octets c.inputs.ensures, c.put_fields-at.ensures.short, c.put_inputs.ensures.short)
