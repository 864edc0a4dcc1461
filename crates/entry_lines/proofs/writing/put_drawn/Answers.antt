use Rattle.std.proofs.Common.{[], ◌∷◌, ap, sym, ◌∙◌}
use Rattle.run_journal.specs.declared.acts.Drawn.{Drawn}
use Rattle.run_journal.specs.Report.{hex}
use Rattle.entry_lines.specs.Lines.{after_spaces, drawn_words}
use Rattle.entry_lines.proofs.Fielded.{Writes-is}
use Rattle.entry_lines.proofs.writing.put_drawn.Goals as goal

pub returns-in-Nonce-clause-written : goal.returns-in-Nonce-clause-written
returns-in-Nonce-clause-written c = Writes-is _ _ _ _ _ _ c.put_fields.ensures.written (ap (λ (v : Drawn). after_spaces (drawn_words v)) c.in-Nonce.is)

pub returns-in-Group-clause-written : goal.returns-in-Group-clause-written
returns-in-Group-clause-written c = Writes-is _ _ _ _ _ _ c.put_fields-in-Group.ensures.written
    (ap (λ (v : Drawn). after_spaces (drawn_words v)) c.in-Group.is ∙ (λ t. after_spaces (hex c.in-Group.octets ∷ sym c.group_word.ensures.text t ∷ [])))
