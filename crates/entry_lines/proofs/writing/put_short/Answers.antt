use Rattle.std.proofs.Common.{[], ◌∷◌, ap, sym, ◌∙◌, codes}
use Rattle.domain_base.specs.Names.{node_text}
use Rattle.run_journal.specs.declared.acts.Act.{Act}
use Rattle.entry_lines.specs.Lines.{act_words, after_spaces, drawn_words}
use Rattle.entry_lines.proofs.Fielded.{Writes-is, fields-then}
use Rattle.entry_lines.proofs.writing.put_short.Goals as goal

pub returns-in-Opened-clause-written : goal.returns-in-Opened-clause-written
returns-in-Opened-clause-written c = λ number. Writes-is _ _ _ _ _ _ (c.put_fields.ensures.written) (ap (λ (a : Act). after_spaces (act_words number a)) c.in-Opened.is ∙ (λ t. after_spaces (codes "opened" ∷ node_text c.in-Opened.peer ∷ sym c.start_word.ensures.text t ∷ [])))

pub returns-in-Closed-clause-written : goal.returns-in-Closed-clause-written
returns-in-Closed-clause-written c = λ number. Writes-is _ _ _ _ _ _ (c.put_fields-in-Closed.ensures.written) (ap (λ (a : Act). after_spaces (act_words number a)) c.in-Closed.is ∙ (λ t. after_spaces (codes "closed" ∷ node_text c.in-Closed.peer ∷ sym c.part_word.ensures.text t ∷ [])))

pub returns-in-Drew-clause-written : goal.returns-in-Drew-clause-written
returns-in-Drew-clause-written c = λ number. Writes-is _ _ _ _ _ _ (fields-then (codes "drew" ∷ []) (drawn_words c.in-Drew.value) _ _ _ _ _ _ c.put_fields-at.ensures.written c.put_drawn.ensures.written) (ap (λ (a : Act). after_spaces (act_words number a)) c.in-Drew.is)

pub returns-in-Secret-clause-written : goal.returns-in-Secret-clause-written
returns-in-Secret-clause-written c = λ number. Writes-is _ _ _ _ _ _ c.put_fields-in-Secret.ensures.written (ap (λ (a : Act). after_spaces (act_words number a)) c.in-Secret.is)

pub returns-in-GaveUp-clause-written : goal.returns-in-GaveUp-clause-written
returns-in-GaveUp-clause-written c = λ number. Writes-is _ _ _ _ _ _ (c.put_fields-in-GaveUp.ensures.written) (ap (λ (a : Act). after_spaces (act_words number a)) c.in-GaveUp.is ∙ (λ t. after_spaces (codes "gave-up" ∷ sym c.message_word.ensures.text t ∷ node_text c.in-GaveUp.peer ∷ [])))

pub returns-in-Idle-clause-written : goal.returns-in-Idle-clause-written
returns-in-Idle-clause-written c = λ number. Writes-is _ _ _ _ _ _ (c.put_fields-in-Idle.ensures.written) (ap (λ (a : Act). after_spaces (act_words number a)) c.in-Idle.is ∙ (λ t. after_spaces (codes "idle" ∷ sym c.why_word.ensures.text t ∷ [])))
