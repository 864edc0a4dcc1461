use Rattle.std.proofs.Common.{ℕ, List, [], ◌∷◌, ap, sym, ◌∙◌, codes, length, arith}
use Rattle.domain_base.specs.Names.{node_text}
use Rattle.run_journal.specs.declared.acts.Act.{Act}
use Rattle.run_journal.specs.Report.{hex, payload_text, pull_text}
use Rattle.entry_lines.specs.Lines.{act_words, after_spaces, r1_text}
use Rattle.entry_lines.specs.Room.{act_octets}
use Rattle.entry_lines.proofs.Fielded.{Writes-is, fields-then}
use Rattle.entry_lines.proofs.writing.put_holding.Goals as goal

pub returns-in-Put-clause-written : goal.returns-in-Put-clause-written
returns-in-Put-clause-written c = λ number. Writes-is _ _ _ _ _ _ (c.put_fields.ensures.written) (ap (λ (a : Act). after_spaces (act_words number a)) c.in-Put.is ∙ (λ t. after_spaces (codes "put" ∷ payload_text (sym c.as_slice.ensures t) ∷ hex c.in-Put.name ∷ node_text c.in-Put.sta ∷ sym c.put_word.ensures.text t ∷ codes "-" ∷ [])))

pub returns-in-Looked-clause-written : goal.returns-in-Looked-clause-written
returns-in-Looked-clause-written c = λ number.
    let ws : List (List ℕ) = codes "looked" ∷ payload_text c.in-Looked.r0kh_id ∷ hex c.in-Looked.name ∷ node_text c.in-Looked.sta ∷ pull_text c.in-Looked.answer ∷ [] in
    let last : List (List ℕ) = r1_text c.in-Looked.answer ∷ [] in
    Writes-is _ _ _ _ _ _
    (fields-then ws last _ _ _ _ _ _
    (Writes-is _ (after_spaces ws) _ _ _ _ c.put_fields-at.ensures.written (λ t. after_spaces (codes "looked" ∷ payload_text (sym c.as_slice-in-Looked.ensures t) ∷ hex c.in-Looked.name ∷ node_text c.in-Looked.sta ∷ sym c.pull_word.ensures.text t ∷ [])))
    c.put_r1.ensures.written)
    (ap (λ (a : Act). after_spaces (act_words number a)) c.in-Looked.is)

pub returns-in-Revoked-clause-written : goal.returns-in-Revoked-clause-written
returns-in-Revoked-clause-written c = λ number. Writes-is _ _ _ _ _ _ (c.put_fields-in-Revoked.ensures.written) (ap (λ (a : Act). after_spaces (act_words number a)) c.in-Revoked.is ∙ (λ t. after_spaces (codes "revoked" ∷ payload_text (sym c.as_slice-in-Revoked.ensures t) ∷ hex c.in-Revoked.name ∷ node_text c.in-Revoked.sta ∷ sym c.revoke_word.ensures.text t ∷ codes "-" ∷ [])))

pub put_fields-requires : goal.put_fields-requires
put_fields-requires c =
    omega (arith, c.requires.room, ap act_octets c.in-Put.is, ap length c.as_slice.ensures, c.array_fits.ensures.0, c.put_word.ensures.short)

pub returns-in-Put-clause-short : goal.returns-in-Put-clause-short
returns-in-Put-clause-short c =
    omega (arith, ap act_octets c.in-Put.is, ap length c.as_slice.ensures, c.array_fits.ensures.0, c.put_word.ensures.short, c.put_fields.ensures.short)

pub put_fields-at-requires : goal.put_fields-at-requires
put_fields-at-requires c =
    omega (arith, c.requires.room, ap act_octets c.in-Looked.is, ap length c.as_slice-in-Looked.ensures, c.array_fits-in-Looked.ensures.0, c.pull_word.ensures.short)

pub put_r1-requires : goal.put_r1-requires
put_r1-requires c =
    omega (arith, c.requires.room, ap act_octets c.in-Looked.is, ap length c.as_slice-in-Looked.ensures, c.array_fits-in-Looked.ensures.0, c.pull_word.ensures.short, c.put_fields-at.ensures.short, c.put_fields-at.ensures.written.len)

pub returns-in-Looked-clause-short : goal.returns-in-Looked-clause-short
returns-in-Looked-clause-short c =
    omega (arith, ap act_octets c.in-Looked.is, ap length c.as_slice-in-Looked.ensures, c.array_fits-in-Looked.ensures.0, c.pull_word.ensures.short, c.put_fields-at.ensures.short, c.put_r1.ensures.short)

pub put_fields-requires-in-Revoked : goal.put_fields-requires-in-Revoked
put_fields-requires-in-Revoked c =
    omega (arith, c.requires.room, ap act_octets c.in-Revoked.is, ap length c.as_slice-in-Revoked.ensures, c.array_fits-in-Revoked.ensures.0, c.revoke_word.ensures.short)

pub returns-in-Revoked-clause-short : goal.returns-in-Revoked-clause-short
returns-in-Revoked-clause-short c =
    omega (arith, ap act_octets c.in-Revoked.is, ap length c.as_slice-in-Revoked.ensures, c.array_fits-in-Revoked.ensures.0, c.revoke_word.ensures.short, c.put_fields-in-Revoked.ensures.short)
