use Rattle.std.proofs.Common.{ℕ, List, [], ◌∷◌, ap, sym, ◌∙◌, codes, decimal, length, arith}
use Rattle.domain_base.specs.Names.{node_text, peer_text}
use Rattle.run_journal.specs.declared.acts.Act.{Act}
use Rattle.run_journal.specs.Report.{hex, kind_text, outcome_text, payload_text}
use Rattle.entry_lines.specs.Lines.{act_words, after_spaces, pointed, seal_words}
use Rattle.entry_lines.specs.Room.{act_octets}
use Rattle.entry_lines.proofs.Fielded.{Writes-is, fields-then, one-field}
use Rattle.entry_lines.proofs.writing.put_traffic.Goals as goal

pub returns-in-Sent-clause-written : goal.returns-in-Sent-clause-written
returns-in-Sent-clause-written c =
    let ws : List (List ℕ) = codes "sent" ∷ decimal c.args.number ∷ peer_text c.in-Sent.peer ∷ kind_text c.in-Sent.kind ∷ payload_text c.in-Sent.octets ∷ [] in
    Writes-is _ _ _ _ _ _
    (fields-then ws (seal_words c.in-Sent.seal) _ _ _ _ _ _
    (Writes-is _ (after_spaces ws) _ _ _ _ c.put_fields-at.ensures.written (λ t. after_spaces (codes "sent" ∷ decimal c.args.number ∷ peer_text c.in-Sent.peer ∷ sym c.kind_word.ensures.text t ∷ payload_text (sym c.as_slice.ensures t) ∷ [])))
    c.put_seal.ensures.written)
    (ap (λ (a : Act). after_spaces (act_words c.args.number a)) c.in-Sent.is)

pub returns-in-Took-clause-written : goal.returns-in-Took-clause-written
returns-in-Took-clause-written c = Writes-is _ _ _ _ _ _ (fields-then (codes "took" ∷ kind_text c.in-Took.kind ∷ []) (pointed (outcome_text c.in-Took.outcome) ∷ payload_text c.in-Took.octets ∷ seal_words c.in-Took.seal) _ _ _ _ _ _ (Writes-is _ (after_spaces (codes "took" ∷ kind_text c.in-Took.kind ∷ [])) _ _ _ _ c.put_fields-at-in-Took.ensures.written (λ t. after_spaces (codes "took" ∷ sym c.kind_word-in-Took.ensures.text t ∷ []))) (fields-then (pointed (outcome_text c.in-Took.outcome) ∷ []) (payload_text c.in-Took.octets ∷ seal_words c.in-Took.seal) _ _ _ _ _ _ (one-field (pointed (outcome_text c.in-Took.outcome)) _ _ _ _ c.put_outcome_word-at.ensures.written) (fields-then (payload_text c.in-Took.octets ∷ []) (seal_words c.in-Took.seal) _ _ _ _ _ _ (Writes-is _ (after_spaces (payload_text c.in-Took.octets ∷ [])) _ _ _ _ c.put_fields-at-in-Took-2.ensures.written (λ t. after_spaces (payload_text (sym c.as_slice-in-Took.ensures t) ∷ []))) c.put_seal-in-Took.ensures.written))) (ap (λ (a : Act). after_spaces (act_words c.args.number a)) c.in-Took.is)

pub returns-in-Used-clause-written : goal.returns-in-Used-clause-written
returns-in-Used-clause-written c = Writes-is _ _ _ _ _ _ (c.put_fields.ensures.written) (ap (λ (a : Act). after_spaces (act_words c.args.number a)) c.in-Used.is ∙ (λ t. after_spaces (codes "used" ∷ peer_text c.in-Used.peer ∷ hex c.in-Used.key ∷ decimal (sym c.from.ensures t) ∷ decimal c.in-Used.number ∷ payload_text (sym c.as_slice-in-Used.ensures t) ∷ [])))

pub returns-in-HandedUp-clause-written : goal.returns-in-HandedUp-clause-written
returns-in-HandedUp-clause-written c = Writes-is _ _ _ _ _ _ (c.put_fields-in-HandedUp.ensures.written) (ap (λ (a : Act). after_spaces (act_words c.args.number a)) c.in-HandedUp.is ∙ (λ t. after_spaces (codes "handed" ∷ node_text c.in-HandedUp.peer ∷ hex c.in-HandedUp.key ∷ decimal (sym c.from-in-HandedUp.ensures t) ∷ decimal (sym (c.from-in-HandedUp-2.ensures ∙ c.number.ensures.value) t) ∷ decimal c.in-HandedUp.number ∷ payload_text (sym c.as_slice-in-HandedUp.ensures t) ∷ [])))

pub put_fields-at-requires : goal.put_fields-at-requires
put_fields-at-requires c =
    omega (arith, c.requires.room, ap act_octets c.in-Sent.is, ap length c.as_slice.ensures, c.kind_word.ensures.short)

pub put_seal-requires : goal.put_seal-requires
put_seal-requires c =
    omega (arith, c.requires.room, ap act_octets c.in-Sent.is, ap length c.as_slice.ensures, c.kind_word.ensures.short, c.put_fields-at.ensures.short, c.put_fields-at.ensures.written.len)

pub returns-in-Sent-clause-short : goal.returns-in-Sent-clause-short
returns-in-Sent-clause-short c =
    omega (arith, ap act_octets c.in-Sent.is, ap length c.as_slice.ensures, c.kind_word.ensures.short, c.put_fields-at.ensures.short, c.put_seal.ensures.short)

pub put_outcome_word-at-requires : goal.put_outcome_word-at-requires
put_outcome_word-at-requires c =
    omega (arith, c.requires.room, c.kind_word-in-Took.ensures.short, c.put_fields-at-in-Took.ensures.short, c.put_fields-at-in-Took.ensures.written.len)

pub put_fields-at-requires-in-Took-2 : goal.put_fields-at-requires-in-Took-2
put_fields-at-requires-in-Took-2 c =
    omega (arith, c.requires.room, c.kind_word-in-Took.ensures.short, c.put_fields-at-in-Took.ensures.short, ap act_octets c.in-Took.is, ap length c.as_slice-in-Took.ensures, c.put_outcome_word-at.ensures.short, c.put_fields-at-in-Took.ensures.written.len, c.put_outcome_word-at.ensures.written.len)

pub put_seal-requires-in-Took : goal.put_seal-requires-in-Took
put_seal-requires-in-Took c =
    omega (arith, c.requires.room, c.kind_word-in-Took.ensures.short, c.put_fields-at-in-Took.ensures.short, ap act_octets c.in-Took.is, ap length c.as_slice-in-Took.ensures, c.put_outcome_word-at.ensures.short, c.put_fields-at-in-Took-2.ensures.short, c.put_fields-at-in-Took.ensures.written.len, c.put_outcome_word-at.ensures.written.len, c.put_fields-at-in-Took-2.ensures.written.len)

pub returns-in-Took-clause-short : goal.returns-in-Took-clause-short
returns-in-Took-clause-short c =
    omega (arith, c.kind_word-in-Took.ensures.short, c.put_fields-at-in-Took.ensures.short, ap act_octets c.in-Took.is, ap length c.as_slice-in-Took.ensures, c.put_outcome_word-at.ensures.short, c.put_fields-at-in-Took-2.ensures.short, c.put_seal-in-Took.ensures.short)

pub put_fields-requires : goal.put_fields-requires
put_fields-requires c =
    omega (arith, c.requires.room, ap act_octets c.in-Used.is, ap length c.as_slice-in-Used.ensures, c.array_fits.ensures.0)

pub returns-in-Used-clause-short : goal.returns-in-Used-clause-short
returns-in-Used-clause-short c =
    omega (arith, ap act_octets c.in-Used.is, ap length c.as_slice-in-Used.ensures, c.array_fits.ensures.0, c.put_fields.ensures.short)

pub put_fields-requires-in-HandedUp : goal.put_fields-requires-in-HandedUp
put_fields-requires-in-HandedUp c =
    omega (arith, c.requires.room, ap act_octets c.in-HandedUp.is, ap length c.as_slice-in-HandedUp.ensures, c.array_fits-in-HandedUp.ensures.0)

pub returns-in-HandedUp-clause-short : goal.returns-in-HandedUp-clause-short
returns-in-HandedUp-clause-short c =
    omega (arith, ap act_octets c.in-HandedUp.is, ap length c.as_slice-in-HandedUp.ensures, c.array_fits-in-HandedUp.ensures.0, c.put_fields-in-HandedUp.ensures.short)
