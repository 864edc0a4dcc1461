use Rattle.journal_report.proofs.Texts.{Writes-then, words-spaced}
use Rattle.journal_report.proofs.layout.put_line.Goals as goal

pub returns-clause-written : goal.returns-clause-written
returns-clause-written c =
    rw words-spaced (Writes-then _ _ _ _ _ _ _ _ c.put_words-end.ensures.written (record { end = c.put.ensures.end; front = c.put.ensures.front; rest = c.put.ensures.rest; len = c.put.ensures.len }))
