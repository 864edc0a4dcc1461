use Rattle.std.proofs.Common.{List, [], ◌∷◌, ℕ, ap, sym, ◌∙◌}
use Rattle.journal_report.proofs.Texts.{Writes-then}
use Rattle.entry_lines.specs.Lines.{pointed}
use Rattle.entry_lines.proofs.Fielded.{Writes-is}
use Rattle.entry_lines.proofs.words.put_outcome_word.Goals as goal

pub returns-clause-written : goal.returns-clause-written
returns-clause-written c =
    let put = c.put-at.ensures in
    Writes-is _ _ _ _ _ _
    (Writes-then (32 ∷ []) _ _ _ _ _ _ _ (record { end = put.end; front = put.front; rest = put.rest; len = put.len }) c.put_pointed.ensures.written)
    (ap (λ (text : List ℕ). 32 ∷ pointed text) (sym (c.split_at.ensures.front ∙ c.put_outcome-count.ensures.written.front)))
