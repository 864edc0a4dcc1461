-- What is new in a journal since a writer wrote its lines.
use Rattle.std.proofs.Common.{◌≡◌, ℕ, length, drop, reverse, List, ◌++◌, sym, ◌∙◌, ap}
use Rattle.std.proofs.lemmas.List.{reverse-append, reverse-reverse, length-reverse}
use lib.Seq.{drop-append_seam}
use Rattle.run_journal.specs.Report.{lines}
use Rattle.run_journal.specs.declared.acts.Entry.{Entry}
use Rattle.journal_report.specs.Since.{lines_since}
use Rattle.journal_report.proofs.Journals.{lines-append}

-- in a journal that grew, those of the entries that came
pub lines-since-more : (more j : List Entry) → lines_since (length j) (more ++ j) ≡ lines more
lines-since-more more j =
    ap (λ (l : List Entry). lines (reverse (drop (length j) l))) (reverse-append more j)
    ∙ ap (λ (n : ℕ). lines (reverse (drop n (reverse j ++ reverse more)))) (sym (length-reverse j))
    ∙ ap (λ (l : List Entry). lines (reverse l)) (drop-append_seam (reverse j) (reverse more))
    ∙ ap lines (reverse-reverse more)

-- the lines of a journal that grew
pub lines-more : (more j : List Entry) → lines (more ++ j) ≡ lines j ++ lines_since (length j) (more ++ j)
lines-more more j = lines-append more j ∙ ap (λ (w : List ℕ). lines j ++ w) (sym (lines-since-more more j))
