use Rattle.std.proofs.Common.{ℕ, List, drop}
use Rattle.entry_lines.specs.Splitting.{Joins}
use Rattle.entry_lines.proofs.splitting.after_words.Given as goal

-- so many words are after
abbrev pub invariant-loop : goal.invariant-loop
invariant-loop l = (words : List (List ℕ)) → Joins l.separator l.text words → Joins l.separator l.rest (drop l.counter words)
