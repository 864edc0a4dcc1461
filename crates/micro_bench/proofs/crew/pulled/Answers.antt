use Rattle.std.proofs.Common.{ℕ, List, ap, ◌∙◌}
use Rattle.key_holders.specs.Rows.{is_in}
use Rattle.holder_table.specs.Steps.{without}
use Rattle.micro_bench.proofs.crew.pulled.Goals as goal

pub split-third-requires-clause-has : goal.split-third-requires-clause-has
split-third-requires-clause-has g c =
    ap (λ (xs : List ℕ). is_in 2 xs) (c.split-second.ensures.gave.has ∙ ap (λ (xs : List ℕ). without 1 xs) c.requires.has)

pub split-fourth-requires-clause-has : goal.split-fourth-requires-clause-has
split-fourth-requires-clause-has g c =
    ap (λ (xs : List ℕ). is_in 3 xs) (c.split-third.ensures.gave.has ∙ ap (λ (xs : List ℕ). without 2 xs) (c.split-second.ensures.gave.has ∙ ap (λ (xs : List ℕ). without 1 xs) c.requires.has))
