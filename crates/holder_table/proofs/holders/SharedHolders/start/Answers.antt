use Rattle.std.proofs.Common.{ℕ, ◌+◌, ◌*◌, ap, ◌∙◌}
use Rattle.atomic_table.specs.Seated.{TableId}
use Rattle.holder_table.proofs.Rest.{rest_first}
use Rattle.holder_table.proofs.holders.SharedHolders.start.Goals as goal

pub invariant_of-result-2 : goal.invariant_of-result-2
invariant_of-result-2 c =
    let made = c.in_ok-rows.ensures in
    rest_first c.len.result c.in_ok-rows.seat.table_id c.in_ok-rows.seat.me (ap (λ (z : TableId). z.words) made.1 ∙ (c.in_ok-rows.rows.sized ∙ ap (λ (n : ℕ). 1 + 512 * n) made.0)) made.2
