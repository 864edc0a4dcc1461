use Rattle.std.proofs.Common.{ap, ◌∙◌}
use Rattle.key_hierarchy.specs.declared.fast_transition.PmkR0.{PmkR0}
use Rattle.key_holders.specs.declared.rows.HolderRow.{HolderRow}
use Rattle.key_holders.specs.Keys.{row_r1}
use Rattle.key_holders.proofs.KeysOfRows.{r1-row_of}
use Rattle.key_holders.proofs.rows.HolderRow.of.Goals as goal

pub returns-clause-row : goal.returns-clause-row
returns-clause-row c =
    let key = ap (λ (r0 : PmkR0). r0.key) c.r0.ensures in
    λ i. record { name = c.name-name.ensures i; key = key i; sta = c.args.sta }

pub returns-clause-keys : goal.returns-clause-keys
returns-clause-keys c = λ r1kh. ap (λ (row : HolderRow). row_r1 row r1kh) (returns-clause-row c) ∙ r1-row_of c.args.r0.now c.args.sta r1kh
