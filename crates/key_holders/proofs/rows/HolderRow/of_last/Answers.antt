use Rattle.std.proofs.Common.{ap, ◌∙◌}
use Rattle.key_hierarchy.specs.declared.fast_transition.PmkR0.{PmkR0}
use Rattle.key_hierarchy.specs.FastTransition.{pmk_r1}
use Rattle.key_holders.specs.Keys.{row_of}
use Rattle.key_holders.proofs.rows.HolderRow.of_last.Goals as goal

pub returns-clause-row : goal.returns-clause-row
returns-clause-row c = c.of.ensures.row ∙ ap (λ (r0 : PmkR0). row_of r0 c.args.sta) c.r0-r0.ensures

pub returns-clause-keys : goal.returns-clause-keys
returns-clause-keys c = λ r1kh. c.of.ensures.keys r1kh ∙ ap (λ (r0 : PmkR0). pmk_r1 r0 r1kh c.args.sta) c.r0-r0.ensures
