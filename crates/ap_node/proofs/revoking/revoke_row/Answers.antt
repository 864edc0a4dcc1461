use Rattle.ap_node.specs.Putting.{EndsOne, WithRevoke}
use Rattle.ap_node.proofs.revoking.revoke_row.Goals as goal

-- src/revoking.rt:22:1
pub returns-clause-others : goal.returns-clause-others
returns-clause-others g c =
    let w = c.revoke-answer.ensures in
    record { ids = w.ids; still_has = w.still_has; others = w.others; one = EndsOne c.name-name.result c.revoke-answer.result w.rows }

pub returns-clause-change : goal.returns-clause-change
returns-clause-change g c = WithRevoke c.name-name.result c.revoke-answer.result c.revoke-answer.ensures.revokes
