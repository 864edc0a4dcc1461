use Rattle.std.proofs.Common.{rules}
use Rattle.look_audit.proofs.Own.{id_at}
use Rattle.look_audit.proofs.looks.holder_of.Goals as goal

pub returns-in-Some-clause-id : goal.returns-in-Some-clause-id
returns-in-Some-clause-id c = id_at c.args.domain.now.aps c.args.asked.now c.in-Some.place (search rules)
