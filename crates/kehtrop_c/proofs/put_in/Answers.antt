use Rattle.std.proofs.Common.{ap}
use Rattle.kehtrop_c.specs.declared.inner.Inner.{Inner}
use Rattle.kehtrop_c.proofs.Gone.{was_put, was_not_put}
use Rattle.kehtrop_c.proofs.put_in.Goals as goal

pub returns-in-Ok : goal.returns-in-Ok
returns-in-Ok c = was_put c.args.role c.in-Ok.inner.value _ _ (ap (λ (a : Inner). a.role) c.in-Ok.ensures.ok) c.put.ensures

pub returns : goal.returns
returns c = was_not_put c.args.role _
