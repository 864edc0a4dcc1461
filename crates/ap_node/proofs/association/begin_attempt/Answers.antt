use Rattle.std.proofs.Common.{ap}
use Rattle.authenticator.specs.Kinds.{Kinds}
use Rattle.ap_node.proofs.association.begin_attempt.Goals as goal

pub returns-clause-begun : goal.returns-clause-begun
returns-clause-begun c = (c.begin-part.result, c.begin.ensures.begun, ap (λ (k : Kinds). k.attempt) c.begin-part.ensures.kinds, c.begin-part.ensures.stands)
