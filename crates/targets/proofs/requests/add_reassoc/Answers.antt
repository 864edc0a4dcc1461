use Rattle.std.proofs.Common.{refl}
use Rattle.targets.proofs.requests.add_reassoc.Goals as goal

pub add_reassoc_request-requires-clause-whole : goal.add_reassoc_request-requires-clause-whole
add_reassoc_request-requires-clause-whole c = c.requires.whole

pub returns-clause-acts : goal.returns-clause-acts
returns-clause-acts c d root n p octets e room = c.add_reassoc_request.ensures.acts d root n p octets e room

pub returns-clause-key : goal.returns-clause-key
returns-clause-key c = refl
