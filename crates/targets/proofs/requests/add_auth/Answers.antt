use Rattle.std.proofs.Common.{refl}
use Rattle.mac_prf.specs.declared.reassociation.Reassociation.TheVariants.{Request}
use Rattle.targets.proofs.requests.add_auth.Goals as goal

pub add_auth_request-requires-clause-whole : goal.add_auth_request-requires-clause-whole
add_auth_request-requires-clause-whole c = c.requires.whole

pub returns-clause-acts : goal.returns-clause-acts
returns-clause-acts c d root n p octets e part room had = c.add_auth_request.ensures.acts d root n p octets e Request part room had

pub returns-clause-key : goal.returns-clause-key
returns-clause-key c = refl
