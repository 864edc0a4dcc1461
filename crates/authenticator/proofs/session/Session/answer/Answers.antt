use Rattle.std.proofs.Common.{rules}
use Rattle.authenticator.proofs.session.Session.answer.Goals as goal

pub returns : goal.returns
returns c = search rules
