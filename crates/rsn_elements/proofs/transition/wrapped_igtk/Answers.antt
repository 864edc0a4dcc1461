use Rattle.std.proofs.Common.{rules}
use Rattle.rsn_elements.proofs.transition.wrapped_igtk.Goals as goal

pub returns : goal.returns
returns c = search rules
