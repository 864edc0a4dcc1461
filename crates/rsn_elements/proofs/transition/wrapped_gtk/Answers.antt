use Rattle.std.proofs.Common.{rules}
use Rattle.rsn_elements.proofs.transition.wrapped_gtk.Goals as goal

pub returns : goal.returns
returns c = search rules
