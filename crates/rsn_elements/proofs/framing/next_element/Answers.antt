use Rattle.std.proofs.Common.{rules}
use Rattle.rsn_elements.proofs.framing.next_element.Goals as goal

pub returns-in-None : goal.returns-in-None
returns-in-None c = search rules
