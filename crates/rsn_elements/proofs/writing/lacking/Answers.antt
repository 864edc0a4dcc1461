use Rattle.std.proofs.Common.{rules}
use Rattle.rsn_elements.proofs.writing.lacking.Goals as goal

pub returns-else-size-lt16-clause-count : goal.returns-else-size-lt16-clause-count
returns-else-size-lt16-clause-count c = search rules
