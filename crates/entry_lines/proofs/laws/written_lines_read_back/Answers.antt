use Rattle.entry_lines.proofs.Bare.{bare_spelled}
use Rattle.entry_lines.proofs.laws.written_lines_read_back.Goals as goal

pub returns : goal.returns
returns c = bare_spelled
