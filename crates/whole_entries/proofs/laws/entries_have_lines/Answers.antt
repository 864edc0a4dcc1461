use Rattle.whole_entries.proofs.Completing.{lined_entry}
use Rattle.whole_entries.proofs.laws.entries_have_lines.Goals as goal

pub returns : goal.returns
returns c = lined_entry
