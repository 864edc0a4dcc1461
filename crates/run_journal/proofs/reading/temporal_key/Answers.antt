use Rattle.std.proofs.Common.{rules}
use Rattle.run_journal.proofs.reading.temporal_key.Goals as goal

pub returns-in-Drew-Group : goal.returns-in-Drew-Group
returns-in-Drew-Group c = search rules
