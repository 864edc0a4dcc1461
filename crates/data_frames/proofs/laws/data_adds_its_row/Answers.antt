use Rattle.data_frames.proofs.DataRows.{handed_up_row, refused_row}
use Rattle.data_frames.proofs.laws.data_adds_its_row.Goals as goal

pub returns-clause-opened : goal.returns-clause-opened
returns-clause-opened c w h p octets f k new plain d o t = handed_up_row w h p octets f k d o new plain t

pub returns-clause-refused : goal.returns-clause-refused
returns-clause-refused c w h p octets f k why d o t = refused_row w h p octets f k d o why t
