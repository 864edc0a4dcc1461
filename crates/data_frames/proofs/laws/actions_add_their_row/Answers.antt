use Rattle.data_frames.proofs.ActionRows.{action_row, keyless_row}
use Rattle.data_frames.proofs.laws.actions_add_their_row.Goals as goal

pub returns-clause-taken : goal.returns-clause-taken
returns-clause-taken c w h p octets f g kept d under got = action_row w h p octets f d g under kept got

pub returns-clause-keyless : goal.returns-clause-keyless
returns-clause-keyless c w h p octets f d none = keyless_row w h p octets f d none
