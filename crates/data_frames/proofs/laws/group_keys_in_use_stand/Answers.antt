use Rattle.data_frames.proofs.Standing.{group_numbered, group_others}
use Rattle.data_frames.proofs.laws.group_keys_in_use_stand.Goals as goal

pub returns-clause-used : goal.returns-clause-used
returns-clause-used c = group_numbered

pub returns-clause-others : goal.returns-clause-others
returns-clause-others c = group_others
