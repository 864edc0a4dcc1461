use Rattle.data_frames.proofs.Standing.{others}
use Rattle.data_frames.proofs.laws.pairwise_keys_stand.Goals as goal

pub returns-clause-others : goal.returns-clause-others
returns-clause-others c = others
