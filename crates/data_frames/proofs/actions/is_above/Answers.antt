use Rattle.std.proofs.Common.{ℕ, nat_lt, ap}
use Rattle.data_frames.proofs.actions.is_above.Goals as goal

pub returns : goal.returns
returns c = ap (λ (n : ℕ). nat_lt c.args.kept n) c.ipn_in.ensures
