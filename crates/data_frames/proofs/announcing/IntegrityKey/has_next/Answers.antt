use Rattle.std.proofs.Common.{ℕ, nat_lt, ap}
use Rattle.replay_window.specs.Numbers.{last_number}
use Rattle.data_frames.proofs.announcing.IntegrityKey.has_next.Goals as goal

pub returns : goal.returns
returns c = ap (λ (n : ℕ). nat_lt n last_number) c.used.ensures.value
