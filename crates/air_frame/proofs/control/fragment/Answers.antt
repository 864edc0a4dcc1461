use Rattle.std.specs.Prelude.{slice_index}
use Rattle.std.proofs.lemmas.Nat.{and_mask}
use Rattle.air_frame.proofs.control.fragment.Goals as goal

pub returns : goal.returns
returns c = and_mask (slice_index c.args.octets.now 22) 4
