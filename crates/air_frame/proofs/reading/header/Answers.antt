use Rattle.std.proofs.Common.{take}
use Rattle.air_frame.proofs.reading.header.Goals as goal

pub returns : goal.returns
returns c = λ i. record {
  octets = take c.args.size c.args.octets.now;
  a1 = c.array_at.ensures i;
  a2 = c.array_at-2.ensures i;
  a3 = c.array_at-3.ensures i;
}
