use Rattle.std.proofs.Common.{◌∙◌, ℕ, ap, arith}
use Rattle.frame_intake.specs.Views.{sealed_fields}
use Rattle.data_frames.specs.Taking.{covered_front}
use Rattle.data_frames.proofs.Lengths.{seen_long}
use Rattle.data_frames.proofs.rooms.TakeRoom.take.Goals as goal

pub returns : goal.returns
returns c = record {
  taken = c.in_ok-taken.ensures.items;
  plain = c.in_ok-plain.ensures.items;
  covered = c.in_ok-sealing.ensures.items ∙ ap (λ (n : ℕ). covered_front (sealed_fields c.args.frame.now).header.octets n) c.packet_number-number.ensures.value;
  capacity = omega (arith, c.in_ok-sealing.ensures.room, seen_long _ c.deref.result.now _ c.deref.ensures.value c.in_ok-plain.ensures.items);
}
