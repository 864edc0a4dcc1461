-- What room for the acts of taking protected data holds (profile).
use Rattle.std.specs.Prelude.{◌≡◌, ◌≤◌, ◌+◌, ◌-◌, ℕ, List, length, replicate, vec_len}
use Rattle.std.specs.Vec.{vec_capacity}
use Rattle.ccmp_guard.specs.Ccmp.{packet_number}
use Rattle.frame_intake.specs.SealedFields.{SealedFields}
use Rattle.data_frames.specs.declared.rooms.TakeRoom.{TakeRoom}
use Rattle.data_frames.specs.Taking.{covered_front}

-- the memory for the acts of taking these octets, which are that protected data
pub record IsRoomFor (octets : List ℕ) (f : SealedFields) (r : TakeRoom) : Type 0 where
  pub taken : r.taken.items ≡ octets
  pub plain : r.plain.items ≡ replicate (length f.body - 16) 0
  pub covered : r.covered.items ≡ covered_front f.header.octets (packet_number f.body)
  pub capacity : vec_len r.covered + (length f.body - 16) ≤ vec_capacity r.covered
