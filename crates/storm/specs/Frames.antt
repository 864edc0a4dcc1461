-- The frames that a journal has sent. A journal has its last entry first (profile).
use Rattle.std.specs.Prelude.{ℕ, ◌-◌, cond, nat_le, List, [], ◌∷◌, ◌++◌, length, slice_index_or}
use Rattle.domain_base.specs.declared.names.Peer.TheVariants.{All}
use Rattle.run_journal.specs.declared.acts.Act.{Act}
use Rattle.run_journal.specs.declared.acts.Act.TheVariants.{Sent}
use Rattle.run_journal.specs.declared.acts.Entry.{Entry}
use Rattle.storm.specs.declared.seen.Frame.{Frame}

-- to whom, and of how many octets
abbrev pub frame_sent : Act → List Frame
frame_sent (Sent peer kind octets seal) = record { to = peer; size = length octets } ∷ []
frame_sent act = []

-- the frames sent, in order
unfoldable pub frames_of : List Entry → List Frame
frames_of [] = []
frames_of (e ∷ past) = frames_of past ++ frame_sent e.act

-- those that it has sent in the rounds up to that number
unfoldable pub frames_before : ℕ → List Entry → List Frame
frames_before rounds [] = []
frames_before rounds (e ∷ past) = cond (nat_le e.round rounds) (frames_before rounds past ++ frame_sent e.act) (frames_before rounds past)

-- the frame of that number, from 1, of those that were sent
abbrev pub frame_at : List Frame → ℕ → Frame
frame_at frames number = slice_index_or frames (number - 1) (record { to = All; size = 0 })
