use Rattle.std.proofs.Common.{◌≡◌, ◌+◌, ◌≤◌, [], vec_len, vec_capacity}
use Rattle.domain_world.specs.Changing.{StasSo, AreStations, change_of, count_below, room_of}
use Rattle.domain_world.specs.Owning.{places}
use Rattle.domain_world.proofs.changing.change_stas.Given as goal

-- those so far did it whose key it is
abbrev pub invariant-loop-place : goal.invariant-loop-place
invariant-loop-place l = record {
  changed : StasSo l.change.domain.now (change_of l.change) l.place l.fn.stas.items l.stas.items l.fn.journal.entries l.journal.entries;
  numbered : AreStations l.stas.items;
  waiting : l.out.acts ≡ [];
  noted : l.frames.items ≡ places l.journal.entries;
  spare : l.fn.out.spare ≤ l.out.spare + room_of l.change.domain.now (count_below l.change.sta l.place);
  entries : l.fn.journal.spare ≤ l.journal.spare + room_of l.change.domain.now (count_below l.change.sta l.place);
  places_left : vec_len l.frames ≤ vec_len l.fn.frames + room_of l.change.domain.now (count_below l.change.sta l.place);
  capacity : vec_capacity l.fn.frames ≤ vec_capacity l.frames;
}
