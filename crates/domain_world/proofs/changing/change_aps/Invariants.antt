use Rattle.std.proofs.Common.{◌≡◌, ◌+◌, ◌≤◌, [], vec_len, vec_capacity}
use Rattle.domain_world.specs.Changing.{ApsSo, change_of, room_of}
use Rattle.domain_world.specs.Holding.{IsHeld}
use Rattle.domain_world.specs.Owning.{places}
use Rattle.domain_world.specs.Working.{AreNumbered}
use Rattle.domain_world.proofs.changing.change_aps.Given as goal

-- those so far did it
abbrev pub invariant-loop-place : goal.invariant-loop-place
invariant-loop-place l = record {
  changed : ApsSo l.change.domain.now (change_of l.change) l.place l.fn.aps.items l.aps.items l.fn.shared.pass.knows.seen l.held.pass.knows.seen l.fn.journal.entries l.journal.entries;
  numbered : AreNumbered l.aps.items;
  held : IsHeld l.change.domain.now l.held;
  waiting : l.out.acts ≡ [];
  noted : l.frames.items ≡ places l.journal.entries;
  spare : l.fn.out.spare ≤ l.out.spare + room_of l.change.domain.now l.place;
  entries : l.fn.journal.spare ≤ l.journal.spare + room_of l.change.domain.now l.place;
  places_left : vec_len l.frames ≤ vec_len l.fn.frames + room_of l.change.domain.now l.place;
  capacity : vec_capacity l.fn.frames ≤ vec_capacity l.frames;
}
