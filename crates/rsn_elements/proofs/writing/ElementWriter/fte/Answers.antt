use Rattle.std.proofs.Common.{arith}
use Rattle.rsn_elements.specs.Fields.{fte_fields}
use Rattle.rsn_elements.proofs.Appending.{fte_length, fte_room, igtk_room, fte_written, r0kh_id_room, r1kh_id_room}
use Rattle.rsn_elements.proofs.writing.ElementWriter.fte.Goals as goal

pub returns-clause-written : goal.returns-clause-written
returns-clause-written c =
    fte_written (fte_fields c.args.fte.now) c.fte_size.result _ _ _ _ _ c.append.ensures c.fixed_part.ensures c.r1kh_id.ensures.written c.r0kh_id.ensures.written _ _ c.fte_size.ensures c.gtk.ensures.written c.igtk.ensures.written

pub gtk-requires-clause-fits : goal.gtk-requires-clause-fits
gtk-requires-clause-fits c = omega (arith, c.requires.fits, fte_length (fte_fields c.args.fte.now))

pub gtk-requires-clause-room : goal.gtk-requires-clause-room
gtk-requires-clause-room c =
    fte_room (fte_fields c.args.fte.now) c.fte_size.result _ _ _ _ _ c.append.ensures c.fixed_part.ensures c.r1kh_id.ensures.written c.r0kh_id.ensures.written c.requires.room

pub igtk-requires-clause-fits : goal.igtk-requires-clause-fits
igtk-requires-clause-fits c = omega (arith, c.requires.fits, fte_length (fte_fields c.args.fte.now))

pub igtk-requires-clause-room : goal.igtk-requires-clause-room
igtk-requires-clause-room c =
    igtk_room (fte_fields c.args.fte.now) c.fte_size.result _ _ _ _ _ c.append.ensures c.fixed_part.ensures c.r1kh_id.ensures.written c.r0kh_id.ensures.written _ c.gtk.ensures.written c.requires.room

pub r0kh_id-requires-clause-room : goal.r0kh_id-requires-clause-room
r0kh_id-requires-clause-room c = r0kh_id_room (fte_fields c.args.fte.now) c.fte_size.result _ _ _ _ c.append.ensures c.fixed_part.ensures c.r1kh_id.ensures.written c.requires.room

pub r0kh_id-requires-clause-fits : goal.r0kh_id-requires-clause-fits
r0kh_id-requires-clause-fits c = c.requires.r0kh_id

pub r1kh_id-requires : goal.r1kh_id-requires
r1kh_id-requires c = r1kh_id_room (fte_fields c.args.fte.now) c.fte_size.result _ _ _ c.append.ensures c.fixed_part.ensures c.requires.room
