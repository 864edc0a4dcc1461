use Rattle.std.proofs.Common.{refl}
use Rattle.air_frame.proofs.Lengths.{part_room, rest_room, part_size, part_octets}
use Rattle.air_frame.proofs.writing.put_re_req.Goals as goal

pub put_frame-at-requires : goal.put_frame-at-requires
put_frame-at-requires c = part_room _ _ _ _ c.args.f.now.elements.now c.two_numbers-fixed.ensures _ c.requires

pub put-requires : goal.put-requires
put-requires c = rest_room _ _ _ c.args.f.now.current_ap.0 _ c.two_numbers-fixed.ensures _ _ _ c.requires c.put_frame-at.ensures.len c.put_frame-at.ensures.size

pub returns-clause-size : goal.returns-clause-size
returns-clause-size c = part_size _ _ _ c.args.f.now.current_ap.0 _ c.two_numbers-fixed.ensures _ _ c.put_frame-at.ensures.size c.put.ensures.end

pub returns-clause-octets : goal.returns-clause-octets
returns-clause-octets c = part_octets _ _ _ c.args.f.now.current_ap.0 _ c.two_numbers-fixed.ensures _ _ _ refl c.put_frame-at.ensures.octets c.put.ensures.front
