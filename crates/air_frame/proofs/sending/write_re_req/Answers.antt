use Rattle.air_frame.proofs.Lengths.{part_octets}
use Rattle.air_frame.proofs.sending.write_re_req.Goals as goal

pub returns-clause-octets : goal.returns-clause-octets
returns-clause-octets c =
    part_octets _ _ _ c.args.current_ap.0 _ c.two_numbers-fixed.ensures _ _ _ c.management_header-header.ensures c.put_frame-at.ensures.octets c.put.ensures.front
