use Rattle.std.proofs.Common.{ap}
use Rattle.domain_base.specs.declared.names.Mac.{Mac}
use Rattle.data_frames.proofs.Sends.{header_as}
use Rattle.data_frames.proofs.key.header_to.Goals as goal

pub returns-clause-octets : goal.returns-clause-octets
returns-clause-octets c =
    header_as c.args.here.domain.now c.args.here.node c.args.to c.args.tid c.direction-way.result c.receiver.result.0 c.address-from.result.0 c.bssid.result.0 _ c.direction-way.ensures c.receiver.ensures (ap (λ (m : Mac). m.0) c.address-from.ensures.mac) c.bssid.ensures c.data_header.ensures.octets
