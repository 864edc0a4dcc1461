use Rattle.std.proofs.Common.{ap}
use Rattle.domain_base.specs.declared.names.Mac.{Mac}
use Rattle.data_frames.proofs.Announced.{header_as}
use Rattle.data_frames.proofs.announcing.header_of.Goals as goal

pub returns : goal.returns
returns c =
    header_as c.args.here.domain.now c.args.here.node c.receiver.result.0 c.address-own.result.0 _ c.receiver.ensures (ap (λ (m : Mac). m.0) c.address-own.ensures.mac) c.management_header.ensures
