use Rattle.std.proofs.Common.{refl}
use Rattle.domain_rules.specs.Rows.{Take}
use Rattle.rsn_elements.specs.Fields.{element_fields}
use Rattle.frame_intake.specs.Views.{reading_of, management_fields}
use Rattle.station_node.specs.Steps.{turn}
use Rattle.station_node.proofs.Taken.{takes_by}
use Rattle.station_node.proofs.Judged.{judged-managed, judged-raw, judged-keyed, judged-sealed, judged-acting, judged-settled, judged-ap, judged-listed}
use Rattle.station_node.proofs.station.StationNode.take.Goals as goal

pub number_of-requires : goal.number_of-requires
number_of-requires c = judged-ap c.args.here.domain.now c.args.here.node c.args.self.now.number c.in-Managed.from c.in-Managed.ensures.2 c.requires.node

pub number_of-requires-in-Keyed : goal.number_of-requires-in-Keyed
number_of-requires-in-Keyed c = judged-ap c.args.here.domain.now c.args.here.node c.args.self.now.number c.in-Keyed.from c.in-Keyed.ensures.2 c.requires.node

pub number_of-requires-in-Sealed : goal.number_of-requires-in-Sealed
number_of-requires-in-Sealed c = judged-ap c.args.here.domain.now c.args.here.node c.args.self.now.number c.in-Sealed.from c.in-Sealed.ensures.2 c.requires.node

pub number_of-requires-in-Acting : goal.number_of-requires-in-Acting
number_of-requires-in-Acting c = judged-ap c.args.here.domain.now c.args.here.node c.args.self.now.number c.in-Acting.from c.in-Acting.ensures.2 c.requires.node

pub take_management-requires-clause-ap : goal.take_management-requires-clause-ap
take_management-requires-clause-ap c = judged-listed c.args.here.domain.now c.args.here.node c.args.self.now.number c.number_of.result c.in-Managed.from c.in-Managed.ensures.2 c.number_of.ensures c.requires.node

pub take_message-requires-clause-ap : goal.take_message-requires-clause-ap
take_message-requires-clause-ap c = judged-listed c.args.here.domain.now c.args.here.node c.args.self.now.number c.number_of-in-Keyed.result c.in-Keyed.from c.in-Keyed.ensures.2 c.number_of-in-Keyed.ensures c.requires.node

pub take_management-requires-clause-managed : goal.take_management-requires-clause-managed
take_management-requires-clause-managed c =
    judged-managed c.args.here.domain.now c.args.here.node c.args.self.now.number c.number_of.result c.args.octets.now (reading_of c.read-delivered.result) c.in-Managed.frame c.in-Managed.elements c.in-Managed.from c.in-Managed.ensures c.read-delivered.ensures.reads c.number_of.ensures c.requires.node

pub take_message-requires-clause-message : goal.take_message-requires-clause-message
take_message-requires-clause-message c =
    judged-keyed c.args.here.domain.now c.args.here.node c.args.self.now.number c.number_of-in-Keyed.result c.args.octets.now (reading_of c.read-delivered.result) c.in-Keyed.message c.in-Keyed.from c.in-Keyed.ensures c.read-delivered.ensures.reads c.number_of-in-Keyed.ensures c.requires.node

pub take_management-requires-clause-raw : goal.take_management-requires-clause-raw
take_management-requires-clause-raw c =
    judged-raw c.read-delivered.result (management_fields c.in-Managed.frame) (element_fields c.in-Managed.elements) c.read-delivered.ensures.whole c.in-Managed.ensures.0

pub returns-in-Settled : goal.returns-in-Settled
returns-in-Settled c =
    takes_by c.args.here.domain.now (Take c.args.octets.now) (turn c.args.self.now c.args.self.now c.args.out.now.acts c.settle.new.out.acts) c.settle.result c.in-Settled.outcome _ c.settle.ensures.outcome c.settle.ensures.acts c.settle.ensures.kept refl
    (λ is. judged-settled c.args.here.domain.now c.args.here.node c.args.self.now c.args.octets.now (reading_of c.read-delivered.result) c.in-Settled.from c.kind.result c.in-Settled.outcome c.args.out.now.acts c.settle.new.out.acts c.in-Settled.ensures c.read-delivered.ensures.reads c.kind.ensures c.requires.node is)

pub returns-in-Sealed : goal.returns-in-Sealed
returns-in-Sealed c =
    let d = c.args.here.domain.now in
    let p = c.number_of-in-Sealed.result in
    c.take_data.ensures d (judged-listed d c.args.here.node c.args.self.now.number p c.in-Sealed.from c.in-Sealed.ensures.2 c.number_of-in-Sealed.ensures c.requires.node)
    (judged-sealed d c.args.here.node c.args.self.now.number p c.args.octets.now (reading_of c.read-delivered.result) c.in-Sealed.frame c.in-Sealed.from c.in-Sealed.ensures c.read-delivered.ensures.reads c.number_of-in-Sealed.ensures c.requires.node)

pub returns-in-Acting : goal.returns-in-Acting
returns-in-Acting c =
    let d = c.args.here.domain.now in
    let p = c.number_of-in-Acting.result in
    c.take_acting.ensures d (judged-listed d c.args.here.node c.args.self.now.number p c.in-Acting.from c.in-Acting.ensures.2 c.number_of-in-Acting.ensures c.requires.node)
    (judged-acting d c.args.here.node c.args.self.now.number p c.args.octets.now (reading_of c.read-delivered.result) c.in-Acting.frame c.in-Acting.from c.in-Acting.ensures c.read-delivered.ensures.reads c.number_of-in-Acting.ensures c.requires.node)

pub take_message-requires-clause-listed : goal.take_message-requires-clause-listed
take_message-requires-clause-listed c = c.requires.listed

pub take_message-requires-clause-node : goal.take_message-requires-clause-node
take_message-requires-clause-node c = c.requires.node

pub take_management-requires-clause-listed : goal.take_management-requires-clause-listed
take_management-requires-clause-listed c = c.requires.listed
