use Rattle.domain_base.specs.declared.names.Node.TheVariants.{Ap, Sta}
use Rattle.rsn_elements.specs.Fields.{element_fields}
use Rattle.targets.specs.Steps.{request}
use Rattle.ap_node.proofs.Moved.{taken_so, moved_so, refused_so, back_so}
use Rattle.ap_node.proofs.transitions.move_place.Goals as goal

pub returns-in-Ok-clause-moved : goal.returns-in-Ok-clause-moved
returns-in-Ok-clause-moved c =
    moved_so (request c.args.here.domain.now c.args.ap c.args.station c.args.octets.now (element_fields c.args.elements.now)) c.args.newest.now c.args.out.now.acts c.take_reassoc.new.out.acts c.args.here.domain.now (Ap c.args.ap) (Sta c.args.station)
    c.args.place.now c.settle_moves.new.place c.in-Ok.taken c.is_some-had_session.result c.take_moves-moves.result c.take_reassoc.new.moves c.begun_key.result c.is_some-had_session.ensures c.take_moves-moves.ensures.moves c.begun_key.ensures
    (taken_so _ _ c.args.newest.now _ _ _ _ _ _ c.igtk_in.ensures c.in-Ok.ensures.taken) (c.settle_moves.ensures c.args.place.now c.take_moves-moves.ensures.left)

pub returns-in-Ok-clause-refused : goal.returns-in-Ok-clause-refused
returns-in-Ok-clause-refused c =
    refused_so _ _ _ _ _ _ _ c.args.place.now c.settle_moves.new.place c.in-Ok.taken
    (moved_so (request c.args.here.domain.now c.args.ap c.args.station c.args.octets.now (element_fields c.args.elements.now)) c.args.newest.now c.args.out.now.acts c.take_reassoc.new.out.acts c.args.here.domain.now (Ap c.args.ap) (Sta c.args.station)
    c.args.place.now c.settle_moves.new.place c.in-Ok.taken c.is_some-had_session.result c.take_moves-moves.result c.take_reassoc.new.moves c.begun_key.result c.is_some-had_session.ensures c.take_moves-moves.ensures.moves c.begun_key.ensures
    (taken_so _ _ c.args.newest.now _ _ _ _ _ _ c.igtk_in.ensures c.in-Ok.ensures.taken) (c.settle_moves.ensures c.args.place.now c.take_moves-moves.ensures.left))

pub returns-in-Err-clause-same : goal.returns-in-Err-clause-same
returns-in-Err-clause-same c =
    back_so c.args.place.now c.take_moves-moves.new.self c.put_moves.new.self c.take_moves-moves.result c.take_reassoc.new.moves c.take_moves-moves.ensures.moves c.take_moves-moves.ensures.left c.in-Err.ensures.same c.put_moves.ensures
