use Rattle.std.proofs.Common.{subst}
use Rattle.std.specs.Prelude.{IfOk, false}
use Rattle.rsn_elements.specs.Fields.{element_fields}
use Rattle.targets.specs.declared.moves.Moves.{Moves}
use Rattle.targets.specs.Steps.{request, ReassocTaken}
use Rattle.ap_node.proofs.Moved.{if_taken_so, no_moves_so}
use Rattle.ap_node.proofs.transitions.move_nothing.Goals as goal

pub returns-clause-moved : goal.returns-clause-moved
returns-clause-moved c =
    let q = request c.args.here.domain.now c.args.ap c.args.station c.args.octets.now (element_fields c.args.elements.now) in
    no_moves_so q c.args.newest.now c.args.out.now.acts c.take_reassoc.new.out.acts c.take_reassoc.result c.take_reassoc.new.moves
    (subst (λ (m : Moves). IfOk c.take_reassoc.result (λ t. ReassocTaken q c.args.newest.now false c.args.out.now.acts c.take_reassoc.new.out.acts m c.take_reassoc.new.moves t)) c.none-moves.ensures (if_taken_so q _ c.args.newest.now _ _ _ c.take_reassoc.result _ _ c.igtk_in.ensures c.take_reassoc.ensures.taken))
    (c.take_reassoc.ensures.none c.none-moves.ensures)
