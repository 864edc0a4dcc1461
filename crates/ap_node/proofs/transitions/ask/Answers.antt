use Rattle.ap_node.proofs.Asked.{asked_taken, asked_beside, asked_same}
use Rattle.ap_node.proofs.transitions.ask.Goals as goal

pub returns-clause-taken : goal.returns-clause-taken
returns-clause-taken g c =
    asked_taken c.take_auth-taken.new.moves c.take_moves-moves.result c.args.place.now c.take_moves-moves.new.self c.put_moves.new.self c.take_moves-moves.ensures.moves c.take_moves-moves.ensures.left c.put_moves.ensures
    c.take_auth-taken.result _ _ c.has_attempt-had_attempt.result _ _ _ c.has_attempt-had_attempt.ensures c.take_auth-taken.ensures.taken

pub returns-clause-beside : goal.returns-clause-beside
returns-clause-beside g c =
    asked_beside c.take_auth-taken.new.moves c.take_moves-moves.result c.args.place.now c.take_moves-moves.new.self c.put_moves.new.self c.take_moves-moves.ensures.moves c.take_moves-moves.ensures.left c.put_moves.ensures
    c.take_auth-taken.result _ _ c.has_attempt-had_attempt.result _ _ _ c.take_auth-taken.ensures.taken

pub returns-clause-same : goal.returns-clause-same
returns-clause-same g c =
    asked_same c.take_auth-taken.new.moves c.take_moves-moves.result c.args.place.now c.take_moves-moves.new.self c.put_moves.new.self c.take_moves-moves.ensures.moves c.take_moves-moves.ensures.left c.put_moves.ensures
    c.take_auth-taken.result c.take_auth-taken.ensures.same
