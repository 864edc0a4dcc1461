use Rattle.std.proofs.Common.{refl, arith}
use Rattle.domain_base.specs.declared.names.Node.TheVariants.{Ap, Sta}
use Rattle.rsn_elements.specs.Fields.{element_fields}
use Rattle.domain_rules.specs.Network.{root_at}
use Rattle.group_key.specs.News.{news_of}
use Rattle.targets.specs.State.{meant, id_of}
use Rattle.targets.specs.Steps.{request}
use Rattle.targets.proofs.Reassociating.{moved_whole, reassoc_taken, none_taken}
use Rattle.targets.proofs.Taking.{reassoc_room, err_at}
use Rattle.targets.proofs.requests.take_reassoc.Goals as goal

pub add_reassoc-requires-clause-whole : goal.add_reassoc-requires-clause-whole
add_reassoc-requires-clause-whole c = moved_whole _ _ _ _ _ _ c.on_reassoc-outcome.ensures

pub returns-clause-taken : goal.returns-clause-taken
returns-clause-taken c =
    let d = c.args.here.domain.now in
    let e = element_fields c.args.elements.now in
    let octets = c.args.octets.now in
    let id = id_of (meant e c.args.moves.now) in
    reassoc_taken (request d c.args.ap c.args.station octets e) (news_of c.args.newest.now c.args.rsc c.args.igtk) c.args.had_session c.args.out.now.acts _ _ c.args.moves.now c.on_reassoc-outcome.new.self c.on_reassoc-outcome.result c.add_reassoc.result
    c.on_reassoc-outcome.new.reply c.add_reassoc.ensures.outcome c.add_reassoc.ensures.key c.prepare.ensures.same
    (c.add_reassoc.ensures.acts d (root_at d (Sta c.args.station) id) (Ap c.args.ap) (Sta c.args.station) octets e
    (reassoc_room d c.args.ap c.args.station c.args.here.node octets e c.r0kh_id.result.now id c.in_ok-room.room c.requires.node c.r0kh_id.ensures c.in_ok-room.ensures.taken))
    c.on_reassoc-outcome.ensures

pub returns-clause-same : goal.returns-clause-same
returns-clause-same c = tt

pub returns-clause-kept : goal.returns-clause-kept
returns-clause-kept c = tt

pub returns-clause-room : goal.returns-clause-room
returns-clause-room c = omega (arith, c.in_ok-room.ensures.room, c.add_reassoc.ensures.spare)

pub returns-in_err-room-clause-same : goal.returns-in_err-room-clause-same
returns-in_err-room-clause-same c = err_at c.from_residual.result _ refl

pub returns-in_err-room-clause-kept : goal.returns-in_err-room-clause-kept
returns-in_err-room-clause-kept c = err_at c.from_residual.result _ c.prepare.ensures.same

pub returns-clause-none : goal.returns-clause-none
returns-clause-none c none = none_taken _ _ c.args.moves.now _ _ _ _ none c.add_reassoc.ensures.key c.on_reassoc-outcome.ensures
