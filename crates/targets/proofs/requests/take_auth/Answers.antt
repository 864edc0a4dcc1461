use Rattle.std.proofs.Common.{refl, arith}
use Rattle.std.specs.Option.{option_copied}
use Rattle.domain_base.specs.declared.names.Node.TheVariants.{Ap, Sta}
use Rattle.rsn_elements.specs.Fields.{element_fields}
use Rattle.domain_rules.specs.TransitionKeys.{asked}
use Rattle.ft_exchange.specs.TargetSteps.{root_asked}
use Rattle.targets.specs.Steps.{request}
use Rattle.targets.proofs.Authing.{some_part, some_part_is, auth_whole, auth_taken}
use Rattle.targets.proofs.Taking.{auth_room, err_at}
use Rattle.targets.proofs.requests.take_auth.Goals as goal

pub add_auth-requires-clause-whole : goal.add_auth-requires-clause-whole
add_auth-requires-clause-whole g c = auth_whole _ _ _ _ _ _ _ _ _ c.on_auth-outcome.ensures.taken

pub returns-clause-taken : goal.returns-clause-taken
returns-clause-taken g c =
    let d = c.args.here.domain.now in
    let e = element_fields c.args.elements.now in
    let had = c.args.had_attempt in
    auth_taken (request d c.args.ap c.args.station c.args.octets.now e) (option_copied c.args.anonce) had _ c.args.out.now.acts _ _ c.args.moves.now (record { pending = c.on_auth-outcome.new.pending; held = c.args.moves.now.held })
    c.on_auth-outcome.result c.add_auth.result c.on_auth-outcome.new.reply c.add_auth.ensures.outcome c.add_auth.ensures.key c.prepare.ensures.same
    (c.add_auth.ensures.acts d (root_asked d (Sta c.args.station) (asked e)) (Ap c.args.ap) (Sta c.args.station) c.args.octets.now e (some_part had)
    (auth_room d c.args.ap c.args.station c.args.here.node c.args.octets.now e c.asked_id.result.now c.in_ok-room.room c.requires.node (c.asked_id.ensures d (Sta c.args.station)) c.in_ok-room.ensures.taken) (some_part_is had))
    refl c.on_auth-outcome.ensures.taken c.on_auth-outcome.ensures.looks

pub returns-clause-same : goal.returns-clause-same
returns-clause-same g c = tt

pub returns-clause-unasked : goal.returns-clause-unasked
returns-clause-unasked g c = tt

pub returns-clause-kept : goal.returns-clause-kept
returns-clause-kept g c = tt

pub returns-clause-room : goal.returns-clause-room
returns-clause-room g c = omega (arith, c.in_ok-room.ensures.room, c.add_auth.ensures.spare)

pub returns-clause-rows : goal.returns-clause-rows
returns-clause-rows g c = c.on_auth-outcome.ensures.rows

pub returns-clause-ids : goal.returns-clause-ids
returns-clause-ids g c = c.on_auth-outcome.ensures.ids

pub returns-clause-still_has : goal.returns-clause-still_has
returns-clause-still_has g c = c.on_auth-outcome.ensures.still_has

pub returns-clause-no_less : goal.returns-clause-no_less
returns-clause-no_less g c = c.on_auth-outcome.ensures.no_less

pub returns-in_err-room-clause-same : goal.returns-in_err-room-clause-same
returns-in_err-room-clause-same g c = err_at c.from_residual.result _ refl

pub returns-in_err-room-clause-unasked : goal.returns-in_err-room-clause-unasked
returns-in_err-room-clause-unasked g c = err_at c.from_residual.result _ refl

pub returns-in_err-room-clause-kept : goal.returns-in_err-room-clause-kept
returns-in_err-room-clause-kept g c = err_at c.from_residual.result _ c.prepare.ensures.same

pub returns-in_err-room-clause-rows : goal.returns-in_err-room-clause-rows
returns-in_err-room-clause-rows g c r has = refl

pub returns-in_err-room-clause-ids : goal.returns-in_err-room-clause-ids
returns-in_err-room-clause-ids g c = refl

pub returns-in_err-room-clause-still_has : goal.returns-in_err-room-clause-still_has
returns-in_err-room-clause-still_has g c = refl

pub returns-in_err-room-clause-no_less : goal.returns-in_err-room-clause-no_less
returns-in_err-room-clause-no_less g c = g.met.H.Holders.same c.args.holders.now
