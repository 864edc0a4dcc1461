use Rattle.std.proofs.Common.{◌+◌, ◌≤◌, ℕ, ap, arith}
use Rattle.run_journal.specs.Limits.{most_aps, most_stas}
use Rattle.domain_world.specs.Changing.{count_named}
use Rattle.domain_world.proofs.ChangingNodes.{room_is, room_fits}
use Rattle.domain_world.proofs.changing.room.Goals as goal

pub overflow_add-nodes : goal.overflow_add-nodes
overflow_add-nodes c = omega (arith, c.requires.aps, c.count_named-named.ensures.few)

pub overflow_mul-result : goal.overflow_mul-result
overflow_mul-result c =
    let few : c.args.aps + c.count_named-named.result ≤ most_aps + most_stas = omega (arith, c.requires.aps, c.count_named-named.ensures.few) in
    omega (arith, room_fits c.args.domain.now c.most_changed-most.result (c.args.aps + c.count_named-named.result) c.requires.form c.most_changed-most.ensures few)

pub returns : goal.returns
returns c =
    room_is c.args.domain.now c.most_changed-most.result (c.args.aps + c.count_named-named.result) (c.args.aps + count_named c.args.sta c.args.stas) c.most_changed-most.ensures
    (ap (λ (k : ℕ). c.args.aps + k) c.count_named-named.ensures.count)
