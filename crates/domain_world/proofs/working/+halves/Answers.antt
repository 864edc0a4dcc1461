use Rattle.std.proofs.Common.{◌≡◌, length, subst, arith}
use Rattle.domain_world.specs.Working.{AreIdle}
use Rattle.domain_world.proofs.Running.{idle_run, idle_parts, front_batch, back_batch, halves_run}
use Rattle.domain_world.proofs.working.+halves.Goals as goal

pub run_batch-returns-then-count-eq0-clause-ran : goal.run_batch-returns-then-count-eq0-clause-ran
run_batch-returns-then-count-eq0-clause-ran g t c =
    let d = g.W.Acts.domain c.args.round.now in
    let ts = g.W.Acts.turns c.args.round.now in
    let b = c.args.batch in
    let none : AreIdle b.first (length b.aps.items) ts = λ k low high. absurd (omega (arith, low, high, c.if-count-eq0.true, c.len-count.ensures, b.aps.ok.0)) in
    idle_run d ts c.args.table.now.table b c.idle.result c.requires.batch c.idle.ensures.aps c.idle.ensures.pass (idle_parts d ts b c.idle.result none c.idle.ensures.parts)

pub run_batch-returns-then-not-has_turn-clause-ran : goal.run_batch-returns-then-not-has_turn-clause-ran
run_batch-returns-then-not-has_turn-clause-ran g t c =
    let d = g.W.Acts.domain c.args.round.now in
    let ts = g.W.Acts.turns c.args.round.now in
    let b = c.args.batch in
    let idle = c.idle-then-not-has_turn in
    let count : c.len-count.result ≡ length b.aps.items = omega (arith, c.len-count.ensures, b.aps.ok.0) in
    let none : AreIdle b.first (length b.aps.items) ts = subst (λ n. AreIdle b.first n ts) count (c.has_turn.ensures c.if-not-has_turn.true) in
    idle_run d ts c.args.table.now.table b idle.result c.requires.batch idle.ensures.aps idle.ensures.pass (idle_parts d ts b idle.result none idle.ensures.parts)

pub run_batch-both_halves-front-requires-clause-front : goal.run_batch-both_halves-front-requires-clause-front
run_batch-both_halves-front-requires-clause-front g t c κs within = front_batch (g.W.Acts.domain c.args.round.now) c.args.table.now.table c.args.batch c.in-Ok.front c.in-Ok.back c.requires.batch c.in-Ok.ensures.halves

pub run_batch-both_halves-front-requires-clause-back : goal.run_batch-both_halves-front-requires-clause-back
run_batch-both_halves-front-requires-clause-back g t c κs within = back_batch (g.W.Acts.domain c.args.round.now) c.args.table.now.table c.args.batch c.in-Ok.front c.in-Ok.back c.requires.batch c.in-Ok.ensures.halves

pub run_batch-returns-in-Ok-clause-ran : goal.run_batch-returns-in-Ok-clause-ran
run_batch-returns-in-Ok-clause-ran g t c =
    let both = c.both_halves-front in
    halves_run (g.W.Acts.domain c.args.round.now) (g.W.Acts.turns c.args.round.now) c.args.table.now.table c.args.batch c.in-Ok.front c.in-Ok.back both.result.0 both.result.1 c.together.result c.requires.batch c.in-Ok.ensures.halves both.ensures.front both.ensures.back
    c.together.ensures.took_in c.together.ensures.aps c.together.ensures.pass c.together.ensures.parts
