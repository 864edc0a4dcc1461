use Rattle.std.proofs.Common.{refl}
use Rattle.domain_cli.proofs.Kept.{done_write, memory_write, storm_keeps}
use Rattle.domain_cli.proofs.top.stormed.Goals as goal

-- memory ran out
pub returns-in_default : goal.returns-in_default
returns-in_default g c rest = storm_keeps c.runs_are_safe.ensures c.args.number rest _ _ _ _ _ _ (c.in_default.ensures.front, refl) (λ is. absurd (memory_write is)) (λ differs. absurd (differs refl))

pub returns-in_default-write_storm : goal.returns-in_default-write_storm
returns-in_default-write_storm g c rest =
    let out = c.in_default-write_storm.ensures in
    storm_keeps c.runs_are_safe.ensures c.args.number rest _ _ _ _ _ _ (c.in-Ok.ensures.whole, (out.written.0, (out.written.1, out.written.2))) (λ is. out.cause.failed) (λ differs. refl)

pub returns : goal.returns
returns g c rest =
    let out = c.in-Ok-write_storm.ensures in
    storm_keeps c.runs_are_safe.ensures c.args.number rest _ _ _ _ _ _ (c.in-Ok.ensures.whole, (out.written.0, (out.written.1, out.written.2))) (λ is. absurd (done_write is)) (λ differs. absurd (differs out.unfailed))
