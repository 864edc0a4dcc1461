use Rattle.std.proofs.Common.{◌≤◌, ◌++◌, ℕ, List, take, drop, ap, ◌∙◌, arith}
use Rattle.std.specs.Prelude.{length}
use Rattle.std.proofs.lemmas.List.{take-append-le, take-take, length-take-le}
use Rattle.domain_base.proofs.memory.copy_front.Goals as goal

pub returns-clause-front : goal.returns-clause-front
returns-clause-front c =
    let n = c.min-count.result in
    let o = c.args.octets.now in
    let within : n ≤ length o = omega (arith, c.min-count.ensures) in
    ap (λ (l : List ℕ). take n (l ++ drop n c.args.buf.now)) c.copy_from_slice.ensures.after
    ∙ (take-append-le n (take n o) _ (omega (arith, length-take-le n o within)) ∙ take-take n n o (omega arith))
