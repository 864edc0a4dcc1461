use Rattle.std.proofs.Common.{ℕ, List, subst, take}
use Rattle.ccmp_guard.specs.Ccmp.{Protected}
use Rattle.ccmp_guard.proofs.ccmp.seal_body.Goals as goal

pub returns-clause-sealed : goal.returns-clause-sealed
returns-clause-sealed c =
    subst (λ (k : List ℕ). Protected k c.args.header.now c.args.key_id c.args.pn c.args.plain.now (take c.seal_with.result c.seal_with.new.out)) c.new.ensures.value c.seal_with.ensures.sealed
