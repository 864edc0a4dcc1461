use Rattle.std.proofs.Common.{◌≡◌, ◌+◌, Option, sym, subst, arith}
use Rattle.run_journal.specs.declared.reply.Keyed.{Keyed}
use Rattle.ap_node.specs.Moving.{drawn_for}
use Rattle.ap_node.proofs.transitions.drawn_with.Goals as goal

pub returns-in-Some-clause-exact : goal.returns-in-Some-clause-exact
returns-in-Some-clause-exact c few =
    let one : c.saturating_add.result ≡ c.args.drawn + 1 = omega (arith, few, c.saturating_add.ensures) in
    subst (λ (k : Option Keyed). c.saturating_add.result ≡ c.args.drawn + drawn_for k) (sym c.in-Some.is) one
