use Rattle.std.proofs.Common.{sym, subst, List, ℕ}
use Rattle.ccmp_guard.specs.Ccmp.{Protected}
use Rattle.ccmp_guard.proofs.ccmp.open_body.Goals as goal

pub returns-clause-only : goal.returns-clause-only
returns-clause-only c = λ id pn plain h.
    let P : List ℕ → Type 0 = λ k. Protected k c.args.header.now id pn plain c.args.body.now in
    c.open_with.ensures.only id pn plain (subst P (sym c.new.ensures.value) h)
