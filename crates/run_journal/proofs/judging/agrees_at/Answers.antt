use Rattle.std.proofs.Common.{◌≡◌, ◌↔◌, ℕ, IsTrue, true, Option, MatchOption, HoldsAt, refl, sym, subst}
use Rattle.run_journal.specs.declared.acts.Entry.{Entry}
use Rattle.run_journal.specs.Looking.{maker}
use Rattle.run_journal.proofs.judging.agrees_at.Goals as goal

pub returns-in-None : goal.returns-in-None
returns-in-None c =
    subst (λ (o : Option ℕ). MatchOption o (IsTrue true) (λ i. IsTrue true ↔ HoldsAt (λ (e : Entry). maker e.act ≡ maker c.args.act.now) c.args.entries.now i)) (sym c.in-None.is) refl
