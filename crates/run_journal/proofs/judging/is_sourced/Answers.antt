use Rattle.std.proofs.Common.{Option, refl, sym, ap, ◌∙◌}
use Rattle.std.specs.Prelude.{is_some}
use Rattle.std.proofs.lemmas.Bool.{false≢true}
use Rattle.run_journal.specs.declared.acts.Seal.{Seal}
use Rattle.run_journal.proofs.Found.{sourced}
use Rattle.run_journal.proofs.judging.is_sourced.Goals as goal

pub returns-in-Some : goal.returns-in-Some
returns-in-Some c = sourced c.args.entries.now c.args.entry.now c.in-Some.seal.now c.find.result c.is_some.result c.is_some.ensures (sym c.in-Some.ensures) c.find.ensures

pub returns-in-None : goal.returns-in-None
returns-in-None c = (λ t s p. absurd (false≢true (ap (λ (o : Option Seal). is_some o) (c.in-None.ensures ∙ p))), λ n. refl)
