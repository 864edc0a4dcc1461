use Rattle.std.proofs.Common.{arith}
use Rattle.std.proofs.Common.{◌≡◌, Option, refl, sym, ◌∙◌, subst}
use Rattle.std.specs.Prelude.{MatchOption}
use Rattle.std.proofs.lemmas.Bool.{false≢true}
use Rattle.domain_base.specs.declared.names.Mac.{Mac}
use Rattle.std.proofs.lemmas.Grind.{common_steps}
use Rattle.holder_table.proofs.row_table.RowTable.is_asked.Goals as goal

pub returns-in-None-clause-asked : goal.returns-in-None-clause-asked
returns-in-None-clause-asked c p e = (
  λ t. (
    (c.is_named.ensures.named p e).0 c.if-not-is_named.false,
    subst (λ (o : Option Mac). MatchOption o (Unit {0}) (λ s. p.row.sta ≡ s)) (sym c.in-None.is) tt,
  ),
  λ asked. refl,
)

pub returns-then-not-is_named-clause-asked : goal.returns-then-not-is_named-clause-asked
returns-then-not-is_named-clause-asked c p e =
    (λ t. absurd (false≢true t), λ asked. absurd (false≢true (sym c.if-not-is_named.true ∙ (c.is_named.ensures.named p e).1 asked.0)))

pub returns-in-Some-clause-asked : goal.returns-in-Some-clause-asked
returns-in-Some-clause-asked c = grind (arith, common_steps)
