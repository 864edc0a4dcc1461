use Rattle.std.proofs.Common.{Bool, ap, sym, ◌∙◌}
use Rattle.std.specs.Prelude.{if◌then◌else◌}
use Rattle.key_hierarchy.specs.declared.answers.RevokeAnswer.TheVariants.{Revoked, Absent}
use Rattle.key_holders.proofs.holder_rows.HolderRows.revoke.Goals as goal

pub returns-clause-answer : goal.returns-clause-answer
returns-clause-answer c = ap (λ (b : Bool). if b then Revoked else Absent) (sym c.if-not-holds_live.false ∙ c.holds_live.ensures)

pub returns-clause-rows : goal.returns-clause-rows
returns-clause-rows c = c.end.ensures
