use Rattle.std.proofs.Common.{suc, sym, ◌∙◌}
use Rattle.std.proofs.lemmas.Bool.{ltb-true}
use Rattle.script_lines.proofs.events.alter.Goals as goal

pub returns-clause-can : goal.returns-clause-can
returns-clause-can c d listed = (listed, c.in-Some.ensures.sized (suc c.args.place) (ltb-true _ _ (sym c.has_place.ensures ∙ c.if-not-has_place.false)))
