use Rattle.std.proofs.Common.{◌∙◌}
use Rattle.key_hierarchy.proofs.last_derived.Last.r0.Goals as goal

pub returns-in-None : goal.returns-in-None
returns-in-None c = c.of.ensures ∙ c.derive.ensures
