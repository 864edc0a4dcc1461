use Rattle.std.proofs.Common.{List, ℕ, ap, ◌∙◌}
use Rattle.key_hierarchy.specs.FastTransition.{pmk_r1, pmk_r1_of}
use Rattle.key_hierarchy.proofs.fast_transition.PmkR0.r1.Goals as goal

pub returns-clause-r1 : goal.returns-clause-r1
unfolding pmk_r1
returns-clause-r1 c = c.of.ensures ∙ ap (λ (w : List ℕ). pmk_r1_of c.args.self.now.key w c.args.r1kh c.args.sta) c.name.ensures
