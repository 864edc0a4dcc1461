use Rattle.std.proofs.Common.{List, ℕ, ap, ◌∙◌}
use Rattle.key_hierarchy.specs.declared.fast_transition.PmkR0.{PmkR0}
use Rattle.key_hierarchy.specs.FastTransition.{pmk_r1, pmk_r1_of}
use Rattle.key_hierarchy.proofs.last_derived.NamedR0.r1.Goals as goal

pub returns : goal.returns
unfolding pmk_r1
returns c =
    c.of.ensures
    ∙ ap (λ (w : List ℕ). pmk_r1_of c.self.inside.r0.key w c.args.r1kh c.args.sta) c.self.invariant
    ∙ ap (λ (r0 : PmkR0). pmk_r1 r0 c.args.r1kh c.args.sta) c.self.view_is
