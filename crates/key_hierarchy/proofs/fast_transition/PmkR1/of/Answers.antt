use Rattle.std.proofs.Common.{◌≡◌, List, ℕ, ap, ◌∙◌}
use Rattle.std.specs.Prelude.{codes}
use Rattle.mac_prf.specs.Prf.{kdf}
use Rattle.key_hierarchy.specs.FastTransition.{r1_context}
use Rattle.key_hierarchy.proofs.fast_transition.PmkR1.of.Goals as goal

pub returns : goal.returns
returns c =
    let key : c.kdf.new.out ≡ kdf c.args.pmk_r0.now (codes "FT-R1") (r1_context c.args.r1kh c.args.sta) 32 =
    c.kdf.ensures ∙ ap (λ (w : List ℕ). kdf c.args.pmk_r0.now (codes "FT-R1") w 32) c.r1_context.ensures in
    λ i. record { key = key i; name = c.r1_name-name.ensures i }
