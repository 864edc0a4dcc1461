use Rattle.std.proofs.Common.{◌∙◌, ◌++◌, ℕ, List, ap, sym, arith}
use Rattle.std.proofs.lemmas.List.{take_all}
use Rattle.domain_base.specs.Places.{part}
use Rattle.bip_guard.specs.Bip.{bip_aad}
use Rattle.bip_guard.proofs.frame.aad_of.Goals as goal

pub returns : goal.returns
unfolding bip_aad
returns c =
    sym (take_all c.put.result c.put.new.out (omega (arith, c.put.ensures.end, c.put-at.ensures.end)))
    ∙ c.put.ensures.front
    ∙ ap (λ (w : List ℕ). w ++ part 4 18 c.args.header.now) c.put-at.ensures.front
