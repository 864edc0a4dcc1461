use Rattle.std.proofs.Common.{List, Bor, ℕ, map, refl, ap, ◌∙◌, inr}
use Rattle.domain_cli.proofs.Programs.{has_ran}
use Rattle.domain_cli.proofs.program.run_words.Goals as goal

pub returns-in_default : goal.returns-in_default
returns-in_default g c = inr (refl, refl)

pub returns-in_default-read_words : goal.returns-in_default-read_words
returns-in_default-read_words g c = inr (refl, refl)

pub returns : goal.returns
returns g c =
    let same = ap (λ (w : List (Bor (List ℕ))). map (λ (x : Bor (List ℕ)). x.now) w) c.deref-2.ensures.value ∙ c.in-Ok.ensures in
    has_ran _ _ _ _ _ _ same c.new-air.ensures c.new-draws.ensures.faults c.new-draws.ensures.last c.run_over.ensures.1
