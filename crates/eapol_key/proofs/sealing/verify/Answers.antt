use Rattle.std.proofs.Common.{◌≡◌, ℕ, List, true, subst}
use Rattle.std.specs.Prelude.{◌↔◌}
use Rattle.std.proofs.lemmas.Bool.Decides.{Decides-eqb}
use Rattle.std.proofs.lemmas.Slice.Eq.{slice_eq-Decides}
use Rattle.eapol_key.proofs.sealing.verify.Goals as goal

pub returns : goal.returns
returns c =
    subst (λ (code : List ℕ). (c.eq.result ≡ true) ↔ (c.args.frame.now.mic ≡ code)) c.mic.ensures
    (slice_eq-Decides Decides-eqb c.args.frame.now.mic c.mic.result c.eq.result c.eq.ensures)
