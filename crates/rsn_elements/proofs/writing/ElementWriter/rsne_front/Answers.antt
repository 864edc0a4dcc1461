use Rattle.std.proofs.Common.{ℕ, [], ◌∷◌, ap}
use Rattle.rsn_elements.proofs.Appending.{appends_both, appends_as}
use Rattle.rsn_elements.proofs.writing.ElementWriter.rsne_front.Goals as goal

pub returns : goal.returns
returns c =
    appends_as _ _ _ _ (ap (λ (n : ℕ). 0x30 ∷ c.args.size ∷ 1 ∷ 0 ∷ 0 ∷ 15 ∷ 172 ∷ 4 ∷ 1 ∷ 0 ∷ 0 ∷ 15 ∷ 172 ∷ 4 ∷ 1 ∷ 0 ∷ 0 ∷ 15 ∷ 172 ∷ n ∷ c.args.capabilities ∷ 0 ∷ []) c.akm_type.ensures)
    (appends_both _ _ _ _ _ c.append.ensures (appends_both _ _ _ _ _ c.append-2.ensures c.append-3.ensures))
