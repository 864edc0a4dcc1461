use Rattle.std.proofs.Common.{List, ℕ, ◌∷◌, ◌++◌, ap, ap₂}
use Rattle.rsn_elements.proofs.Appending.{appends_both, appends_as}
use Rattle.rsn_elements.proofs.writing.ElementWriter.igtk_kde.Goals as goal

pub returns-clause-written : goal.returns-clause-written
returns-clause-written c =
    appends_as _ _ _ _ (ap (λ (w : List ℕ). 0xdd ∷ 0x1c ∷ 0x00 ∷ 0x0f ∷ 0xac ∷ 0x09 ∷ w) (ap₂ (λ (id ipn : List ℕ). id ++ (ipn ++ c.args.key.now)) c.to_le_bytes.ensures c.ipn_octets.ensures))
    (appends_both _ _ _ _ _ c.append.ensures (appends_both _ _ _ _ _ c.append-2.ensures (appends_both _ _ _ _ _ c.append-3.ensures c.append-4.ensures)))
