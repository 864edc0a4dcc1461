use Rattle.std.proofs.Common.{List, ℕ, ◌++◌, ap}
use Rattle.rsn_elements.proofs.Appending.{appends_both, appends_as}
use Rattle.rsn_elements.proofs.writing.ElementWriter.igtk_front.Goals as goal

pub returns : goal.returns
returns c = appends_as _ _ _ _ (ap (λ (w : List ℕ). w ++ c.args.igtk.now.ipn) c.to_le_bytes.ensures) (appends_both _ _ _ _ _ c.append.ensures c.append-2.ensures)
