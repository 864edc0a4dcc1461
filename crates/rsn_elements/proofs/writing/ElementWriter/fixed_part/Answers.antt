use Rattle.rsn_elements.proofs.Appending.{appends_both}
use Rattle.rsn_elements.proofs.writing.ElementWriter.fixed_part.Goals as goal

pub returns : goal.returns
returns c =
    appends_both _ _ _ _ _ c.append.ensures (appends_both _ _ _ _ _ c.append-2.ensures (appends_both _ _ _ _ _ c.append-3.ensures c.append-4.ensures))
