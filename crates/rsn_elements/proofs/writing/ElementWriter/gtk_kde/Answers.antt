use Rattle.rsn_elements.proofs.Appending.{appends_both}
use Rattle.rsn_elements.proofs.writing.ElementWriter.gtk_kde.Goals as goal

pub returns-clause-written : goal.returns-clause-written
returns-clause-written c = appends_both _ _ _ _ _ c.append.ensures c.append-2.ensures
