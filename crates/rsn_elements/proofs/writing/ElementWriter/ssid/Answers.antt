use Rattle.std.proofs.Common.{arith}
use Rattle.rsn_elements.proofs.Appending.{subelement_written}
use Rattle.rsn_elements.proofs.writing.ElementWriter.ssid.Goals as goal

pub returns : goal.returns
returns c = subelement_written 0 _ _ _ _ _ (omega arith) c.append.ensures c.append-2.ensures
