use Rattle.std.proofs.Common.{sym, ap, arith}
use Rattle.std.specs.Option.{option_copied}
use Rattle.rsn_elements.specs.Sent.{subelement_octets}
use Rattle.rsn_elements.proofs.Appending.{subelement_written, appends_as}
use Rattle.rsn_elements.proofs.writing.ElementWriter.r0kh_id.Goals as goal

pub returns-in-Some-clause-written : goal.returns-in-Some-clause-written
returns-in-Some-clause-written c =
    appends_as _ _ _ _ (ap (λ o. subelement_octets 3 (option_copied o)) (sym c.in-Some.is)) (subelement_written 3 _ _ _ _ _ (omega arith) c.append.ensures c.append-in-Some.ensures)
