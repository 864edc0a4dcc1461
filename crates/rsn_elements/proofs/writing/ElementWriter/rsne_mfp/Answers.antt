use Rattle.std.proofs.Common.{sym, ap}
use Rattle.std.specs.Option.{option_copied}
use Rattle.rsn_elements.specs.Sent.{rsne_mfp_octets}
use Rattle.rsn_elements.proofs.Appending.{appends_both, appends_as}
use Rattle.rsn_elements.proofs.writing.ElementWriter.rsne_mfp.Goals as goal

pub returns-in-None-clause-written : goal.returns-in-None-clause-written
returns-in-None-clause-written c =
    appends_as _ _ _ _ (ap (λ o. rsne_mfp_octets c.args.akm (option_copied o)) (sym c.in-None.is)) (appends_both _ _ _ _ _ c.rsne_front.ensures c.append.ensures)

pub returns-in-Some-clause-written : goal.returns-in-Some-clause-written
returns-in-Some-clause-written c =
    appends_as _ _ _ _ (ap (λ o. rsne_mfp_octets c.args.akm (option_copied o)) (sym c.in-Some.is))
    (appends_both _ _ _ _ _ c.rsne_front-in-Some.ensures (appends_both _ _ _ _ _ c.append-in-Some.ensures (appends_both _ _ _ _ _ c.append-in-Some-2.ensures c.append-in-Some-3.ensures)))
