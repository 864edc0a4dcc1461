use Rattle.mac_prf.specs.FteMic.{transaction_number}
use Rattle.transition_acts.proofs.Parting.{cut_covers, cut_few}
use Rattle.transition_acts.proofs.sides.Place.covered.Goals as goal

pub returns-clause-input : goal.returns-clause-input
returns-clause-input c =
    cut_covers c.args.self.station.0 c.args.self.bssid.0 (transaction_number c.args.self.frame) c.args.self.rsne_at c.args.self.rsne_len c.args.octets.now _ _ _ _ _ c.cut.ensures.back c.cut-2.ensures.front c.cut-2.ensures.back c.cut-3.ensures.front c.cut-3.ensures.back

pub returns-clause-few : goal.returns-clause-few
returns-clause-few c low few =
    cut_few c.args.self.rsne_at c.args.self.rsne_len c.args.octets.now _ _ _ _ _ c.cut.ensures.back c.cut-2.ensures.front c.cut-2.ensures.back c.cut-3.ensures.front c.cut-3.ensures.back low few
