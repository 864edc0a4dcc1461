use Rattle.std.proofs.Common.{rules}
use Rattle.kehtrop_c.proofs.Gone.{listed_sta_in}
use Rattle.kehtrop_c.proofs.kehtrop_list_station.Goals as goal

pub returns : goal.returns
returns c = listed_sta_in _ _ _ _ (record { 0 = c.args.address.now.octets }) c.args.psk.now.octets c.list_station-status.result c.in-Some.ensures.value c.put.ensures (search rules)
