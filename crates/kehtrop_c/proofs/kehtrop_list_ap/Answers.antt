use Rattle.std.proofs.Common.{rules}
use Rattle.kehtrop_c.proofs.Gone.{listed_ap_in}
use Rattle.kehtrop_c.proofs.kehtrop_list_ap.Goals as goal

pub returns : goal.returns
returns c = listed_ap_in _ _ _ _ (record { 0 = c.args.address.now.octets }) c.args.r0kh_id.now c.list_ap-status.result c.in-Some.ensures.value c.put.ensures (search rules)
