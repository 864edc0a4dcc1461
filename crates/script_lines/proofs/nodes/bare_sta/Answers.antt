use Rattle.script_lines.proofs.Freed.{can-list_sta}
use Rattle.script_lines.proofs.Listing.{sta_said}
use Rattle.script_lines.proofs.nodes.bare_sta.Goals as goal

pub returns-clause-can : goal.returns-clause-can
returns-clause-can c = can-list_sta c.args.header.now.network _ c.in_ok-address.ensures.single c.in_ok-new_sta.ensures.room c.in_ok-new_sta.ensures.free

pub returns-clause-says : goal.returns-clause-says
returns-clause-says c = sta_said c.args.header.now c.args.text.now _ c.in_ok-address.ensures.says (c.in_ok-new_sta.ensures.says c.args.header.now.psk)
