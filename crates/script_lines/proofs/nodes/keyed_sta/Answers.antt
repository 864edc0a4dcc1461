use Rattle.script_lines.proofs.Freed.{can-list_sta}
use Rattle.script_lines.proofs.Listing.{keyed_said, key_at}
use Rattle.script_lines.proofs.nodes.keyed_sta.Goals as goal

pub returns-clause-can : goal.returns-clause-can
returns-clause-can c = can-list_sta c.args.header.now.network _ c.in_ok-address.ensures.single c.in_ok-new_sta.ensures.room c.in_ok-new_sta.ensures.free

pub returns-clause-says : goal.returns-clause-says
returns-clause-says c = keyed_said c.args.header.now c.args.word.now c.args.text.now _ _ c.in_ok-address.ensures.says (key_at _ _ _ _ c.as_slice.ensures c.in_ok-psk.ensures) (c.in_ok-new_sta.ensures.says _)
