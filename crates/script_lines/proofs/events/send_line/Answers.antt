use Rattle.std.proofs.Common.{sym}
use Rattle.script_lines.proofs.Listing.{send_said, tells_by_as}
use Rattle.script_lines.proofs.events.send_line.Goals as goal

pub returns-clause-says : goal.returns-clause-says
returns-clause-says c =
    tells_by_as _ _ _ _ (send_said c.args.domain.now c.args.within c.args.text.now _ _ _ _ _ _ c.in-Some.ensures (sym c.in-Some-node_name.ensures) c.in-Some-split_word.ensures (sym c.in-Some-peer_name.ensures)) c.send_between.ensures.says
