use Rattle.std.proofs.Common.{sym}
use Rattle.script_lines.proofs.Listing.{alter_said}
use Rattle.script_lines.proofs.Worded.{tells_as}
use Rattle.script_lines.proofs.events.alter_octet.Goals as goal

pub returns-clause-can : goal.returns-clause-can
returns-clause-can c = c.alter.ensures.can c.args.domain.now c.in-Some-event_node.ensures.inside

pub returns-clause-says : goal.returns-clause-says
returns-clause-says c line word rest second e f g h =
    tells_as _ _ _
    (alter_said c.args.domain.now c.args.within c.args.sizes.now line word rest second c.args.text.now _ _ _ _ _ _ _ e f g h c.in-Some.ensures (sym c.in-Some-hex_octets.ensures) (sym c.in-Some-to_name.ensures) (sym c.in-Some-event_node.ensures.value)) c.alter.ensures.says
