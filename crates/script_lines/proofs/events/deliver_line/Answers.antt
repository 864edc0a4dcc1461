use Rattle.std.proofs.Common.{sym}
use Rattle.script_lines.proofs.Listing.{deliver_said}
use Rattle.script_lines.proofs.Worded.{tells_as}
use Rattle.script_lines.proofs.events.deliver_line.Goals as goal

pub returns-clause-says : goal.returns-clause-says
returns-clause-says c =
    tells_as _ _ _ (deliver_said c.args.domain.now c.args.within c.args.sizes.now c.args.text.now _ _ _ _ c.in-Some.ensures (sym c.in-Some-number_of_digits.ensures) (sym c.in-Some-to_name.ensures)) c.deliver.ensures.says
