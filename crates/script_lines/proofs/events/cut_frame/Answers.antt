use Rattle.std.proofs.Common.{sym}
use Rattle.script_lines.proofs.Listing.{cut_said}
use Rattle.script_lines.proofs.Worded.{tells_as}
use Rattle.script_lines.proofs.events.cut_frame.Goals as goal

pub returns-clause-says : goal.returns-clause-says
returns-clause-says c line word e f =
    tells_as _ _ _ (cut_said c.args.domain.now c.args.within c.args.sizes.now line word c.args.text.now _ _ _ _ _ e f c.in-Some.ensures (sym c.in-Some-number_of_digits.ensures) (sym c.in-Some-to_name.ensures)) c.cut.ensures.says
