use Rattle.script_lines.proofs.Listing.{tells_by_as}
use Rattle.frame_script.proofs.Saying.{inside_rest}
use Rattle.frame_script.proofs.body.inside.Goals as goal

pub returns-in_default-clause-says : goal.returns-in_default-clause-says
returns-in_default-clause-says c =
    tells_by_as _ _ _ _ (inside_rest c.args.position c.args.domain.now c.args.count c.args.sizes.now c.args.line c.args.text.now c.in_default.not-Closing) c.part_line.ensures.says
