use Rattle.script_lines.proofs.Listing.{tells_by_as}
use Rattle.frame_script.proofs.Saying.{inner_said}
use Rattle.frame_script.proofs.body.inner_line.Goals as goal

pub returns-clause-says : goal.returns-clause-says
returns-clause-says c =
    tells_by_as _ _ _ _ (inner_said c.args.domain.now c.args.count c.args.sizes.now c.args.word.now c.args.text.now _ _ c.line_of-line.ensures c.row_of.ensures) c.inside.ensures.says
