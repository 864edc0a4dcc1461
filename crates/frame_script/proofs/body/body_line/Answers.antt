use Rattle.script_lines.proofs.Listing.{tells_by_as}
use Rattle.frame_script.proofs.Saying.{body_said}
use Rattle.frame_script.proofs.body.body_line.Goals as goal

pub returns-clause-says : goal.returns-clause-says
returns-clause-says c =
    tells_by_as _ _ _ _ (body_said c.args.header.now c.args.rounds c.args.sizes.now c.args.word.now c.args.text.now _ _ c.line_of-line.ensures c.row_of.ensures) c.placed.ensures.says
