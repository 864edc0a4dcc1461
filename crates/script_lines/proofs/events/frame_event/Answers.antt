use Rattle.script_lines.proofs.Saying.{frame_rest}
use Rattle.script_lines.proofs.Worded.{tells_as}
use Rattle.script_lines.proofs.events.frame_event.Goals as goal

pub returns-in_default-clause-says : goal.returns-in_default-clause-says
returns-in_default-clause-says c =
    tells_as _ _ _ (frame_rest c.args.domain.now c.args.within c.args.sizes.now c.args.line c.args.text.now c.in_default.not-Deliver c.in_default.not-Alter c.in_default.not-Cut) c.session_event.ensures.says

pub returns-in_default-clause-can : goal.returns-in_default-clause-can
returns-in_default-clause-can c = c.session_event.ensures.can c.args.sizes.now
