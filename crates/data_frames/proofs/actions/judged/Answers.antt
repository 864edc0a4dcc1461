use Rattle.std.proofs.Common.{◌∙◌, sym}
use Rattle.frame_intake.specs.Views.{action_fields}
use Rattle.data_frames.specs.Actions.{integrity}
use Rattle.data_frames.proofs.ActionsTaken.{replayed, opened, forged, above_is}
use Rattle.data_frames.proofs.actions.judged.Goals as goal

pub returns-then-not-is_above-clause-refused : goal.returns-then-not-is_above-clause-refused
returns-then-not-is_above-clause-refused c =
    replayed (action_fields c.args.frame.now) (integrity c.args.igtk.now.key c.args.igtk.now.id) c.args.igtk.now.counter (sym c.is_above.ensures ∙ c.if-not-is_above.true)

pub returns-in-Ok-clause-accepted : goal.returns-in-Ok-clause-accepted
returns-in-Ok-clause-accepted c =
    opened (action_fields c.args.frame.now) (integrity c.args.igtk.now.key c.args.igtk.now.id) c.args.igtk.now.counter (sym c.is_above.ensures ∙ c.if-not-is_above.false) c.in-Ok.ensures.mic

pub returns-in-Ok-clause-above : goal.returns-in-Ok-clause-above
returns-in-Ok-clause-above c = above_is c.args.igtk.now.counter _ (sym c.is_above.ensures ∙ c.if-not-is_above.false)

pub returns-in-Err-clause-refused : goal.returns-in-Err-clause-refused
returns-in-Err-clause-refused c =
    forged (action_fields c.args.frame.now) (integrity c.args.igtk.now.key c.args.igtk.now.id) c.args.igtk.now.counter (sym c.is_above.ensures ∙ c.if-not-is_above.false) c.in-Err.ensures.mic
