use Rattle.std.proofs.Common.{◌<◌}
use Rattle.bip_guard.specs.Bip.{ipn_in}
use Rattle.run_journal.specs.declared.acts.Outcome.TheVariants.{Accepted, Refused}
use Rattle.frame_intake.specs.Views.{action_fields}
use Rattle.data_frames.specs.Actions.{integrity}
use Rattle.data_frames.proofs.ActionsTaken.{outcome_as, acts_as, always_above, never_accepted}
use Rattle.data_frames.proofs.actions.take_action.Goals as goal

pub returns-in-Ok-clause-outcome : goal.returns-in-Ok-clause-outcome
returns-in-Ok-clause-outcome c = outcome_as c.hand_up.result Accepted _ c.in-Ok.ensures.accepted c.hand_up.ensures.outcome

pub returns-in-Ok-clause-acts : goal.returns-in-Ok-clause-acts
returns-in-Ok-clause-acts c =
    acts_as c.hand_up.result c.args.from c.args.octets.now (action_fields c.args.frame.now) (integrity c.args.igtk.now.key c.args.igtk.now.id) Accepted _ c.args.out.now.acts c.hand_up.new.out.acts c.in-Ok.ensures.accepted c.hand_up.ensures.acts

pub returns-in-Ok-clause-above : goal.returns-in-Ok-clause-above
returns-in-Ok-clause-above c = always_above c.hand_up.result (c.args.igtk.now.counter < ipn_in c.args.frame.now.body.now) c.in-Ok.ensures.above

pub returns-in-Err-clause-outcome : goal.returns-in-Err-clause-outcome
returns-in-Err-clause-outcome c = outcome_as c.settle.result (Refused c.in-Err.why) _ c.in-Err.ensures.refused c.settle.ensures.outcome

pub returns-in-Err-clause-acts : goal.returns-in-Err-clause-acts
returns-in-Err-clause-acts c =
    acts_as c.settle.result c.args.from c.args.octets.now (action_fields c.args.frame.now) (integrity c.args.igtk.now.key c.args.igtk.now.id) (Refused c.in-Err.why) _ c.args.out.now.acts c.settle.new.out.acts c.in-Err.ensures.refused c.settle.ensures.acts

pub returns-in-Err-clause-above : goal.returns-in-Err-clause-above
returns-in-Err-clause-above c = never_accepted c.settle.result c.in-Err.why (c.args.igtk.now.counter < ipn_in c.args.frame.now.body.now) c.settle.ensures.outcome
