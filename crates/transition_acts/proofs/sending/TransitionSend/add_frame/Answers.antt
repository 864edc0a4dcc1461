use Rattle.std.proofs.Common.{◌∙◌, ◌++◌, List, ap}
use Rattle.run_journal.specs.declared.acts.Act.{Act}
use Rattle.transition_acts.proofs.Rooming.{frame_sent}
use Rattle.transition_acts.proofs.sending.TransitionSend.add_frame.Goals as goal

pub returns-clause-acts : goal.returns-clause-acts
returns-clause-acts c d n p here =
    c.add.ensures.acts ∙ ap (λ (l : List Act). c.args.out.now.acts ++ l)
    (frame_sent d n p c.args.self c.args.reply.now _ _ _ _ here c.requires.some c.split_at.ensures.front c.filled.ensures c.place.ensures.place c.seal_at-seal.ensures)
