use Rattle.std.proofs.Common.{◌∙◌, ◌++◌, [], ◌∷◌, ap}
use Rattle.run_journal.specs.declared.acts.Act.{Act}
use Rattle.transition_acts.proofs.Sealing.{seal_taken, took_is}
use Rattle.transition_acts.proofs.taken.TakenRoom.add_sealed.Goals as goal

pub returns-clause-acts : goal.returns-clause-acts
returns-clause-acts c octets input room =
    c.add.ensures.acts ∙ ap (λ (a : Act). c.args.out.now.acts ++ a ∷ [])
    (took_is c.args.peer _ octets c.args.kind c.args.outcome _ _ room.octets_are (c.seal_of.ensures ∙ seal_taken _ input c.args.verified room.covered))
