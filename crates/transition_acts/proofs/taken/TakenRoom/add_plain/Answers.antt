use Rattle.std.proofs.Common.{◌∙◌, ◌++◌, [], ◌∷◌, None, refl, ap}
use Rattle.run_journal.specs.declared.acts.Act.{Act}
use Rattle.transition_acts.proofs.Sealing.{took_is}
use Rattle.transition_acts.proofs.taken.TakenRoom.add_plain.Goals as goal

pub returns-clause-acts : goal.returns-clause-acts
returns-clause-acts c octets input room =
    c.add.ensures.acts ∙ ap (λ (a : Act). c.args.out.now.acts ++ a ∷ []) (took_is c.args.peer _ octets c.args.kind c.args.outcome None None room.octets_are refl)
