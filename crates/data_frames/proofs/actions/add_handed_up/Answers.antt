use Rattle.std.proofs.Common.{◌∙◌, List, ℕ, Some, ap}
use Rattle.run_journal.specs.declared.acts.Kind.TheVariants.{Action}
use Rattle.run_journal.specs.declared.acts.Outcome.TheVariants.{Accepted}
use Rattle.run_journal.specs.declared.acts.Seal.{Seal}
use Rattle.run_journal.specs.declared.acts.Act.{Act}
use Rattle.run_journal.specs.declared.acts.Act.TheVariants.{Took, HandedUp}
use Rattle.act_memory.specs.Templates.{seal_over}
use Rattle.data_frames.proofs.Sends.{two_added}
use Rattle.data_frames.proofs.ActionsTaken.{handed_as}
use Rattle.data_frames.proofs.actions.add_handed_up.Goals as goal

pub returns : goal.returns
returns c =
    let room = c.args.room in
    let under = c.used_here-under.result in
    let key = c.args.igtk.now in
    let took : Seal → Act = λ s. Took (Some c.args.from) room.taken.items Action Accepted (Some s) in
    two_added c.args.out.now.acts c.add.new.self.acts _ (took c.filled.result) (HandedUp c.args.from under.tk under.id under.tid c.args.number room.content.items) _ _ c.add.ensures.acts c.add-2.ensures.acts
    (ap took (c.filled.ensures ∙ ap (λ (l : List ℕ). seal_over room.covered.items l) c.used_here-under.ensures.tk))
    (handed_as c.args.from under.tk key.key under.id key.id under.tid c.args.number room.content.items c.used_here-under.ensures.tk c.used_here-under.ensures.id c.used_here-under.ensures.tid)
