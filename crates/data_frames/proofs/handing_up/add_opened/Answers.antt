use Rattle.std.proofs.Common.{◌∙◌, ◌++◌, ℕ, List, Some, ap}
use Rattle.ccmp_guard.specs.Ccmp.{packet_number}
use Rattle.run_journal.specs.declared.acts.Kind.TheVariants.{Data}
use Rattle.run_journal.specs.declared.acts.Outcome.TheVariants.{Accepted}
use Rattle.run_journal.specs.declared.acts.Seal.{Seal}
use Rattle.run_journal.specs.declared.acts.Act.{Act}
use Rattle.run_journal.specs.declared.acts.Act.TheVariants.{Took, HandedUp}
use Rattle.act_memory.specs.Templates.{seal_over}
use Rattle.data_frames.proofs.Sends.{covers, two_added}
use Rattle.data_frames.proofs.handing_up.add_opened.Goals as goal

pub returns : goal.returns
returns c =
    let header = c.args.frame.now.header.octets.now in
    let number = packet_number c.args.frame.now.body.now in
    let plain = c.args.opened.plain.items in
    let key = c.args.key in
    let took : Seal → Act = λ s. Took (Some c.args.from) c.args.taken.items Data Accepted (Some s) in
    record {
      acts = two_added c.args.out.now.acts c.add.new.self.acts _ (took c.filled.result) (HandedUp c.args.from key.tk key.id key.tid c.packet_number-number.result plain) _ _ c.add.ensures.acts c.add-2.ensures.acts
          (ap took (c.filled.ensures ∙ ap (λ (l : List ℕ). seal_over l key.tk) (covers header plain c.args.opened.covered.items _ number c.requires.covered (c.append.ensures.items ∙ ap (λ (l : List ℕ). c.args.opened.covered.items ++ l) c.deref.ensures.value))))
          (ap (λ (n : ℕ). HandedUp c.args.from key.tk key.id key.tid n plain) c.packet_number-number.ensures.value);
    }
