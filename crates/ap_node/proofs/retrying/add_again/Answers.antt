use Rattle.std.proofs.Common.{◌≡◌, [], ◌∷◌, ◌++◌, ap, subst, sym, ◌∙◌}
use Rattle.domain_base.specs.declared.names.Node.TheVariants.{Sta}
use Rattle.run_journal.specs.declared.acts.Part.{Part}
use Rattle.run_journal.specs.declared.acts.Act.TheVariants.{GaveUp, Closed}
use Rattle.authenticator.specs.Steps.{again_acts}
use Rattle.authenticator.specs.declared.authenticator.Again.{Again}
use Rattle.ap_node.proofs.Added.{two_added}
use Rattle.ap_node.proofs.retrying.add_again.Goals as goal

pub returns-in-GaveUp-clause-acts : goal.returns-in-GaveUp-clause-acts
returns-in-GaveUp-clause-acts c =
    let p = Sta c.args.station in
    let waited = c.args.out.now.acts in
    subst (λ (x : Again). c.add-in-GaveUp.new.self.acts ≡ waited ++ again_acts p x c.args.reply.now) (sym c.in-GaveUp.is)
    (two_added _ _ _ _ _ c.add.ensures.acts c.add-in-GaveUp.ensures.acts ∙ ap (λ (q : Part). waited ++ GaveUp p c.in-GaveUp.message ∷ Closed p q ∷ []) c.part_of.ensures)

pub returns-in-Nothing-clause-acts : goal.returns-in-Nothing-clause-acts
returns-in-Nothing-clause-acts c = subst (λ (x : Again). c.stay_idle.new.out.acts ≡ c.args.out.now.acts ++ again_acts (Sta c.args.station) x c.args.reply.now) (sym c.in-Nothing.is) c.stay_idle.ensures.acts

pub returns-in-Sent-clause-acts : goal.returns-in-Sent-clause-acts
returns-in-Sent-clause-acts c = subst (λ (x : Again). c.add_sent.new.out.acts ≡ c.args.out.now.acts ++ again_acts (Sta c.args.station) x c.args.reply.now) (sym c.in-Sent.is) c.add_sent.ensures.acts
