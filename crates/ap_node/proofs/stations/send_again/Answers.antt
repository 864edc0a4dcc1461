use Rattle.std.proofs.Common.{List, ◌++◌, refl, ap, ◌∙◌, inl}
use Rattle.domain_base.specs.declared.names.Node.TheVariants.{Sta}
use Rattle.run_journal.specs.declared.acts.Act.{Act}
use Rattle.authenticator.specs.Steps.{again_acts}
use Rattle.ap_node.proofs.stations.send_again.Goals as goal

pub returns-clause-resent : goal.returns-clause-resent
returns-clause-resent c =
    let acts = again_acts (Sta c.args.station) c.send_again-came.result c.send_again-came.new.reply in (
      acts,
      c.add_again.ensures.acts ∙ ap (λ (l : List Act). l ++ acts) c.reserve.ensures.acts,
      c.add_again.ensures.outcome,
      inl (record { came = c.send_again-came.result; reply = c.send_again-came.new.reply; says = refl; again_is = c.send_again-came.ensures.again }),
    )
