use Rattle.std.proofs.Common.{List, [], ◌∷◌, ◌++◌, ap, ◌∙◌}
use Rattle.domain_base.specs.declared.names.Node.TheVariants.{Ap, Sta}
use Rattle.run_journal.specs.declared.acts.Act.{Act}
use Rattle.run_journal.specs.declared.acts.Act.TheVariants.{Opened, Drew}
use Rattle.run_journal.specs.declared.acts.Drawn.TheVariants.{Nonce}
use Rattle.run_journal.specs.declared.acts.Start.TheVariants.{Roam}
use Rattle.ft_exchange.specs.Told.{transition_sent}
use Rattle.station_node.proofs.roaming.Transition.begin.Goals as goal

pub returns : goal.returns
returns c =
    let d = c.args.domain.now in
    let t = c.args.self.now in
    let n = Sta t.sta in
    let p = Ap t.ap in
    let reply = c.roam-originator.new.reply in (
      reply,
      c.roam-originator.ensures,
      c.add_sent.ensures.acts d n p c.requires.room ∙ ap (λ (l : List Act). l ++ transition_sent d n p reply)
          (c.roam.ensures.acts ∙ ap (λ (l : List Act). l ++ Opened p Roam ∷ Drew (Nonce t.snonce.now) ∷ []) c.leave.ensures.acts),
    )
