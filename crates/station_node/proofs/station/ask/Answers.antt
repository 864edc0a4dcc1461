use Rattle.std.proofs.Common.{List, [], ◌∷◌, ◌++◌, ap, ◌∙◌}
use Rattle.domain_base.specs.declared.names.Node.TheVariants.{Ap}
use Rattle.run_journal.specs.declared.acts.Start.TheVariants.{Connect}
use Rattle.run_journal.specs.declared.acts.Drawn.TheVariants.{Nonce}
use Rattle.run_journal.specs.declared.acts.Act.{Act}
use Rattle.run_journal.specs.declared.acts.Act.TheVariants.{Opened, Drew}
use Rattle.domain_rules.specs.Closing.{close_associated, close_pending}
use Rattle.domain_rules.specs.Frames.{sent_assoc_req}
use Rattle.station_node.specs.Parts.{peer_of_session, peer_pending}
use Rattle.station_node.proofs.station.ask.Goals as goal

pub returns-clause-acts : goal.returns-clause-acts
returns-clause-acts c =
    let closed = c.close.ensures.acts ∙ ap (λ (l : List Act). (l ++ close_pending (peer_pending c.args.attempt.now c.args.session.now)) ++ close_associated (peer_of_session c.args.session.now)) c.in_ok-reserve.ensures.acts in
    let drew = c.connect.ensures.acts ∙ ap (λ (l : List Act). (l ++ Opened (Ap c.args.ap) Connect ∷ []) ++ Drew (Nonce c.args.snonce) ∷ []) closed in
    c.add.ensures.acts ∙ ap (λ (a : Act). c.connect.new.out.acts ++ a ∷ []) c.in_ok-request.ensures
    ∙ ap (λ (l : List Act). l ++ sent_assoc_req c.args.here.domain.now c.args.here.node (Ap c.args.ap) ∷ []) drew
