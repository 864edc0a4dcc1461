use Rattle.std.proofs.Common.{List, ◌++◌, ap, ◌∙◌}
use Rattle.run_journal.specs.declared.acts.Act.{Act}
use Rattle.domain_rules.specs.Closing.{close_associated}
use Rattle.station_node.specs.Parts.{peer_of_session}
use Rattle.station_node.proofs.station.close.Goals as goal

pub returns-clause-acts : goal.returns-clause-acts
returns-clause-acts c =
    c.leave.ensures.acts ∙ ap (λ (l : List Act). l ++ close_associated (peer_of_session c.args.session.now)) c.close_attempt.ensures.acts
