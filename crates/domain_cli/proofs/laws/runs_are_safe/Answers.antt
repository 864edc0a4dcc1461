use Rattle.domain_cli.proofs.Safety.{Laws, run_safely}
use Rattle.domain_cli.proofs.laws.runs_are_safe.Goals as goal

pub returns : goal.returns
returns c =
    let laws : Laws = record {
      joins = c.joins.ensures;
      installs = c.installs_once.ensures;
      uses = c.uses_once.ensures;
      sourced = c.hands_up_once.ensures.sourced;
      sent = c.hands_up_once.ensures.sent;
      ups = c.hands_up_once.ensures.once;
      onward = c.keys_never_go_back.ensures;
      follows = c.renews_safely.ensures.follows;
      former = c.renews_safely.ensures.former;
    } in
    run_safely laws
