use Rattle.std.proofs.Common.{◌≡◌, get_or, arith}
use Rattle.replay_window.specs.Numbers.{kept_for}
use Rattle.replay_window.proofs.receiving.RecvCounters.look.Goals as goal

pub returns-else-pn-kept-clause-fresh : goal.returns-else-pn-kept-clause-fresh
returns-else-pn-kept-clause-fresh c =
    let same : get_or c.self.inside.kept c.number.result 0 ≡ kept_for c.args.tid c.args.self.now = cc in
    omega arith

pub returns-then-pn-kept-clause-fresh : goal.returns-then-pn-kept-clause-fresh
returns-then-pn-kept-clause-fresh c =
    let same : get_or c.self.inside.kept c.number.result 0 ≡ kept_for c.args.tid c.args.self.now = cc in
    omega arith

pub returns-then-pn-kept-clause-kept : goal.returns-then-pn-kept-clause-kept
returns-then-pn-kept-clause-kept c = cc
