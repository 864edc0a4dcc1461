use Rattle.std.proofs.Common.{rules}
use Rattle.ft_exchange.proofs.Unwrapping.{opened_plain, opened_bad}
use Rattle.ft_exchange.proofs.group.open_wrapped.Goals as goal

pub returns-in-Err : goal.returns-in-Err
returns-in-Err c = search (rules, opened_plain, opened_bad)

pub returns-in-Ok : goal.returns-in-Ok
returns-in-Ok c = search (rules, opened_plain, opened_bad)
