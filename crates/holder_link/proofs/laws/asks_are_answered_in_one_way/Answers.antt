use Rattle.holder_link.specs.Acts.{PulledFrom}
use Rattle.holder_link.proofs.Outcomes.{sent_once, one_ask_fault, told_or_refused}
use Rattle.holder_link.proofs.laws.asks_are_answered_in_one_way.Goals as goal

pub returns-clause-sent : goal.returns-clause-sent
returns-clause-sent c s octets ids others rows before a sent other t u = sent_once s octets (PulledFrom ids rows) (PulledFrom others before) a sent other t u

pub returns-clause-refused : goal.returns-clause-refused
returns-clause-refused c kck octets e f r t = one_ask_fault kck octets e f r t

pub returns-clause-apart : goal.returns-clause-apart
returns-clause-apart c s octets ids rows a sent e t r = told_or_refused s octets (PulledFrom ids rows) a sent e t r
