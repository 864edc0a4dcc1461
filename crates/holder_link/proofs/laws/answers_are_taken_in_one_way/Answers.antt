use Rattle.holder_link.proofs.Outcomes.{learnt_once, one_fault, learnt_or_refused}
use Rattle.holder_link.proofs.laws.answers_are_taken_in_one_way.Goals as goal

pub returns-clause-learnt : goal.returns-clause-learnt
returns-clause-learnt c s octets n m a b few l k = learnt_once s octets few n m a b l k

pub returns-clause-refused : goal.returns-clause-refused
returns-clause-refused c s octets e f r t = one_fault s octets e f r t

pub returns-clause-apart : goal.returns-clause-apart
returns-clause-apart c s octets n a e l r = learnt_or_refused s octets n a e l r
