use Rattle.holder_link.proofs.Deliveries.{is_delivered}
use Rattle.holder_link.proofs.laws.answers_can_be_learnt.Goals as goal

pub returns : goal.returns
returns c kck kek nonce q row few len is m = is_delivered kck kek nonce q row few len is m
