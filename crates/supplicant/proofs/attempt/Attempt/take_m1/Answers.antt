use Rattle.std.proofs.Common.{refl}
use Rattle.supplicant.proofs.attempt.Attempt.take_m1.Goals as goal

pub returns-clause-answers : goal.returns-clause-answers
returns-clause-answers c = record {
  key = c.pairwise_key-key.result;
  key_is = c.pairwise_key-key.ensures;
  is = refl;
  tells = c.answer_m1.ensures.tells;
}

pub returns-clause-whole : goal.returns-clause-whole
returns-clause-whole c = c.answer_m1.ensures.whole

pub returns-clause-keys : goal.returns-clause-keys
returns-clause-keys c = c.answer_m1.ensures.keys
