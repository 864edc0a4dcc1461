use Rattle.std.proofs.Common.{true, refl, ap, ◌∙◌, arith}
use Rattle.authenticator.specs.Associated.{Associated}
use Rattle.authenticator.specs.Judged.{begun}
use Rattle.authenticator.proofs.attempt.Attempt.renewing.Goals as goal

pub returns-clause-renewal : goal.returns-clause-renewal
returns-clause-renewal c = record {
  association = c.in-Some.association;
  has = c.in-Some.is;
  counter = c.saturating_add-counter.result;
  next = λ low. omega (arith, low, c.saturating_add-counter.ensures);
  value = c.begin.ensures.value ∙ ap (λ (a : Associated). begun a true c.saturating_add-counter.result c.args.anonce.now) c.copied-association.ensures;
  now = refl;
  sends = c.begin.ensures.sends;
  whole = record { own = c.begin.ensures.addresses.0; peer = c.begin.ensures.addresses.1 };
}
