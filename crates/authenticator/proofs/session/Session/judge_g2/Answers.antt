use Rattle.std.proofs.Common.{◌∙◌, sym, ap, false}
use Rattle.std.specs.Prelude.{unwrap_or}
use Rattle.eapol_key.specs.Fields.{fields_of}
use Rattle.domain_rules.specs.Asking.{greatest}
use Rattle.authenticator.specs.Counters.{listed}
use Rattle.authenticator.specs.Judged.{frame_of}
use Rattle.authenticator.specs.declared.counters.Offers.{Offers}
use Rattle.authenticator.proofs.Deciding.{offered_as, offers_g2, forged_g2, verified_g2}
use Rattle.authenticator.proofs.session.Session.judge_g2.Goals as goal

pub returns-then-not-owes : goal.returns-then-not-owes
returns-then-not-owes c = sym c.owes.ensures ∙ c.if-not-owes.true

pub returns-then-not-is_offered : goal.returns-then-not-is_offered
returns-then-not-is_offered c = record {
  owed = sym c.owes.ensures ∙ c.if-not-owes.false;
  offer = offered_as c.args.newest.now.place c.args.self.now (fields_of c.args.frame.now) c.offers_for-offers.result c.is_offered.result false c.offers_for-offers.ensures c.is_offered.ensures c.if-not-is_offered.true;
  is = c.greatest.ensures ∙ ap (λ (o : Offers). unwrap_or (greatest (listed o)) 0) c.offers_for-offers.ensures;
}

pub returns-then-not-verify : goal.returns-then-not-verify
returns-then-not-verify c =
    forged_g2 c.args.akm c.args.newest.now.place c.args.self.now (frame_of c.args.frame.now) c.verify.result
    (offers_g2 c.args.newest.now.place c.args.self.now (fields_of c.args.frame.now) c.offers_for-offers.result c.owes.result c.is_offered.result c.owes.ensures c.if-not-owes.false c.offers_for-offers.ensures c.is_offered.ensures c.if-not-is_offered.false)
    c.verify.ensures c.if-not-verify.true

pub returns : goal.returns
returns c =
    verified_g2 c.args.akm c.args.newest.now.place c.args.self.now (frame_of c.args.frame.now) c.verify.result
    (offers_g2 c.args.newest.now.place c.args.self.now (fields_of c.args.frame.now) c.offers_for-offers.result c.owes.result c.is_offered.result c.owes.ensures c.if-not-owes.false c.offers_for-offers.ensures c.is_offered.ensures c.if-not-is_offered.false)
    c.verify.ensures c.if-not-verify.false
