use Rattle.std.proofs.Common.{◌≡◌, ℕ, suc, Bool, [], ◌∷◌, ap, ◌∙◌, refl, arith}
use Rattle.domain_rules.specs.Frames.{sent_g1}
use Rattle.group_key.specs.News.{carried_news}
use Rattle.authenticator.specs.Counters.{added}
use Rattle.authenticator.specs.Groups.{offers_for, is_answered_for, asked}
use Rattle.authenticator.specs.declared.counters.Offers.{Offers}
use Rattle.authenticator.specs.declared.session.Session.{Session}
use Rattle.authenticator.proofs.session.Session.send_g1.Goals as goal

same_session : (s : Session) (place last : ℕ) (sent g1s : Offers) (answered : Bool) → last ≡ suc s.last → sent ≡ offers_for place s → g1s ≡ added last sent → answered ≡ is_answered_for place s
    → record { ptk = s.ptk; association = s.association; last = last; place = place; g1s = g1s; is_answered = answered } ≡ asked place s
same_session s place last sent g1s answered last_is sent_is g1s_is answered_is = rw (g1s_is, sent_is, last_is, answered_is) refl

pub returns-clause-sends : goal.returns-clause-sends
returns-clause-sends c low = λ d n p x ends key.
    (let last : c.saturating_add-counter.result ≡ suc c.args.self.now.last = omega (arith, low, c.saturating_add-counter.ensures) in
    c.write_g1.ensures.writes d n p x ends key ∙ ap (λ (z : ℕ). sent_g1 d n p x z (carried_news c.args.news.now) ∷ []) last)

pub returns-clause-asks : goal.returns-clause-asks
returns-clause-asks c low few =
    let s = c.args.self.now in
    let g = c.args.news.now.gtk in
    let last : c.saturating_add-counter.result ≡ suc s.last = omega (arith, low, c.saturating_add-counter.ensures) in
    record {
      low = low;
      sends = returns-clause-sends c low;
      own = c.write_g1.ensures.whole.0;
      peer = c.write_g1.ensures.whole.1;
      now = same_session s g.place c.saturating_add-counter.result c.offers_for-sent.result c.with-self.result c.is_answered_for-is_answered.result last c.offers_for-sent.ensures c.with-self.ensures c.is_answered_for-is_answered.ensures;
    }
