use Rattle.std.proofs.Common.{ℕ, List, refl, ap, ◌∙◌}
use Rattle.eapol_key.specs.KeyData.{padded}
use Rattle.group_key.specs.News.{carried_news}
use Rattle.authenticator.proofs.agreement.Agreement.send_m3.Goals as goal

pub returns-clause-sends : goal.returns-clause-sends
returns-clause-sends c =
    rw (← c.self.view_is) (λ d n p x ends key drawn plain. c.write_m3.ensures.writes d n p x (carried_news c.self.inside.news) ends key drawn refl (ap (λ (l : List ℕ). padded l) c.as_slice.ensures ∙ plain))
