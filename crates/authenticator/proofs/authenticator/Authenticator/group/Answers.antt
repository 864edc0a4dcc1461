use Rattle.std.proofs.Common.{Some, ap, subst, ◌∙◌}
use Rattle.group_key.specs.declared.news.News.{News}
use Rattle.authenticator.specs.Kinds.{kinds}
use Rattle.authenticator.specs.State.{State}
use Rattle.authenticator.specs.Taken.{GivesFrom}
use Rattle.authenticator.proofs.Asking.{gives_asked}
use Rattle.authenticator.proofs.KindsOf.{kinds_in}
use Rattle.authenticator.proofs.authenticator.Authenticator.group.Goals as goal

pub returns-clause-gives : goal.returns-clause-gives
returns-clause-gives c =
    let s : State = record { ends = c.self.inside.ends; attempt = c.self.inside.attempt; session = c.self.inside.session } in
    rw (← c.self.view_is)
    (subst (λ (n : News). GivesFrom s (record s { session = Some c.send_g1.new.self }) n c.send_g1.new.reply) c.of-news.ensures
    (gives_asked s c.in-Some.session c.send_g1.new.self c.of-news.result c.send_g1.new.reply c.in-Some.is c.send_g1.ensures.sends c.send_g1.ensures.asks))

-- beside whatever attempt there is
pub returns-clause-beside : goal.returns-clause-beside
returns-clause-beside c o =
    let s : State = record { ends = c.self.inside.ends; attempt = o; session = c.self.inside.session } in
    rw (← c.self.view_is)
    (subst (λ (n : News). GivesFrom s (record s { session = Some c.send_g1.new.self }) n c.send_g1.new.reply) c.of-news.ensures
    (gives_asked s c.in-Some.session c.send_g1.new.self c.of-news.result c.send_g1.new.reply c.in-Some.is c.send_g1.ensures.sends c.send_g1.ensures.asks))

pub returns-clause-kinds : goal.returns-clause-kinds
returns-clause-kinds c =
    let s : State = record { ends = c.self.inside.ends; attempt = c.self.inside.attempt; session = c.self.inside.session } in
    kinds_in s c.in-Some.session c.send_g1.new.self c.in-Some.is c.send_g1.ensures.association ∙ ap kinds c.self.view_is
