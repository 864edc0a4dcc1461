use Rattle.std.proofs.Common.{refl, subst}
use Rattle.group_key.specs.declared.news.News.{News}
use Rattle.authenticator.specs.Taken.{RetriesFrom}
use Rattle.authenticator.specs.declared.authenticator.Again.{Again}
use Rattle.authenticator.specs.declared.authenticator.Again.TheVariants as again
use Rattle.authenticator.proofs.authenticator.Authenticator.retry.Goals as goal

pub returns-in-Sent-clause-retries : goal.returns-in-Sent-clause-retries
returns-in-Sent-clause-retries c =
    let old = c.args.self.now in
    let new = c.send_again.new.self in
    let r = c.send_again.new.reply in
    (again.Sent, refl, subst (λ (n : News). RetriesFrom old new n again.Sent r) c.of-news.ensures (subst (λ (came : Again). RetriesFrom old new c.of-news.result came r) c.in-Sent.is c.send_again.ensures.retries))

pub returns-in-GaveUp-clause-retries : goal.returns-in-GaveUp-clause-retries
returns-in-GaveUp-clause-retries c =
    let old = c.args.self.now in
    let new = c.send_again.new.self in
    let r = c.send_again.new.reply in
    let came = again.GaveUp c.in-GaveUp.message in
    (came, (refl, refl), subst (λ (n : News). RetriesFrom old new n came r) c.of-news.ensures (subst (λ (x : Again). RetriesFrom old new c.of-news.result x r) c.in-GaveUp.is c.send_again.ensures.retries))

pub returns-in-Nothing-clause-retries : goal.returns-in-Nothing-clause-retries
returns-in-Nothing-clause-retries c =
    let old = c.args.self.now in
    let new = c.send_again.new.self in
    let r = c.send_again.new.reply in
    (again.Nothing, refl, subst (λ (n : News). RetriesFrom old new n again.Nothing r) c.of-news.ensures (subst (λ (came : Again). RetriesFrom old new c.of-news.result came r) c.in-Nothing.is c.send_again.ensures.retries))
