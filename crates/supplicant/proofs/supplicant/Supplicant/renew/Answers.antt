use Rattle.std.proofs.Common.{ℕ, true, List, Option, Some, sym, subst, ap, ◌∙◌}
use Rattle.std.specs.Option.{option_copied}
use Rattle.run_journal.specs.declared.acts.Outcome.TheVariants.{Accepted, Refused}
use Rattle.run_journal.specs.declared.acts.Reason.TheVariants as reason
use Rattle.supplicant.specs.contracts.supplicant.Supplicant.{the_view}
use Rattle.supplicant.specs.State.{State, having}
use Rattle.supplicant.specs.M3.{IsAbove, IsNotAbove}
use Rattle.supplicant.specs.Taken.{may_renew, IsOpening}
use Rattle.supplicant.proofs.Opening.{ready_by, opening_low, opening_spent, opening_accepted}
use Rattle.supplicant.specs.declared.attempt.Attempt.{Attempt}
use Rattle.supplicant.specs.Exchange.{Answers}
use Rattle.supplicant.proofs.Telling.{empty_by}
use Rattle.supplicant.proofs.supplicant.Supplicant.renew.Goals as goal

pub returns-in-Some-clause-opening : goal.returns-in-Some-clause-opening
returns-in-Some-clause-opening c =
    let s = the_view c.self.inside in
    let e = c.empty.ensures in
    let was = c.in-Some.was in
    subst (λ (t : State). IsOpening c.args.frame.now (option_copied c.args.snonce) t t (Refused (reason.Counter was)) c.empty.result) c.self.view_is
    (opening_low c.args.frame.now (option_copied c.args.snonce) s was c.empty.result (ready_by s (ap may_renew c.self.view_is ∙ c.requires.ready)) (empty_by c.empty.result e.len e.sealed e.verified e.derived e.installed e.gtk e.igtk e.looked)
    (subst (λ (o : Option ℕ). IsNotAbove o c.args.frame.now.counter was) c.counter_in.ensures c.in-Some.ensures))

pub returns-in-None-clause-opening : goal.returns-in-None-clause-opening
returns-in-None-clause-opening c =
    let s = the_view c.self.inside in
    let e = c.empty.ensures in
    subst (λ (t : State). IsOpening c.args.frame.now (option_copied c.args.snonce) t t (Refused reason.Spent) c.empty.result) c.self.view_is
    (subst (λ (v : Option (List ℕ)). IsOpening c.args.frame.now v s s (Refused reason.Spent) c.empty.result) (sym (ap option_copied c.in-None.is))
    (opening_spent c.args.frame.now s c.empty.result (ready_by s (ap may_renew c.self.view_is ∙ c.requires.ready)) (empty_by c.empty.result e.len e.sealed e.verified e.derived e.installed e.gtk e.igtk e.looked)
    (subst (λ (o : Option ℕ). IsAbove o c.args.frame.now.counter) c.counter_in.ensures c.in_default.ensures)))

pub returns-in-Some-snonce-clause-opening : goal.returns-in-Some-snonce-clause-opening
returns-in-Some-snonce-clause-opening c =
    let s = the_view c.self.inside in
    let v = c.in-Some-snonce.snonce.now in
    let new = having (Some c.take_m1-begun.result) s.session s in
    subst (λ (t : State). IsOpening c.args.frame.now (option_copied c.args.snonce) t new Accepted c.take_m1-begun.new.reply) c.self.view_is
    (subst (λ (o : Option (List ℕ)). IsOpening c.args.frame.now o s new Accepted c.take_m1-begun.new.reply) (sym (ap option_copied c.in-Some-snonce.is))
    (opening_accepted c.args.frame.now v s c.take_m1-begun.result c.take_m1-begun.new.reply (ready_by s (ap may_renew c.self.view_is ∙ c.requires.ready))
    (subst (λ (o : Option ℕ). IsAbove o c.args.frame.now.counter) c.counter_in.ensures c.in_default.ensures)
    (subst (λ (a : Attempt). Answers s.ends s.base c.args.frame.now true a c.take_m1-begun.result c.take_m1-begun.new.reply) c.begin-attempt.ensures c.take_m1-begun.ensures.answers)
    c.take_m1-begun.ensures.whole c.take_m1-begun.ensures.keys))
