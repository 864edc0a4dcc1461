use Rattle.std.proofs.Common.{ℕ, Bool, Option, Some, subst, ap, ◌∙◌}
use Rattle.eapol_key.specs.declared.messages.Message.TheVariants.{M1}
use Rattle.run_journal.specs.declared.acts.Outcome.TheVariants.{Accepted, Refused}
use Rattle.run_journal.specs.declared.acts.Reason.TheVariants as reason
use Rattle.supplicant.specs.contracts.supplicant.Supplicant.{the_view}
use Rattle.supplicant.specs.State.{State, having, both}
use Rattle.supplicant.specs.M3.{IsAbove, IsNotAbove}
use Rattle.supplicant.specs.Exchange.{Answers}
use Rattle.supplicant.specs.Taken.{IsTaken}
use Rattle.supplicant.proofs.TakenM1.{m1_low, m1_accepted}
use Rattle.supplicant.proofs.OwnKeys.{answered_key}
use Rattle.supplicant.proofs.KeysOf.{no_keys, derived_by}
use Rattle.supplicant.proofs.supplicant.Supplicant.take_m1_in.Goals as goal

pub invariant_of-self : goal.invariant_of-self
invariant_of-self c = record {
  tried = answered_key c.self.inside.ends c.self.inside.base c.args.frame.now c.is_some-secure.result c.args.attempt c.take_m1.result c.take_m1.new.reply c.take_m1.ensures.answers;
  held = c.self.invariant.held;
}

pub returns-in-Some-clause-taken : goal.returns-in-Some-clause-taken
returns-in-Some-clause-taken c = λ had.
    let s = the_view c.self.inside in
    let own = ap (λ (t : State). t.attempt) c.self.view_is ∙ c.requires.own in
    subst (λ (t : State). IsTaken M1 c.args.frame.now (both t had) (both t had) (Refused (reason.Counter c.in-Some.was)) c.args.reply.now) c.self.view_is
    (m1_low c.args.frame.now s had c.args.attempt c.in-Some.was c.args.reply.now c.requires.empty own
    (subst (λ (o : Option ℕ). IsNotAbove o c.args.frame.now.counter c.in-Some.was) c.counter_in-kept.ensures c.in-Some.ensures))

pub returns-clause-taken : goal.returns-clause-taken
returns-clause-taken c = λ had.
    let s = the_view c.self.inside in
    let own = ap (λ (t : State). t.attempt) c.self.view_is ∙ c.requires.own in
    subst (λ (t : State). IsTaken M1 c.args.frame.now (both t had) (both (having (Some c.take_m1.result) s.session s) had) Accepted c.take_m1.new.reply) c.self.view_is
    (m1_accepted c.args.frame.now s had c.args.attempt c.take_m1.result c.take_m1.new.reply own
    (subst (λ (o : Option ℕ). IsAbove o c.args.frame.now.counter) c.counter_in-kept.ensures c.in_default.ensures)
    (subst (λ (o : Bool). Answers s.ends s.base c.args.frame.now o c.args.attempt c.take_m1.result c.take_m1.new.reply) c.is_some-secure.ensures c.take_m1.ensures.answers)
    c.take_m1.ensures.whole)

pub returns-in-Some-clause-keys : goal.returns-in-Some-clause-keys
returns-in-Some-clause-keys c = no_keys M1 c.args.reply.now c.requires.empty.derived c.requires.empty.installed

pub returns-clause-keys : goal.returns-clause-keys
returns-clause-keys c = derived_by c.take_m1.new.reply c.take_m1.ensures.keys
