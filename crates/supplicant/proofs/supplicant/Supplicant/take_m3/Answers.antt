use Rattle.std.proofs.Common.{ℕ, Option, Some, None, sym, subst, ap, ◌∙◌}
use Rattle.eapol_key.specs.declared.messages.Message.TheVariants.{M3}
use Rattle.run_journal.specs.declared.acts.Outcome.TheVariants.{Accepted, Refused}
use Rattle.supplicant.specs.contracts.supplicant.Supplicant.{the_view}
use Rattle.supplicant.specs.State.{State, having, both}
use Rattle.supplicant.specs.Taken.{IsTaken}
use Rattle.supplicant.specs.Exchange.{tried_by, Finishes, IsRefusal}
use Rattle.supplicant.proofs.TakenM3.{tried_is, m3_attempt_refusal, m3_finished}
use Rattle.supplicant.proofs.OwnKeys.{finished_key}
use Rattle.supplicant.proofs.KeysOf.{installed_by}
use Rattle.supplicant.proofs.supplicant.Supplicant.take_m3.Goals as goal

pub invariant_of-self : goal.invariant_of-self
invariant_of-self c =
    let is = sym c.tried_by.ensures ∙ c.in-Some.is in
    record {
      tried = tt;
      held = finished_key c.self.inside.ends c.self.inside.base c.self.inside.attempt c.in-Some.attempt c.in-Ok.session (tried_is c.args.frame.now.nonce c.self.inside.attempt c.self.inside.session c.in-Some.attempt is) c.in-Ok.ensures.key c.self.invariant.tried;
    }

pub returns-in_default-clause-taken : goal.returns-in_default-clause-taken
returns-in_default-clause-taken c = c.take_m3_again.ensures.taken c.args.memory.now

pub returns-in-Ok-clause-taken : goal.returns-in-Ok-clause-taken
returns-in-Ok-clause-taken c =
    let s = the_view c.self.inside in
    let is = sym c.tried_by.ensures ∙ c.in-Some.is in
    subst (λ (t : State). IsTaken M3 c.args.frame.now (both t c.args.memory.now) (both (having None (Some c.in-Ok.session) s) c.take_m3.new.memory) Accepted c.take_m3.new.reply) c.self.view_is
    (m3_finished c.args.frame.now s c.in-Some.attempt c.args.memory.now c.take_m3.new.memory c.in-Ok.session c.take_m3.new.reply is c.in-Ok.ensures.key
    (subst (λ (o : Option ℕ). Finishes s.ends s.base c.args.frame.now o c.args.memory.now c.take_m3.new.memory c.in-Ok.session c.take_m3.new.reply) c.counter_in-kept.ensures c.in-Ok.ensures.finishes) c.take_m3.ensures.whole)

pub returns-in-Err-clause-taken : goal.returns-in-Err-clause-taken
returns-in-Err-clause-taken c =
    let s = the_view c.self.inside in
    let is = sym c.tried_by.ensures ∙ c.in-Some.is in
    subst (λ (t : State). IsTaken M3 c.args.frame.now (both t c.args.memory.now) (both t c.take_m3.new.memory) (Refused c.in-Err.why) c.take_m3.new.reply) c.self.view_is
    (subst (λ (ks : _). IsTaken M3 c.args.frame.now (both s c.args.memory.now) (both s ks) (Refused c.in-Err.why) c.take_m3.new.reply) (sym c.in-Err.ensures.kept)
    (m3_attempt_refusal c.args.frame.now s c.args.memory.now c.in-Some.attempt c.in-Err.why c.take_m3.new.reply is
    (subst (λ (o : Option ℕ). IsRefusal s.ends s.base c.in-Some.attempt.key o c.args.frame.now c.in-Err.why c.take_m3.new.reply) c.counter_in-kept.ensures c.in-Err.ensures.refused)))

pub take_m3_again-requires-clause-alone : goal.take_m3_again-requires-clause-alone
take_m3_again-requires-clause-alone c = ap (λ (t : State). tried_by c.args.frame.now.nonce t.attempt t.session) (sym c.self.view_is) ∙ sym c.tried_by.ensures ∙ c.in_default.is

pub returns-in_default-clause-keys : goal.returns-in_default-clause-keys
returns-in_default-clause-keys c = c.take_m3_again.ensures.keys

pub returns-in-Ok-clause-keys : goal.returns-in-Ok-clause-keys
returns-in-Ok-clause-keys c = installed_by c.take_m3.new.reply c.take_m3.ensures.keys

pub returns-in-Err-clause-keys : goal.returns-in-Err-clause-keys
returns-in-Err-clause-keys c = installed_by c.take_m3.new.reply c.take_m3.ensures.keys
