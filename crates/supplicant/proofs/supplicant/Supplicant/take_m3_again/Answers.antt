use Rattle.std.proofs.Common.{Some, subst, ◌∙◌, ap}
use Rattle.eapol_key.specs.declared.messages.Message.TheVariants.{M3}
use Rattle.run_journal.specs.declared.acts.Outcome.TheVariants.{Answered, Refused}
use Rattle.run_journal.specs.declared.acts.Reason.TheVariants as reason
use Rattle.supplicant.specs.contracts.supplicant.Supplicant.{the_view}
use Rattle.supplicant.specs.State.{State, having, both}
use Rattle.supplicant.specs.Taken.{IsTaken}
use Rattle.supplicant.specs.Exchange.{tried_by}
use Rattle.supplicant.proofs.TakenM3.{m3_nowhere, m3_again_refusal, m3_answered}
use Rattle.supplicant.proofs.OwnKeys.{repeated_key}
use Rattle.supplicant.proofs.KeysOf.{no_keys, installed_by}
use Rattle.supplicant.proofs.supplicant.Supplicant.take_m3_again.Goals as goal

pub invariant_of-self : goal.invariant_of-self
invariant_of-self c = record {
  tried = c.self.invariant.tried;
  held = repeated_key c.self.inside.ends c.self.inside.base c.args.frame.now c.self.inside.session c.in-Some.session c.in-Ok.session c.take_m3.new.reply c.in-Some.is c.self.invariant.held c.in-Ok.ensures.repeats;
}

pub returns-in_default-clause-taken : goal.returns-in_default-clause-taken
returns-in_default-clause-taken c = λ had.
    let s = the_view c.self.inside in
    let alone = ap (λ (t : State). tried_by c.args.frame.now.nonce t.attempt t.session) c.self.view_is ∙ c.requires.alone in
    subst (λ (t : State). IsTaken M3 c.args.frame.now (both t had) (both t had) (Refused reason.Unawaited) c.args.reply.now) c.self.view_is
    (m3_nowhere c.args.frame.now s had c.args.reply.now c.requires.empty alone c.in_default.is)

pub returns-in-Ok-clause-taken : goal.returns-in-Ok-clause-taken
returns-in-Ok-clause-taken c = λ had.
    let s = the_view c.self.inside in
    let alone = ap (λ (t : State). tried_by c.args.frame.now.nonce t.attempt t.session) c.self.view_is ∙ c.requires.alone in
    subst (λ (t : State). IsTaken M3 c.args.frame.now (both t had) (both (having s.attempt (Some c.in-Ok.session) s) had) Answered c.take_m3.new.reply) c.self.view_is
    (m3_answered c.args.frame.now s c.in-Some.session c.in-Ok.session had c.take_m3.new.reply alone c.in-Some.is c.in-Ok.ensures.repeats c.take_m3.ensures.whole)

pub returns-in-Err-clause-taken : goal.returns-in-Err-clause-taken
returns-in-Err-clause-taken c = λ had.
    let s = the_view c.self.inside in
    let alone = ap (λ (t : State). tried_by c.args.frame.now.nonce t.attempt t.session) c.self.view_is ∙ c.requires.alone in
    subst (λ (t : State). IsTaken M3 c.args.frame.now (both t had) (both t had) (Refused c.in-Err.why) c.take_m3.new.reply) c.self.view_is
    (m3_again_refusal c.args.frame.now s had c.in-Some.session c.in-Err.why c.take_m3.new.reply alone c.in-Some.is c.in-Err.ensures.refused)

pub returns-in_default-clause-keys : goal.returns-in_default-clause-keys
returns-in_default-clause-keys c = no_keys M3 c.args.reply.now c.requires.empty.derived c.requires.empty.installed

pub returns-in-Ok-clause-keys : goal.returns-in-Ok-clause-keys
returns-in-Ok-clause-keys c = installed_by c.take_m3.new.reply c.take_m3.ensures.keys

pub returns-in-Err-clause-keys : goal.returns-in-Err-clause-keys
returns-in-Err-clause-keys c = installed_by c.take_m3.new.reply c.take_m3.ensures.keys
