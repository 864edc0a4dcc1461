use Rattle.std.proofs.Common.{Some, sym, subst}
use Rattle.eapol_key.specs.declared.messages.Message.TheVariants.{G1}
use Rattle.run_journal.specs.declared.acts.Outcome.TheVariants.{Accepted, Refused}
use Rattle.run_journal.specs.declared.acts.Reason.TheVariants as reason
use Rattle.supplicant.specs.contracts.supplicant.Supplicant.{the_view}
use Rattle.supplicant.specs.State.{State, having, both}
use Rattle.supplicant.specs.Taken.{IsTaken}
use Rattle.supplicant.proofs.TakenG1.{g1_unawaited, g1_refusal, g1_renewed}
use Rattle.supplicant.proofs.OwnKeys.{renewed_key}
use Rattle.supplicant.proofs.KeysOf.{no_keys}
use Rattle.supplicant.proofs.supplicant.Supplicant.take_g1.Goals as goal

pub invariant_of-self : goal.invariant_of-self
invariant_of-self c = record {
  tried = c.self.invariant.tried;
  held = renewed_key c.self.inside.ends c.self.inside.base c.args.frame.now c.args.memory.now c.take_g1.new.memory c.self.inside.session c.in-Some.session c.in-Ok.session c.take_g1.new.reply c.in-Some.is c.self.invariant.held c.in-Ok.ensures.renews;
}

pub returns-in_default-clause-taken : goal.returns-in_default-clause-taken
returns-in_default-clause-taken c =
    let s = the_view c.self.inside in
    subst (λ (t : State). IsTaken G1 c.args.frame.now (both t c.args.memory.now) (both t c.args.memory.now) (Refused reason.Unawaited) c.args.reply.now) c.self.view_is
    (g1_unawaited c.args.frame.now s c.args.memory.now c.args.reply.now c.requires.empty c.in_default.is)

pub returns-in-Ok-clause-taken : goal.returns-in-Ok-clause-taken
returns-in-Ok-clause-taken c =
    let s = the_view c.self.inside in
    subst (λ (t : State). IsTaken G1 c.args.frame.now (both t c.args.memory.now) (both (having s.attempt (Some c.in-Ok.session) s) c.take_g1.new.memory) Accepted c.take_g1.new.reply) c.self.view_is
    (g1_renewed c.args.frame.now s c.in-Some.session c.in-Ok.session c.args.memory.now c.take_g1.new.memory c.take_g1.new.reply c.in-Some.is c.in-Ok.ensures.renews c.take_g1.ensures.whole)

pub returns-in-Err-clause-taken : goal.returns-in-Err-clause-taken
returns-in-Err-clause-taken c =
    let s = the_view c.self.inside in
    subst (λ (t : State). IsTaken G1 c.args.frame.now (both t c.args.memory.now) (both s c.take_g1.new.memory) (Refused c.in-Err.why) c.take_g1.new.reply) c.self.view_is
    (subst (λ (ks : _). IsTaken G1 c.args.frame.now (both s c.args.memory.now) (both s ks) (Refused c.in-Err.why) c.take_g1.new.reply) (sym c.in-Err.ensures.kept)
    (g1_refusal c.args.frame.now s c.args.memory.now c.in-Some.session c.in-Err.why c.take_g1.new.reply c.in-Some.is c.in-Err.ensures.refused))

pub returns-in_default-clause-keys : goal.returns-in_default-clause-keys
returns-in_default-clause-keys c = no_keys G1 c.args.reply.now c.requires.empty.derived c.requires.empty.installed

pub returns-in-Ok-clause-keys : goal.returns-in-Ok-clause-keys
returns-in-Ok-clause-keys c = no_keys G1 c.take_g1.new.reply c.take_g1.ensures.keys.0 c.take_g1.ensures.keys.1

pub returns-in-Err-clause-keys : goal.returns-in-Err-clause-keys
returns-in-Err-clause-keys c = no_keys G1 c.take_g1.new.reply c.take_g1.ensures.keys.0 c.take_g1.ensures.keys.1
