use Rattle.std.proofs.Common.{arith, subst}
use Rattle.eapol_key.specs.declared.messages.Message.TheVariants.{M1}
use Rattle.run_journal.specs.declared.acts.Outcome.TheVariants.{Refused}
use Rattle.run_journal.specs.declared.acts.Reason.TheVariants as reason
use Rattle.supplicant.specs.contracts.supplicant.Supplicant.{the_view}
use Rattle.supplicant.specs.State.{State, both}
use Rattle.supplicant.specs.Taken.{IsTaken}
use Rattle.supplicant.proofs.TakenM1.{m1_unawaited}
use Rattle.supplicant.proofs.KeysOf.{no_keys}
use Rattle.std.proofs.lemmas.Grind.{common_steps}
use Rattle.supplicant.proofs.supplicant.Supplicant.take_m1.Goals as goal

pub returns-in_default-clause-taken : goal.returns-in_default-clause-taken
returns-in_default-clause-taken c = λ had.
    subst (λ (t : State). IsTaken M1 c.args.frame.now (both t had) (both t had) (Refused reason.Unawaited) c.args.reply.now) c.self.view_is
    (m1_unawaited c.args.frame.now (the_view c.self.inside) had c.args.reply.now c.requires.empty c.in_default.is)

pub returns-clause-taken : goal.returns-clause-taken
returns-clause-taken c = c.take_m1_in.ensures.taken

pub take_m1_in-requires-clause-own : goal.take_m1_in-requires-clause-own
take_m1_in-requires-clause-own c = grind (arith, common_steps)

pub returns-in_default-clause-keys : goal.returns-in_default-clause-keys
returns-in_default-clause-keys c = no_keys M1 c.args.reply.now c.requires.empty.derived c.requires.empty.installed

pub returns-clause-keys : goal.returns-clause-keys
returns-clause-keys c = c.take_m1_in.ensures.keys
