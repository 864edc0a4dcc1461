use Rattle.std.proofs.Common.{sym, subst}
use Rattle.eapol_key.specs.declared.messages.Message.{Message}
use Rattle.supplicant.specs.State.{both}
use Rattle.supplicant.specs.Taken.{IsTaken}
use Rattle.supplicant.proofs.TakenM1.{taken_other}
use Rattle.group_key.specs.Replied.{HasKeysOf}
use Rattle.supplicant.proofs.KeysOf.{no_keys}
use Rattle.supplicant.proofs.supplicant.Supplicant.step.Goals as goal

pub returns-in-M1-clause-taken : goal.returns-in-M1-clause-taken
returns-in-M1-clause-taken c =
    subst (λ (m : Message). IsTaken m c.args.frame.now (both c.args.self.now c.args.memory.now) (both c.take_m1.new.self c.args.memory.now) c.take_m1.result c.take_m1.new.reply) (sym c.in-M1.is)
    (c.take_m1.ensures.taken c.args.memory.now)

pub returns-in-M3-clause-taken : goal.returns-in-M3-clause-taken
returns-in-M3-clause-taken c =
    subst (λ (m : Message). IsTaken m c.args.frame.now (both c.args.self.now c.args.memory.now) (both c.take_m3.new.self c.take_m3.new.memory) c.take_m3.result c.take_m3.new.reply) (sym c.in-M3.is)
    c.take_m3.ensures.taken

pub returns-in-G1-clause-taken : goal.returns-in-G1-clause-taken
returns-in-G1-clause-taken c =
    subst (λ (m : Message). IsTaken m c.args.frame.now (both c.args.self.now c.args.memory.now) (both c.take_g1.new.self c.take_g1.new.memory) c.take_g1.result c.take_g1.new.reply) (sym c.in-G1.is)
    c.take_g1.ensures.taken

pub returns-in_default-clause-taken : goal.returns-in_default-clause-taken
returns-in_default-clause-taken c = taken_other c.args.message c.args.frame.now c.args.self.now c.args.memory.now c.empty.result c.empty.ensures c.in_default.not-M1 c.in_default.not-M3 c.in_default.not-G1

pub returns-in-M1-clause-keys : goal.returns-in-M1-clause-keys
returns-in-M1-clause-keys c = subst (λ (m : Message). HasKeysOf m c.take_m1.new.reply) (sym c.in-M1.is) c.take_m1.ensures.keys

pub returns-in-M3-clause-keys : goal.returns-in-M3-clause-keys
returns-in-M3-clause-keys c = subst (λ (m : Message). HasKeysOf m c.take_m3.new.reply) (sym c.in-M3.is) c.take_m3.ensures.keys

pub returns-in-G1-clause-keys : goal.returns-in-G1-clause-keys
returns-in-G1-clause-keys c = subst (λ (m : Message). HasKeysOf m c.take_g1.new.reply) (sym c.in-G1.is) c.take_g1.ensures.keys

pub returns-in_default-clause-keys : goal.returns-in_default-clause-keys
returns-in_default-clause-keys c = no_keys c.args.message c.empty.result c.empty.ensures.derived c.empty.ensures.installed
