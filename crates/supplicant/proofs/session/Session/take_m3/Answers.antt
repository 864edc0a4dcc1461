use Rattle.std.proofs.Common.{arith}
use Rattle.std.proofs.Common.{Some, refl}
use Rattle.eapol_key.specs.Fields.{fields_of}
use Rattle.supplicant.specs.M3.{under}
use Rattle.supplicant.proofs.KeyDataRead.{agreed}
use Rattle.supplicant.proofs.Telling.{whole_silent, whole_empty}
use Rattle.std.proofs.lemmas.Grind.{common_steps}
use Rattle.supplicant.proofs.session.Session.take_m3.Goals as goal

pub returns-clause-repeats : goal.returns-clause-repeats
returns-clause-repeats c =
    let y = c.in-Connect.key in
    let was = c.in-Connect.counter in
    record {
      key = y;
      was = was;
      is_old = c.in-Connect.is;
      group = c.in_ok-judge_m3.field-0;
      verified = (agreed (under c.args.ends.now.mfp c.args.base.now y (Some was)) (fields_of c.args.frame.now) c.args.frame.now.octets.now c.in_ok-judge_m3.field-0 c.judge_m3.new.reply.verified c.in_ok-judge_m3.ensures.judged).1;
      is = refl;
      tells = c.answer_m3.ensures.tells;
    }

pub returns-clause-whole : goal.returns-clause-whole
returns-clause-whole c = c.answer_m3.ensures.whole

pub returns-in_err-judge_m3-clause-whole : goal.returns-in_err-judge_m3-clause-whole
returns-in_err-judge_m3-clause-whole c = whole_silent c.judge_m3.new.reply c.judge_m3.ensures.silent

pub returns-in_default-clause-whole : goal.returns-in_default-clause-whole
returns-in_default-clause-whole c = whole_empty c.args.reply.now c.requires.empty

pub answer_m3-requires-clause-verified : goal.answer_m3-requires-clause-verified
answer_m3-requires-clause-verified c = (agreed (under c.args.ends.now.mfp c.args.base.now c.in-Connect.key (Some c.in-Connect.counter)) (fields_of c.args.frame.now) c.args.frame.now.octets.now c.in_ok-judge_m3.field-0 c.judge_m3.new.reply.verified c.in_ok-judge_m3.ensures.judged).0

pub returns-in_default-clause-refused : goal.returns-in_default-clause-refused
returns-in_default-clause-refused c = grind (arith, common_steps)

pub returns-clause-keys : goal.returns-clause-keys
returns-clause-keys c = c.answer_m3.ensures.keys

pub returns-in_err-judge_m3-clause-keys : goal.returns-in_err-judge_m3-clause-keys
returns-in_err-judge_m3-clause-keys c = c.judge_m3.ensures.silent.derived

pub returns-in_default-clause-keys : goal.returns-in_default-clause-keys
returns-in_default-clause-keys c = c.requires.empty.derived
