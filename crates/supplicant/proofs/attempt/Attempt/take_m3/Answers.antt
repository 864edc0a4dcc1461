use Rattle.std.proofs.Common.{arith}
use Rattle.std.proofs.Common.{ℕ, ◌∷◌, [], refl, ap, subst, ◌∙◌}
use Rattle.domain_rules.specs.Frames.{sent_m4}
use Rattle.supplicant.specs.declared.answers.Came.{Came}
use Rattle.supplicant.specs.KeyData.{came, all_given}
use Rattle.eapol_key.specs.Fields.{fields_of}
use Rattle.supplicant.specs.M3.{under}
use Rattle.supplicant.specs.Told.{Tells, installs}
use Rattle.supplicant.proofs.KeyDataRead.{agreed}
use Rattle.supplicant.proofs.Telling.{whole_silent, whole_empty}
use Rattle.std.proofs.lemmas.Grind.{common_steps}
use Rattle.supplicant.proofs.attempt.Attempt.take_m3.Goals as goal

pub returns-clause-finishes : goal.returns-clause-finishes
returns-clause-finishes c =
    let y = c.in-Some.key in
    let group = c.in_ok-group.group in
    record {
      key = y;
      is = refl;
      group = group;
      verified = (agreed (under c.args.ends.now.mfp c.args.base.now y c.args.kept) (fields_of c.args.frame.now) c.args.frame.now.octets.now group c.judge_m3.new.reply.verified c.in_ok-group.ensures.judged).1;
      memory = c.give_all-keys.ensures.memory ∙ ap (λ (n : ℕ). all_given group n c.args.memory.now) c.packet_number.ensures;
      tells = λ d n p z ends keyed. subst (λ (k : Came). Tells p c.accept_m3.new.reply (installs y k (sent_m4 d n p z c.args.frame.now.counter ∷ []))) (c.give_all-keys.ensures.news ∙ ap (λ (n : ℕ). came group n c.args.memory.now) c.packet_number.ensures)
          (c.accept_m3.ensures.tells d n p z ends keyed);
    }

pub returns-clause-whole : goal.returns-clause-whole
returns-clause-whole c = c.accept_m3.ensures.whole

pub returns-in_err-group-clause-whole : goal.returns-in_err-group-clause-whole
returns-in_err-group-clause-whole c = whole_silent c.judge_m3.new.reply c.judge_m3.ensures.silent

pub returns-in_default-clause-whole : goal.returns-in_default-clause-whole
returns-in_default-clause-whole c = whole_empty c.args.reply.now c.requires.empty

pub accept_m3-requires-clause-verified : goal.accept_m3-requires-clause-verified
accept_m3-requires-clause-verified c = (agreed (under c.args.ends.now.mfp c.args.base.now c.in-Some.key c.args.kept) (fields_of c.args.frame.now) c.args.frame.now.octets.now c.in_ok-group.group c.judge_m3.new.reply.verified c.in_ok-group.ensures.judged).0

pub returns-in_default-clause-refused : goal.returns-in_default-clause-refused
returns-in_default-clause-refused c = grind (arith, common_steps)

pub returns-clause-keys : goal.returns-clause-keys
returns-clause-keys c = c.accept_m3.ensures.keys

pub returns-in_err-group-clause-keys : goal.returns-in_err-group-clause-keys
returns-in_err-group-clause-keys c = c.judge_m3.ensures.silent.derived

pub returns-in_default-clause-keys : goal.returns-in_default-clause-keys
returns-in_default-clause-keys c = c.requires.empty.derived
