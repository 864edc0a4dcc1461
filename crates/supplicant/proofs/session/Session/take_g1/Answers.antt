use Rattle.std.proofs.Common.{◌≡◌, ℕ, ◌∷◌, [], Option, ap, subst, ◌∙◌, rules}
use Rattle.std.specs.Prelude.{Ok}
use Rattle.key_hierarchy.specs.declared.inputs.Ptk.{Ptk}
use Rattle.domain_rules.specs.Frames.{sent_g2}
use Rattle.supplicant.specs.declared.answers.Came.{Came}
use Rattle.eapol_key.specs.Fields.{fields_of}
use Rattle.supplicant.specs.G1.{under_g1, IsG1}
use Rattle.supplicant.specs.KeyData.{packet_number_of, came, all_given}
use Rattle.supplicant.specs.Held.{ptk_of, kept_of}
use Rattle.supplicant.specs.Told.{Tells, renews}
use Rattle.supplicant.proofs.G1Read.{g1_agreed}
use Rattle.supplicant.proofs.Telling.{whole_silent}
use Rattle.supplicant.proofs.session.Session.take_g1.Goals as goal

pub returns-clause-renews : goal.returns-clause-renews
returns-clause-renews c =
    let q = ptk_of c.args.self in
    let group = c.in_ok-group.group in
    let same : c.ptk-ptk.result ≡ q = c.ptk-ptk.ensures in
    let judged = subst (λ (k : Ptk). IsG1 (under_g1 c.args.ends.now.mfp c.args.ends.now.akm k (kept_of c.args.self)) (fields_of c.args.frame.now) c.args.frame.now.octets.now (Ok group) c.judge_g1.new.reply.verified) same
    (subst (λ (o : Option ℕ). IsG1 (under_g1 c.args.ends.now.mfp c.args.ends.now.akm c.ptk-ptk.result o) (fields_of c.args.frame.now) c.args.frame.now.octets.now (Ok group) c.judge_g1.new.reply.verified) c.kept.ensures c.in_ok-group.ensures.judged) in
    record {
      group = group;
      verified = (g1_agreed (under_g1 c.args.ends.now.mfp c.args.ends.now.akm q (kept_of c.args.self)) (fields_of c.args.frame.now) c.args.frame.now.octets.now group c.judge_g1.new.reply.verified judged).1;
      is = c.counted.ensures;
      memory = c.give_all-keys.ensures.memory ∙ ap (λ (n : ℕ). all_given group n c.args.memory.now) c.packet_number.ensures;
      tells = λ d n p z ends keyed. subst (λ (k : Ptk). Tells p c.accept_g1.new.reply (renews k (came group (packet_number_of c.args.frame.now.rsc) c.args.memory.now) (sent_g2 d n p z c.args.frame.now.counter ∷ []))) same
          (subst (λ (g : Came). Tells p c.accept_g1.new.reply (renews c.ptk-ptk.result g (sent_g2 d n p z c.args.frame.now.counter ∷ []))) (c.give_all-keys.ensures.news ∙ ap (λ (n : ℕ). came group n c.args.memory.now) c.packet_number.ensures)
          (c.accept_g1.ensures.tells d n p z ends (same ∙ keyed)));
    }

pub returns-in_err-group-clause-refused : goal.returns-in_err-group-clause-refused
returns-in_err-group-clause-refused c = search rules steps 1000000

pub returns-clause-whole : goal.returns-clause-whole
returns-clause-whole c = c.accept_g1.ensures.whole

pub returns-in_err-group-clause-whole : goal.returns-in_err-group-clause-whole
returns-in_err-group-clause-whole c = whole_silent c.judge_g1.new.reply c.judge_g1.ensures.silent

pub accept_g1-requires-clause-verified : goal.accept_g1-requires-clause-verified
accept_g1-requires-clause-verified c = (g1_agreed (under_g1 c.args.ends.now.mfp c.args.ends.now.akm c.ptk-ptk.result c.kept.result) (fields_of c.args.frame.now) c.args.frame.now.octets.now c.in_ok-group.group c.judge_g1.new.reply.verified c.in_ok-group.ensures.judged).0

pub returns-clause-keys : goal.returns-clause-keys
returns-clause-keys c = c.accept_g1.ensures.keys

pub returns-in_err-group-clause-keys : goal.returns-in_err-group-clause-keys
returns-in_err-group-clause-keys c = (c.judge_g1.ensures.silent.derived, c.judge_g1.ensures.silent.installed)
