use Rattle.eapol_key.specs.Fields.{fields_of}
use Rattle.authenticator.specs.Judged.{frame_of}
use Rattle.authenticator.proofs.Deciding.{answers}
use Rattle.authenticator.proofs.Final.{none_final, uncounted_final, verified_final}
use Rattle.authenticator.proofs.attempt.Attempt.is_final.Goals as goal

pub returns-in_default : goal.returns-in_default
returns-in_default c = none_final c.args.akm c.args.self.now (frame_of c.args.frame.now) c.in_default.is

pub returns-then-not-is_offered : goal.returns-then-not-is_offered
returns-then-not-is_offered c =
    uncounted_final c.args.akm c.args.self.now (frame_of c.args.frame.now) c.in-Some.agreement c.is_offered.result c.in-Some.is c.is_offered.ensures c.if-not-is_offered.true

pub returns : goal.returns
returns c =
    verified_final c.args.akm c.args.self.now (frame_of c.args.frame.now) c.in-Some.agreement c.key-key.result.now c.verify.result
    (answers c.args.self.now (fields_of c.args.frame.now) c.in-Some.agreement c.is_offered.result c.in-Some.is c.is_offered.ensures c.if-not-is_offered.false)
    c.key-key.ensures c.verify.ensures
