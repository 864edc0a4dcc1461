use Rattle.std.proofs.Common.{◌∙◌, refl, sym}
use Rattle.eapol_key.specs.Fields.{fields_of}
use Rattle.authenticator.specs.Judged.{frame_of}
use Rattle.authenticator.proofs.Deciding.{answers, forged_m4, verified_m4}
use Rattle.authenticator.proofs.Final.{decides_mic}
use Rattle.authenticator.proofs.attempt.Attempt.judge_m4.Goals as goal

pub returns-in_default : goal.returns-in_default
returns-in_default c akm judged = c.in_default.is

pub returns-then-not-is_offered : goal.returns-then-not-is_offered
returns-then-not-is_offered c akm judged = record {
  y = c.in-Some.agreement;
  some = c.in-Some.is;
  offer = sym c.is_offered.ensures ∙ c.if-not-is_offered.true;
  is = c.greatest.ensures;
}

pub returns-then-not-is_last : goal.returns-then-not-is_last
returns-then-not-is_last c akm judged =
    let a = c.args.self.now in
    let f = frame_of c.args.frame.now in
    let y = c.in-Some.agreement in
    let w = answers a (fields_of c.args.frame.now) y c.is_offered.result c.in-Some.is c.is_offered.ensures c.if-not-is_offered.false in
    forged_m4 akm a f y y.key c.args.is_last w refl (decides_mic akm a f y c.args.is_last w judged) c.if-not-is_last.true

pub returns : goal.returns
returns c akm judged = record {
  y = c.in-Some.agreement;
  answered = answers c.args.self.now (fields_of c.args.frame.now) c.in-Some.agreement c.is_offered.result c.in-Some.is c.is_offered.ensures c.if-not-is_offered.false;
  mic_is = (let a = c.args.self.now in
      let f = frame_of c.args.frame.now in
      let y = c.in-Some.agreement in
      let w = answers a (fields_of c.args.frame.now) y c.is_offered.result c.in-Some.is c.is_offered.ensures c.if-not-is_offered.false in
      verified_m4 akm y y.key c.args.frame.now.mic c.args.frame.now.octets.now c.args.is_last refl (decides_mic akm a f y c.args.is_last w judged) c.if-not-is_last.false);
  key_is = c.key-key.ensures;
  older = c.is_older-is_older.ensures;
}
