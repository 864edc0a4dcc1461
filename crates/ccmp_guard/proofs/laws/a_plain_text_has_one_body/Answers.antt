use Rattle.ccmp_guard.proofs.Bodies.{Protected-agree}
use Rattle.ccmp_guard.proofs.laws.a_plain_text_has_one_body.Goals as goal

pub returns-clause-protected : goal.returns-clause-protected
returns-clause-protected c = Protected-agree
