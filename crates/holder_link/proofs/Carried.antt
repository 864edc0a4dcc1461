-- What happened, at the event and the octets as the caller has them.
use Rattle.std.proofs.Common.{◌≡◌, ℕ, List, [], take}
use Rattle.holder_link.specs.declared.ends.Acted.{Acted}
use Rattle.link_steps.specs.declared.steps.LinkAnswer.{LinkAnswer}
use Rattle.link_steps.specs.declared.steps.LinkEvent.{LinkEvent}
use Rattle.holder_link.specs.Acts.{Acts, BothHave}

pub carried : (b : BothHave) (event at : LinkEvent) (sent : List ℕ) (answer : LinkAnswer) → event ≡ at → Acts b at sent answer → Acts b event sent answer
carried b event at sent answer e a = rw e a

pub carried_silent : (b : BothHave) (event at : LinkEvent) (out : List ℕ) (answer : LinkAnswer) (acted : Acted) → event ≡ at → acted ≡ record { answer = answer; end = 0 } → Acts b at [] answer → Acts b event (take acted.end out) acted.answer
carried_silent b event at out answer acted e f a = rw (e, f) a
