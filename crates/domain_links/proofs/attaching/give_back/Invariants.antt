use Rattle.std.proofs.Common.{◌≡◌, ◌≤◌, Some}
use Rattle.domain_base.specs.Causes.{Rose}
use Rattle.domain_base.specs.Told.{AirStory}
use Rattle.domain_links.specs.Telling.{HasFailed, NoneFailed}
use Rattle.domain_links.specs.Attached.{TakenBack}
use Rattle.domain_links.proofs.attaching.give_back.Given as goal

-- the links so far were given back
abbrev pub invariant-loop-link : goal.invariant-loop-link
invariant-loop-link g l = record {
  returned : (now : AirStory) → g.A.Air.told l.air ≡ Some now → TakenBack g.A.L.Link.told l.yielded (g.A.Air.told l.fn.air) now;
  later : g.A.Air.faults l.fn.air ≤ g.A.Air.faults l.air;
  cause : HasFailed g.A.L.Link.faults l.yielded → Rose (g.A.Air.faults l.fn.air) (g.A.Air.faults l.air);
  unfailed : NoneFailed g.A.L.Link.faults l.yielded → g.A.Air.faults l.air ≡ g.A.Air.faults l.fn.air;
}
