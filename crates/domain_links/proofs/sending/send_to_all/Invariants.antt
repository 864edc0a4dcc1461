use Rattle.std.proofs.Common.{◌≡◌, Some}
use Rattle.domain_base.specs.Told.{LinkStory}
use Rattle.domain_links.specs.NodeOrder.{stations}
use Rattle.domain_links.specs.Sends.{after_frames, frames_to}
use Rattle.domain_links.proofs.sending.send_to_all.Given as goal

-- the stations so far were sent the frame
abbrev pub invariant-loop-place : goal.invariant-loop-place
invariant-loop-place g l = record {
  sent : (story : LinkStory) → g.L.Link.told l.fn.link ≡ Some story → g.L.Link.told l.link ≡ Some (after_frames story (frames_to (stations l.place) l.octets));
  unfailed : g.L.Link.faults l.link ≡ g.L.Link.faults l.fn.link;
}
