use Rattle.std.proofs.Common.{refl}
use Rattle.uses.proofs.access_point.accepts.Goals as goal

pub returns-in-Accepted : goal.returns-in-Accepted
returns-in-Accepted c = λ yes'. record {
  frame = c.in-Ok.frame;
  used = c.in-Ok.field-0-1;
  spells = c.in-Ok.ensures.found;
  message = c.in-Some.message;
  is = (c.in-Some.ensures.found c.in-Some.message).0 refl;
  steps = c.in-Accepted.ensures.steps;
  installs = c.in-Accepted.ensures.installs;
}
