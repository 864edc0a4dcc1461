use Rattle.std.proofs.Common.{sym, ap}
use Rattle.rsn_elements.specs.Elements.{ElementFields}
use Rattle.authenticator.proofs.m2.read_rsne.Goals as goal

pub returns-in-Ok : goal.returns-in-Ok
returns-in-Ok c e spelled = sym (ap (λ (x : ElementFields). x.rsne) (c.in-Ok.ensures.only e spelled))

pub returns-in-Err : goal.returns-in-Err
returns-in-Err c e spelled = absurd (c.in-Err.ensures.only e spelled)
