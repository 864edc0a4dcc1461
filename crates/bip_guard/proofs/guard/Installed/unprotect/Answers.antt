use Rattle.std.proofs.Common.{◌≡◌, ◌<◌, true, false, subst, arith}
use Rattle.bip_guard.specs.Bip.{ipn_in, mic_verifies}
use Rattle.bip_guard.specs.Held.{Held}
use Rattle.bip_guard.proofs.Refusals.{none-refused, seal-refused}
use Rattle.bip_guard.proofs.guard.Installed.unprotect.Goals as goal

pub returns-in-Ok-open_frame-clause-fault : goal.returns-in-Ok-open_frame-clause-fault
returns-in-Ok-open_frame-clause-fault c =
    let header = c.args.header.now in
    let body = c.args.body.now in
    let above : c.args.self.now.kept < ipn_in body = omega (arith, c.in-Ok.ensures.above, c.in-Ok.ensures.number) in
    none-refused c.args.self.now header body c.in-Ok.ensures.key_id above
    (subst (λ (h : Held). mic_verifies h.key header body ≡ true) c.self.view_is c.in-Ok-open_frame.ensures.mic)

pub returns-in-Err-open_frame-clause-fault : goal.returns-in-Err-open_frame-clause-fault
returns-in-Err-open_frame-clause-fault c =
    let header = c.args.header.now in
    let body = c.args.body.now in
    let above : c.args.self.now.kept < ipn_in body = omega (arith, c.in-Ok.ensures.above, c.in-Ok.ensures.number) in
    seal-refused c.args.self.now header body c.in-Ok.ensures.key_id above
    (subst (λ (h : Held). mic_verifies h.key header body ≡ false) c.self.view_is c.in-Err-open_frame.ensures.mic)
