use Rattle.std.proofs.Common.{suc, take, arith}
use Rattle.std.proofs.lemmas.List.{length-take}
use Rattle.ccmp_guard.specs.Ccmp.{Protected, packet_number}
use Rattle.ccmp_guard.specs.Roles.{key_id}
use Rattle.ccmp_guard.specs.Held.{Held}
use Rattle.uses.proofs.Carrying.{pairwise, opens, of_some}
use Rattle.uses.proofs.payload.carry.Goals as goal

pub unreachable-requires-in-Err : goal.unreachable-requires-in-Err
unreachable-requires-in-Err c =
    let tk = c.args.tk.now in
    let header = c.args.header.now in
    let payload = c.args.payload.now in
    let body = take c.in-Ok.end c.protect.new.out in
    let used = c.args.used in
    let sealed : Protected tk header 0 (suc used) payload body =
    of_some c.install.new.self (pairwise tk used 0) (λ (h : Held). Protected h.key header (key_id h.role) (suc h.used) payload body) c.install.ensures c.in-Ok.ensures.sealed in
    opens c.install-2.new.self tk header payload body used c.in-Err.field-0 c.install-2.ensures sealed
    (omega (arith, c.in-Ok.ensures.end, c.requires.body, c.protect.auto.out, length-take c.in-Ok.end c.protect.new.out))
    c.in-Err.ensures.seal

pub returns-clause-same : goal.returns-clause-same
returns-clause-same c =
    let tk = c.args.tk.now in
    let header = c.args.header.now in
    let payload = c.args.payload.now in
    let body = take c.in-Ok.end c.protect.new.out in
    let opened = take c.in-Ok-unprotect.size c.unprotect.new.out in
    let used = c.args.used in
    let sealed : Protected tk header 0 (suc used) payload body =
    of_some c.install.new.self (pairwise tk used 0) (λ (h : Held). Protected h.key header (key_id h.role) (suc h.used) payload body) c.install.ensures c.in-Ok.ensures.sealed in
    let is_opened : Protected tk header 0 (packet_number body) opened body =
    of_some c.install-2.new.self (pairwise tk 0 used) (λ (h : Held). Protected h.key header (key_id h.role) (packet_number body) opened body) c.install-2.ensures c.in-Ok-unprotect.ensures.opened in
    c.a_body_has_one_plain_text.ensures.plain tk header 0 (packet_number body) 0 (suc used) opened payload body is_opened sealed
