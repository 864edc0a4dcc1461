use Rattle.std.proofs.Common.{◌≡◌, ◌∙◌, ◌+◌, ℕ, suc, ◌∷◌, List, sym, subst, ap, arith}
use Rattle.ccmp_guard.specs.Ccmp.{sealed_octets, IsHeader}
use Rattle.ccmp_guard.specs.Roles.{key_id}
use Rattle.data_frames.proofs.Sends.{sends}
use Rattle.std.proofs.lemmas.Grind.{common_steps}
use Rattle.data_frames.proofs.key.DataKey.send_next.Goals as goal

pub returns-clause-acts : goal.returns-clause-acts
returns-clause-acts c =
    let k = c.args.self.now in
    let payload = c.args.payload.now in
    let header = c.as_slice-header.result.now in
    let number : c.used-number.result + 1 ≡ suc k.used = omega (arith, c.used-number.ensures.value) in
    sends c.args.here.domain.now c.args.here.node c.args.to c.args.tid k.key (key_id k.role) (suc k.used) payload header c.in_ok-room.room.plain.items c.in_ok-room.room.covered.items _ _ _ (c.as_slice-header.ensures ∙ c.header_to-header.ensures.octets) c.in_ok-room.ensures.plain
    (c.in_ok-room.ensures.covered ∙ ap (λ (n : ℕ). 3 ∷ sealed_octets header n payload) number) c.in_ok-reserve.ensures.acts c.send_in.ensures.acts

pub send_in-requires-clause-header : goal.send_in-requires-clause-header
send_in-requires-clause-header c = subst (λ (h : List ℕ). IsHeader h) (sym c.as_slice-header.ensures) c.header_to-header.ensures.header

pub take-requires-clause-header : goal.take-requires-clause-header
take-requires-clause-header c = grind (arith, common_steps)

pub returns-clause-spare : goal.returns-clause-spare
returns-clause-spare c low = omega (arith, c.in_ok-reserve.ensures.spare, c.send_in.ensures.spare)
