use Rattle.std.proofs.Common.{◌≡◌, ◌∙◌, ◌++◌, ◌+◌, ◌∷◌, ℕ, suc, ap, ap₂, arith}
use Rattle.bip_guard.specs.Bip.{mme_front}
use Rattle.domain_rules.specs.PacketNumbers.{SendKey}
use Rattle.domain_rules.specs.ManagementFrames.{announced, bip_input}
use Rattle.data_frames.proofs.Announced.{announces, room_long}
use Rattle.data_frames.proofs.announcing.IntegrityKey.announce_next.Goals as goal

pub returns-clause-acts : goal.returns-clause-acts
returns-clause-acts c =
    let k = c.args.self.now in
    let payload = c.args.payload.now in
    let header = c.header_of-header.result in
    let id : c.self.inside.id ≡ k.id = ap (λ (s : SendKey). s.id) c.self.view_is in
    let number : c.used-number.result + 1 ≡ suc k.used = omega (arith, c.used-number.ensures.value) in
    announces c.args.here.domain.now c.args.here.node k.key k.id (suc k.used) payload header c.in_ok-room.room.content.items c.in_ok-room.room.covered.items _ _ _ c.header_of-header.ensures c.in_ok-room.ensures.content
    (c.in_ok-room.ensures.covered ∙ ap₂ (λ (i n : ℕ). 4 ∷ bip_input header (announced payload ++ mme_front i n)) id number) c.in_ok-reserve.ensures.acts c.announce_in.ensures.acts

pub announce_in-requires-clause-frame : goal.announce_in-requires-clause-frame
announce_in-requires-clause-frame c = room_long _ c.in_ok-room.room.content.items c.args.payload.now _ c.in_ok-room.ensures.content c.in_ok-room.ensures.frame
