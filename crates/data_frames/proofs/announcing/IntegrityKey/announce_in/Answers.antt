use Rattle.std.proofs.Common.{◌≡◌, ◌∙◌, ◌++◌, ◌+◌, ℕ, List, suc, length, ap, sym, arith}
use Rattle.std.specs.Prelude.{replicate}
use Rattle.domain_base.specs.declared.names.Peer.TheVariants.{All}
use Rattle.run_journal.specs.declared.acts.Act.TheVariants.{Used}
use Rattle.domain_rules.specs.PacketNumbers.{SendKey}
use Rattle.data_frames.proofs.Opening.{whole}
use Rattle.data_frames.proofs.Sends.{two_added, used_as}
use Rattle.data_frames.proofs.Announced.{sealed_as, sent_as, key_as}
use Rattle.data_frames.proofs.announcing.IntegrityKey.announce_in.Goals as goal

pub returns-clause-acts : goal.returns-clause-acts
returns-clause-acts c =
    let k = c.args.self.now in
    let room = c.args.room in
    let number : c.used-number.result + 1 ≡ suc k.used = omega (arith, c.used-number.ensures.value) in
    let key : c.self.inside.igtk ≡ k.key = ap (λ (s : SendKey). s.key) c.self.view_is in
    let id : c.self.inside.id ≡ k.id = ap (λ (s : SendKey). s.id) c.self.view_is in
    two_added c.args.out.now.acts c.add.new.self.acts _ (Used All c.self.inside.igtk c.self.inside.id (c.used-number.result + 1) room.content.items) _ _ _ c.add.ensures.acts c.add-2.ensures.acts
    (used_as All c.self.inside.igtk k.key c.self.inside.id k.id (c.used-number.result + 1) (suc k.used) room.content.items key id number)
    (sent_as c.self.inside.igtk k.key _ _ room.covered.items c.filled.result key
    (whole room.frame.len c.protect.new.frame _ (omega (arith, c.protect.ensures.len, c.deref_mut.ensures.len)) ∙ c.protect.ensures.frame
    ∙ sealed_as c.args.header.now c.self.inside.igtk k.key c.deref.result.now room.content.items c.self.inside.id k.id (c.used-number.result + 1) (suc k.used) key id number c.deref.ensures.value)
    c.filled.ensures)

pub returns-clause-used : goal.returns-clause-used
returns-clause-used c =
    let k = c.args.self.now in
    let number : c.used-number.result + 1 ≡ suc k.used = omega (arith, c.used-number.ensures.value) in
    key_as k c.self.inside.igtk c.self.inside.id (c.used-number.result + 1) (ap (λ (s : SendKey). s.key) c.self.view_is) (ap (λ (s : SendKey). s.id) c.self.view_is) number

pub protect-requires-clause-number : goal.protect-requires-clause-number
protect-requires-clause-number c = omega (arith, c.requires.number, c.used-number.ensures.value)

pub protect-requires-clause-frame : goal.protect-requires-clause-frame
protect-requires-clause-frame c =
    c.deref_mut.ensures.value ∙ c.requires.frame
    ∙ ap (λ (l : List ℕ). c.args.header.now ++ replicate (length l + 18) 0) (sym c.deref.ensures.value)
