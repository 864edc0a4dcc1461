use Rattle.std.proofs.Common.{◌≡◌, ◌∙◌, ◌+◌, suc, ap, sym, arith}
use Rattle.ccmp_guard.specs.Roles.{key_id}
use Rattle.ccmp_guard.specs.Held.{Held}
use Rattle.run_journal.specs.declared.acts.Act.TheVariants.{Used}
use Rattle.data_frames.proofs.Opening.{whole}
use Rattle.data_frames.proofs.Sends.{two_added, used_as, sent_as}
use Rattle.data_frames.proofs.key.DataKey.send_in.Goals as goal

pub returns-clause-acts : goal.returns-clause-acts
returns-clause-acts c =
    let k = c.args.self.now in
    let number : c.used-number.result + 1 ≡ suc k.used = omega (arith, c.used-number.ensures.value) in
    let key : c.self.inside.tk ≡ k.key = sym c.self.invariant.1 ∙ ap (λ (h : Held). h.key) c.self.view_is in
    two_added c.args.out.now.acts c.add.new.self.acts _ (Used c.args.to c.self.inside.tk c.key_id-id.result (c.used-number.result + 1) c.args.room.plain.items) _ _ _ c.add.ensures.acts c.add-2.ensures.acts
    (used_as c.args.to c.self.inside.tk k.key c.key_id-id.result (key_id k.role) (c.used-number.result + 1) (suc k.used) c.args.room.plain.items key c.key_id-id.ensures number)
    (sent_as c.args.to c.self.inside.tk k.key _ _ c.args.room.covered.items c.filled.result key (whole c.args.room.frame.len c.protect.new.frame _ (omega (arith, c.protect.ensures.len, c.deref_mut.ensures.len)) ∙ c.protect.ensures.frame) c.filled.ensures)
