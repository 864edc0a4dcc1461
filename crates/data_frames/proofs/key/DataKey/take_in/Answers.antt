use Rattle.std.proofs.Common.{◌∙◌, ◌++◌, ◌∷◌, ℕ, List, [], Some, refl, ap, arith}
use Rattle.ccmp_guard.specs.Ccmp.{packet_number}
use Rattle.ccmp_guard.specs.Roles.{key_id, counter_of}
use Rattle.ccmp_guard.specs.Held.{Held}
use Rattle.run_journal.specs.declared.acts.Kind.TheVariants.{Data}
use Rattle.run_journal.specs.declared.acts.Outcome.TheVariants.{Accepted}
use Rattle.run_journal.specs.declared.acts.Act.TheVariants.{Took, HandedUp}
use Rattle.domain_rules.specs.DataFrames.{data_seal}
use Rattle.data_frames.specs.Taking.{Refuses}
use Rattle.data_frames.proofs.Opening.{handed_up, whole}
use Rattle.data_frames.proofs.Lengths.{zeros_long}
use Rattle.data_frames.proofs.key.DataKey.take_in.Goals as goal

pub returns-in-Ok : goal.returns-in-Ok
returns-in-Ok c =
    let k = c.opened_under-key.result in
    let header = c.args.frame.now.header.octets.now in
    let number = packet_number c.args.frame.now.body.now in
    let taken = c.args.room.taken.items in
    let o = c.in-Ok.ensures.opened in
    handed_up c.args.from taken taken _ _ _ c.open.new.plain _ _ _ k.tk k.id k.tid o refl refl
    (c.opened_under-key.ensures.tk ∙ ap (λ (h : Held). h.key) o.taken) (c.opened_under-key.ensures.id ∙ ap (λ (h : Held). key_id h.role) o.taken) (c.opened_under-key.ensures.tid ∙ ap (λ (h : Held). counter_of h.role header) o.taken)
    (c.add_opened.ensures.acts
    ∙ ap (λ (x : List ℕ). c.args.out.now.acts ++ Took (Some c.args.from) taken Data Accepted (Some (data_seal k.tk header number x)) ∷ HandedUp c.args.from k.tk k.id k.tid number x ∷ [])
    (whole c.args.room.plain.len c.open.new.plain _ (omega (arith, c.open.ensures.len, c.deref_mut.ensures.len))))

pub returns-in-Err : goal.returns-in-Err
returns-in-Err c = Refuses c.in-Err.fault c.in-Err.ensures.stopped c.in-Err.ensures.same c.add_refused.ensures.outcome c.add_refused.ensures.acts

pub open-requires-clause-room : goal.open-requires-clause-room
open-requires-clause-room c = omega (arith, c.deref_mut.ensures.len, zeros_long c.args.room.plain.len _ c.args.room.plain.items c.args.room.plain.ok.0 c.requires.room.plain, c.requires.whole.long)

pub add_opened-requires-clause-capacity : goal.add_opened-requires-clause-capacity
add_opened-requires-clause-capacity c = omega (arith, zeros_long c.args.room.plain.len _ c.args.room.plain.items c.args.room.plain.ok.0 c.requires.room.plain, c.requires.room.capacity)
