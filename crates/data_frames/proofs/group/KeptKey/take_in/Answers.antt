use Rattle.std.proofs.Common.{◌∙◌, ◌++◌, ◌∷◌, ℕ, List, [], Some, ap, refl, arith}
use Rattle.ccmp_guard.specs.Ccmp.{packet_number}
use Rattle.run_journal.specs.declared.acts.Kind.TheVariants.{Data}
use Rattle.run_journal.specs.declared.acts.Outcome.TheVariants.{Accepted}
use Rattle.run_journal.specs.declared.acts.Act.TheVariants.{Took, HandedUp}
use Rattle.domain_rules.specs.DataFrames.{data_seal}
use Rattle.data_frames.specs.Holding.{kept_key}
use Rattle.data_frames.specs.Taking.{Refuses}
use Rattle.data_frames.proofs.Opening.{handed_up, whole}
use Rattle.data_frames.proofs.Lengths.{zeros_long}
use Rattle.std.proofs.lemmas.Grind.{common_steps}
use Rattle.data_frames.proofs.group.KeptKey.take_in.Goals as goal

pub returns-in-Ok-clause-taken : goal.returns-in-Ok-clause-taken
returns-in-Ok-clause-taken c =
    let k = c.used_here.result in
    let header = c.args.frame.now.header.octets.now in
    let number = packet_number c.args.frame.now.body.now in
    let taken = c.args.room.taken.items in
    let o = c.in-Ok.ensures.opened in (
      o.0,
      handed_up c.args.from taken taken _ _ o.0 c.open.new.plain _ _ _ k.tk k.id k.tid o.1 refl refl
          c.used_here.ensures.tk c.used_here.ensures.id c.used_here.ensures.tid
          (c.add_opened.ensures.acts
          ∙ ap (λ (x : List ℕ). c.args.out.now.acts ++ Took (Some c.args.from) taken Data Accepted (Some (data_seal k.tk header number x)) ∷ HandedUp c.args.from k.tk k.id k.tid number x ∷ [])
          (whole c.args.room.plain.len c.open.new.plain _ (omega (arith, c.open.ensures.len, c.deref_mut.ensures.len)))),
    )

pub returns-in-Err-clause-taken : goal.returns-in-Err-clause-taken
returns-in-Err-clause-taken c = (
  kept_key c.args.self.now.key c.args.self.now.id c.args.self.now.counter,
  Refuses c.in-Err.fault c.in-Err.ensures.stopped refl c.add_refused.ensures.outcome c.add_refused.ensures.acts,
)

pub open-requires-clause-room : goal.open-requires-clause-room
open-requires-clause-room c = omega (arith, c.deref_mut.ensures.len, zeros_long c.args.room.plain.len _ c.args.room.plain.items c.args.room.plain.ok.0 c.requires.room.plain, c.requires.whole.long)

pub add_opened-requires-clause-capacity : goal.add_opened-requires-clause-capacity
add_opened-requires-clause-capacity c = omega (arith, zeros_long c.args.room.plain.len _ c.args.room.plain.items c.args.room.plain.ok.0 c.requires.room.plain, c.requires.room.capacity)

pub returns-in-Err-clause-above : goal.returns-in-Err-clause-above
returns-in-Err-clause-above c = grind (arith, common_steps)
