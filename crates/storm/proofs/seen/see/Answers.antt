use Rattle.std.proofs.Common.{◌≡◌, length, reverse, refl, rules}
use Rattle.storm.proofs.Seeing.{Fronts-all, Fronts-seen, Fronts-start, Fronts-step}
use Rattle.storm.proofs.seen.see.Goals as goal

pub returns-in_err-see_entry-clause-kept : goal.returns-in_err-see_entry-clause-kept
returns-in_err-see_entry-clause-kept c =
    let j = c.args.journal.now.entries in
    rw c.in_err-see_entry.ensures.err (Fronts-seen j (reverse j) c.loop-place.place c.loop-place.seen c.loop-place.frames.items refl c.loop-place.invariant)

pub loop-place-preserved : goal.loop-place-preserved
loop-place-preserved c =
    let es = reverse c.args.journal.now.entries in
    let at = c.loop-place.place in
    Fronts-step es at c.loop-place.seen c.index-entries-place.result c.loop-place.frames.items c.see_entry.new.frames.items (search rules) (search rules) c.loop-place.invariant c.in_ok-see_entry.ensures.ok

pub returns-clause-kept : goal.returns-clause-kept
returns-clause-kept c =
    let j = c.args.journal.now.entries in
    Fronts-seen j (reverse j) c.loop-place.place c.loop-place.seen c.loop-place.frames.items refl c.loop-place.invariant

pub loop-place-init : goal.loop-place-init
loop-place-init c =
    let j = c.args.journal.now.entries in
    Fronts-start j (reverse j) c.args.seen.now c.args.frames.now.items refl c.requires

pub returns-clause-all : goal.returns-clause-all
returns-clause-all c =
    let j = c.args.journal.now.entries in
    let end : c.loop-place.place ≡ length (reverse j) = search rules in
    Fronts-all j (reverse j) c.loop-place.place c.loop-place.seen c.loop-place.frames.items refl end c.loop-place.invariant
