use Rattle.std.proofs.Common.{◌≡◌, List, length, reverse, refl, ap, rules, arith}
use Rattle.run_journal.specs.declared.acts.Entry.{Entry}
use Rattle.frame_script.proofs.Seeing.{Fronts-step, Fronts-seen, Fronts-all}
use Rattle.frame_script.proofs.seen.see.Goals as goal

pub returns-in_err-see_entry-clause-kept : goal.returns-in_err-see_entry-clause-kept
returns-in_err-see_entry-clause-kept c =
    let j = c.args.journal.now.entries in
    rw c.in_err-see_entry.ensures.err (Fronts-seen j (reverse j) c.loop-place.place c.loop-place.seen c.loop-place.sizes.items refl c.loop-place.invariant)

pub loop-place-preserved : goal.loop-place-preserved
loop-place-preserved c =
    let es = reverse c.args.journal.now.entries in
    let at = c.loop-place.place in
    Fronts-step es at c.loop-place.seen c.index-entries-place.result c.loop-place.sizes.items c.see_entry.new.sizes.items (search rules) (search rules) c.loop-place.invariant c.in_ok-see_entry.ensures.ok

pub returns-clause-kept : goal.returns-clause-kept
returns-clause-kept c =
    let j = c.args.journal.now.entries in
    Fronts-seen j (reverse j) c.loop-place.place c.loop-place.seen c.loop-place.sizes.items refl c.loop-place.invariant

pub returns-clause-all : goal.returns-clause-all
returns-clause-all c =
    let j = c.args.journal.now.entries in
    let end : c.loop-place.place ≡ length (reverse j) = omega (arith, c.loop-place-test.false, ap (λ (es : List Entry). length es) c.entries-entries.ensures, c.loop-place.invariant.within) in
    Fronts-all j (reverse j) c.loop-place.place c.loop-place.seen c.loop-place.sizes.items refl end c.loop-place.invariant
