-- Each turn goes on from an entry that the question does not fit.
use Rattle.std.proofs.Common.{◌<◌, ℕ, length, Option, Some, refl, sym, ◌∙◌, subst, arith}
use Rattle.std.proofs.lemmas.List.{length-map, get_or_read}
use Rattle.std.proofs.lemmas.Bool.{false≢true}
use Rattle.run_journal.specs.declared.acts.Entry.{Entry}
use Rattle.run_journal.specs.Chained.{IsLast}
use Rattle.run_journal.specs.Looking.{Fits, kept_chain, chains_of}
use Rattle.run_journal.proofs.Walks.{Walked, left, fewer, walk_begins, walk_within, walk_stands, walk_goes_on, walk_ends}
use Rattle.run_journal.proofs.index.walk.Goals as goal

pub loop-place-preserved : goal.loop-place-preserved
loop-place-preserved c =
    let entries = c.args.entries.now in
    let q = c.args.question.now in
    let w : Walked c.args.breadth q entries (Some c.in-Some.i) = subst (λ (o : Option ℕ). Walked c.args.breadth q entries o) c.in-Some.is c.loop-place.invariant in
    walk_goes_on c.args.breadth q entries c.in-Some.i c.index-entries-i.result c.before-place.result w c.index-entries-i.is
    (λ f. false≢true (c.if-fits.ensures.1 f))
    (c.before-place.ensures _ _ c.requires.chained (walk_stands c.args.breadth q entries c.in-Some.i w))

pub returns : goal.returns
returns c =
    walk_ends c.args.breadth c.args.question.now c.args.entries.now (subst (λ (o : Option ℕ). Walked c.args.breadth c.args.question.now c.args.entries.now o) c.in_default.is c.loop-place.invariant)

pub loop-place-init : goal.loop-place-init
loop-place-init c =
    let entries = c.args.entries.now in
    let q = c.args.question.now in
    walk_begins c.args.breadth q entries c.last-place.result (subst (λ (n : ℕ). IsLast (chains_of c.args.breadth q entries) n (length (chains_of c.args.breadth q entries)) c.last-place.result) c.chain.ensures.chain (c.last-place.ensures _ c.requires.chained))

pub before-place-requires : goal.before-place-requires
before-place-requires c =
    let entries = c.args.entries.now in
    let q = c.args.question.now in
    let w : Walked c.args.breadth q entries (Some c.in-Some.i) = subst (λ (o : Option ℕ). Walked c.args.breadth q entries o) c.in-Some.is c.loop-place.invariant in
    subst (λ (n : ℕ). c.in-Some.i < n) (sym (c.requires.chained.len ∙ length-map entries (λ (e : Entry). kept_chain c.args.breadth q e.act))) (walk_within c.args.breadth q entries c.in-Some.i w)

pub returns-then-fits : goal.returns-then-fits
returns-then-fits c =
    let entries = c.args.entries.now in
    let q = c.args.question.now in
    let w : Walked c.args.breadth q entries (Some c.in-Some.i) = subst (λ (o : Option ℕ). Walked c.args.breadth q entries o) c.in-Some.is c.loop-place.invariant in
    let within = walk_within c.args.breadth q entries c.in-Some.i w in
    (within, λ d. subst (λ (e : Entry). Fits q e) (get_or_read entries c.in-Some.i c.index-entries-i.result within c.index-entries-i.is d) (c.if-fits.ensures.0 refl))

pub loop-place-smaller : goal.loop-place-smaller
loop-place-smaller c =
    let entries = c.args.entries.now in
    let q = c.args.question.now in
    let w : Walked c.args.breadth q entries (Some c.in-Some.i) = subst (λ (o : Option ℕ). Walked c.args.breadth q entries o) c.in-Some.is c.loop-place.invariant in
    subst (λ (o : Option ℕ). left c.before-place.result < left o) (sym c.in-Some.is)
    (fewer _ _ c.in-Some.i c.before-place.result (c.before-place.ensures _ _ c.requires.chained (walk_stands c.args.breadth q entries c.in-Some.i w)))

pub last-place-requires : goal.last-place-requires
last-place-requires c = omega (arith, c.chain.ensures.within, c.requires.made)
