use Rattle.std.proofs.Common.{◌≡◌, ◌+◌, ◌<◌, ap, sym, subst, ◌∙◌, arith, false, refl, Ok, Err}
use Rattle.run_journal.specs.Limits.{most_polls}
use Rattle.run_journal.specs.declared.domain.Domain.{Domain}
use Rattle.domain_links.specs.NodeOrder.{count, node_at}
use Rattle.domain_links.specs.Telling.{Tell, left_after}
use Rattle.domain_links.proofs.Taking.{Takes-start, Takes-more, Takes-stop, Takes-past, Takes-wide, none_left, Takes-same}
use Rattle.script_runs.specs.Outer.{sends_for}
use Rattle.script_runs.specs.Turning.{TakesIn, IsTaken, sent_by_then, stage}
use Rattle.script_runs.proofs.Turned.{laid_same, laid_ok, laid_err, laid_none, taken_further, taken_so_far}
use Rattle.script_runs.proofs.Writings.{goes_none, goes_then}
use Rattle.script_runs.proofs.turning.take_all.Goals as goal

pub loop-init : goal.loop-init
loop-init g c =
    let d = c.args.session.now.world.domain in
    record { len = refl; room = refl; own = c.requires.own; since = λ e is. is; network = refl; few = omega arith; same = refl; wrote = goes_none _ _ _ c.requires.written; takes = Takes-start g.L.Link.told (node_at d) IsTaken (sent_by_then d) _ _ _ _ }

pub take_next-requires-clause-within : goal.take_next-requires-clause-within
take_next-requires-clause-within g c = subst (λ (d : Domain). c.args.place < count d) (sym c.loop.invariant.network) c.requires.within

pub take_next-requires-clause-links : goal.take_next-requires-clause-links
take_next-requires-clause-links g c = c.loop.invariant.len ∙ c.requires.links ∙ ap count (sym c.loop.invariant.network)

pub take_next-requires-clause-written : goal.take_next-requires-clause-written
take_next-requires-clause-written g c = c.loop.invariant.wrote.count refl

pub take_next-requires-clause-few : goal.take_next-requires-clause-few
take_next-requires-clause-few g c = omega (arith, c.loop.invariant.few, c.requires.few, c.loop-test.true)

pub returns-in-Ok-false-clause-takes : goal.returns-in-Ok-false-clause-takes
returns-in-Ok-false-clause-takes g c =
    let d = c.args.session.now.world.domain in
    let so_far = c.loop.invariant.takes in
    let here = subst (λ (x : Domain). TakesIn g.L.Link.told x c.args.place 1 c.loop.links.items c.take_next.new.links.items (stage c.loop.session.world c.loop.journal.entries) (stage c.take_next.new.session.world c.take_next.new.journal.entries) (Ok c.in-Ok-false.field-0)) c.loop.invariant.network c.in-Ok-false.ensures.takes in
    let empty = c.take_next.ensures.empty (c.in-Ok-false.is ∙ ap Ok c.in-Ok-false.field-0-test) in
    Takes-past g.L.Link.told (node_at d) IsTaken (sent_by_then d) c.args.place (c.loop.counter + 1) most_polls _ _ _ _ _ _ (omega (arith, c.loop-test.true))
    (λ left tell.
    let t = so_far.tells left tell in
    none_left left c.args.place c.loop.counter
    (empty (left_after left c.args.place c.loop.counter) (subst (λ (x : Domain). Tell g.L.Link.told (node_at x) c.loop.links.items (left_after left c.args.place c.loop.counter) (sends_for x c.loop.journal.entries)) (sym c.loop.invariant.network) t.tell)))
    (Takes-more g.L.Link.told (node_at d) IsTaken (sent_by_then d) _ _ _ _ _ _ _ _ _ _ _ (tt {0}) so_far here)

pub returns-in-Ok-false-clause-further : goal.returns-in-Ok-false-clause-further
returns-in-Ok-false-clause-further g c =
    taken_further c.loop.counter most_polls (stage c.args.session.now.world c.args.journal.now.entries) (stage c.loop.session.world c.loop.journal.entries) (stage c.take_next.new.session.world c.take_next.new.journal.entries) (omega (arith, c.loop-test.true)) c.loop.invariant.network c.loop.invariant.few c.loop.invariant.since c.in-Ok-false.ensures.further

pub returns-in-Ok-false-clause-laid : goal.returns-in-Ok-false-clause-laid
returns-in-Ok-false-clause-laid g c =
    laid_ok g.L.Link.faults c.args.links.now.items c.loop.links.items c.take_next.new.links.items c.in-Ok-false.field-0 (tt {0}) c.loop.invariant.len c.loop.invariant.same c.in-Ok-false.ensures.laid

pub returns-in-Err-clause-further : goal.returns-in-Err-clause-further
returns-in-Err-clause-further g c =
    taken_further c.loop.counter most_polls (stage c.args.session.now.world c.args.journal.now.entries) (stage c.loop.session.world c.loop.journal.entries) (stage c.take_next.new.session.world c.take_next.new.journal.entries) (omega (arith, c.loop-test.true)) c.loop.invariant.network c.loop.invariant.few c.loop.invariant.since c.in-Err.ensures.further

pub returns-in-Err-clause-laid : goal.returns-in-Err-clause-laid
returns-in-Err-clause-laid g c =
    laid_err g.L.Link.faults c.args.links.now.items c.loop.links.items c.take_next.new.links.items c.in-Err.error c.loop.invariant.len c.loop.invariant.same c.in-Err.ensures.laid

pub returns-in-Err-clause-takes : goal.returns-in-Err-clause-takes
returns-in-Err-clause-takes g c =
    let d = c.args.session.now.world.domain in
    let here = subst (λ (x : Domain). TakesIn g.L.Link.told x c.args.place 1 c.loop.links.items c.take_next.new.links.items (stage c.loop.session.world c.loop.journal.entries) (stage c.take_next.new.session.world c.take_next.new.journal.entries) (Err c.in-Err.error)) c.loop.invariant.network c.in-Err.ensures.takes in
    Takes-wide {T = Unit {0}} g.L.Link.told (node_at d) IsTaken (sent_by_then d) c.args.place (c.loop.counter + 1) most_polls _ _ _ _ c.in-Err.error (omega (arith, c.loop-test.true))
    (Takes-stop g.L.Link.told (node_at d) IsTaken (sent_by_then d) _ _ _ _ _ _ _ _ _ _ _ c.loop.invariant.takes here)

pub loop-preserved : goal.loop-preserved
loop-preserved g c =
    let d = c.args.session.now.world.domain in
    let here = subst (λ (x : Domain). TakesIn g.L.Link.told x c.args.place 1 c.loop.links.items c.take_next.new.links.items (stage c.loop.session.world c.loop.journal.entries) (stage c.take_next.new.session.world c.take_next.new.journal.entries) (Ok c.in-Ok-true.field-0)) c.loop.invariant.network c.in-Ok-true.ensures.takes in
    record {
      len = c.in-Ok-true.ensures.laid.len ∙ c.loop.invariant.len;
      room = omega (arith, c.take_next.auto.buf, c.loop.invariant.room);
      own = c.in-Ok-true.ensures.further.own;
      since = λ e is. c.in-Ok-true.ensures.further.since e (c.loop.invariant.since e is);
      network = c.in-Ok-true.ensures.further.network ∙ c.loop.invariant.network;
      few = omega (arith, c.in-Ok-true.ensures.further.few, c.loop.invariant.few);
      same = laid_same g.L.Link.faults c.loop.links.items c.take_next.new.links.items c.in-Ok-true.field-0 c.in-Ok-true.ensures.laid ∙ c.loop.invariant.same;
      wrote = goes_then false _ _ _ _ _ _ _ _ _ c.loop.invariant.wrote c.in-Ok-true.ensures.wrote;
      takes = Takes-more g.L.Link.told (node_at d) IsTaken (sent_by_then d) _ _ _ _ _ _ _ _ _ _ _ _ c.loop.invariant.takes here;
    }

pub returns-clause-further : goal.returns-clause-further
returns-clause-further g c =
    taken_so_far c.loop.counter most_polls (stage c.args.session.now.world c.args.journal.now.entries) (stage c.loop.session.world c.loop.journal.entries) (omega (arith, c.loop.auto.counter-end)) c.loop.invariant.network c.loop.invariant.few c.loop.invariant.since c.loop.invariant.own

pub returns-clause-laid : goal.returns-clause-laid
returns-clause-laid g c = laid_none g.L.Link.faults c.args.links.now.items c.loop.links.items (tt {0}) c.loop.invariant.len c.loop.invariant.same

pub returns-clause-takes : goal.returns-clause-takes
returns-clause-takes g c =
    let d = c.args.session.now.world.domain in
    let all : c.loop.counter ≡ most_polls = omega (arith, c.loop-test.false, c.loop.auto.counter-end) in
    Takes-same g.L.Link.told (node_at d) IsTaken (sent_by_then d) _ _ _ _ _ _ _ (tt {0}) _ all c.loop.invariant.takes

pub returns-in-Ok-false-clause-wrote : goal.returns-in-Ok-false-clause-wrote
returns-in-Ok-false-clause-wrote g c = goes_then false _ _ _ _ _ _ _ _ _ c.loop.invariant.wrote c.in-Ok-false.ensures.wrote

pub returns-in-Err-clause-wrote : goal.returns-in-Err-clause-wrote
returns-in-Err-clause-wrote g c = goes_then _ _ _ _ _ _ _ _ _ _ c.loop.invariant.wrote c.in-Err.ensures.wrote

pub returns-clause-wrote : goal.returns-clause-wrote
returns-clause-wrote g c = c.loop.invariant.wrote
