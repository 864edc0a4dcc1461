use Rattle.std.proofs.Common.{◌≡◌, ◌<◌, ap, sym, subst, ◌∙◌, arith, false, refl, Ok, Err}
use Rattle.run_journal.specs.Limits.{most_polls}
use Rattle.run_journal.specs.declared.domain.Domain.{Domain}
use Rattle.domain_links.specs.NodeOrder.{count, node_at}
use Rattle.domain_links.proofs.Turning.{TakesTurn-start, TakesTurn-more, TakesTurn-stop, TakesTurn-same}
use Rattle.script_runs.specs.Turning.{TakesIn, IsTaken, sent_by_then, stage}
use Rattle.script_runs.proofs.Turned.{laid_same, laid_err, laid_none, turned_further, turned_so_far}
use Rattle.script_runs.proofs.Writings.{goes_none, goes_then}
use Rattle.script_runs.proofs.turning.turn.Goals as goal

pub loop-place-init : goal.loop-place-init
loop-place-init g c =
    let d = c.args.session.now.world.domain in
    record { len = refl; own = c.requires.own; since = λ e is. is; network = refl; few = omega arith; same = refl; wrote = goes_none _ _ _ c.requires.written; takes = TakesTurn-start g.L.Link.told (node_at d) IsTaken (sent_by_then d) _ _ _ }

pub take_all-requires-clause-within : goal.take_all-requires-clause-within
take_all-requires-clause-within g c =
    subst (λ (d : Domain). c.loop-place.place < count d) (sym c.loop-place.invariant.network) (omega (arith, c.loop-place-test.true, c.len-place-end.ensures, c.requires.links))

pub take_all-requires-clause-links : goal.take_all-requires-clause-links
take_all-requires-clause-links g c = c.loop-place.invariant.len ∙ c.requires.links ∙ ap count (sym c.loop-place.invariant.network)

pub take_all-requires-clause-written : goal.take_all-requires-clause-written
take_all-requires-clause-written g c = c.loop-place.invariant.wrote.count refl

pub take_all-requires-clause-few : goal.take_all-requires-clause-few
take_all-requires-clause-few g c =
    omega (arith, c.loop-place.invariant.few, c.requires.few, c.requires.links, c.loop-place-test.true, c.len-place-end.ensures)

pub loop-place-preserved : goal.loop-place-preserved
loop-place-preserved g c =
    let d = c.args.session.now.world.domain in
    let here = subst (λ (x : Domain). TakesIn g.L.Link.told x c.loop-place.place most_polls c.loop-place.links.items c.take_all.new.links.items (stage c.loop-place.session.world c.loop-place.journal.entries) (stage c.take_all.new.session.world c.take_all.new.journal.entries) (Ok (tt {0}))) c.loop-place.invariant.network c.in-Ok.ensures.takes in
    record {
      len = c.in-Ok.ensures.laid.len ∙ c.loop-place.invariant.len;
      own = c.in-Ok.ensures.further.own;
      since = λ e is. c.in-Ok.ensures.further.since e (c.loop-place.invariant.since e is);
      network = c.in-Ok.ensures.further.network ∙ c.loop-place.invariant.network;
      few = omega (arith, c.in-Ok.ensures.further.few, c.loop-place.invariant.few);
      same = laid_same g.L.Link.faults c.loop-place.links.items c.take_all.new.links.items (tt {0}) c.in-Ok.ensures.laid ∙ c.loop-place.invariant.same;
      wrote = goes_then false _ _ _ _ _ _ _ _ _ c.loop-place.invariant.wrote c.in-Ok.ensures.wrote;
      takes = TakesTurn-more g.L.Link.told (node_at d) IsTaken (sent_by_then d) _ _ _ _ _ _ _ _ _ _ c.loop-place.invariant.takes here;
    }

pub returns-in-Err-clause-did : goal.returns-in-Err-clause-did
returns-in-Err-clause-did g c =
    let d = c.args.session.now.world.domain in
    let here = subst (λ (x : Domain). TakesIn g.L.Link.told x c.loop-place.place most_polls c.loop-place.links.items c.take_all.new.links.items (stage c.loop-place.session.world c.loop-place.journal.entries) (stage c.take_all.new.session.world c.take_all.new.journal.entries) (Err c.in-Err.error)) c.loop-place.invariant.network c.in-Err.ensures.takes in
    let within : c.loop-place.place < count d = omega (arith, c.loop-place-test.true, c.len-place-end.ensures, c.requires.links) in
    record {
      further = turned_further c.loop-place.place (count d) (stage c.args.session.now.world c.args.journal.now.entries) (stage c.loop-place.session.world c.loop-place.journal.entries) (stage c.take_all.new.session.world c.take_all.new.journal.entries) within c.loop-place.invariant.network c.loop-place.invariant.few c.loop-place.invariant.since c.in-Err.ensures.further;
      laid = laid_err g.L.Link.faults c.args.links.now.items c.loop-place.links.items c.take_all.new.links.items c.in-Err.error c.loop-place.invariant.len c.loop-place.invariant.same c.in-Err.ensures.laid;
      takes = TakesTurn-stop g.L.Link.told (node_at d) IsTaken (sent_by_then d) _ _ _ _ _ _ _ _ _ _ within c.loop-place.invariant.takes here;
    }

pub returns-clause-did : goal.returns-clause-did
returns-clause-did g c =
    let d = c.args.session.now.world.domain in
    let all : c.loop-place.place ≡ count d = omega (arith, c.loop-place-test.false, c.loop-place.auto.place-end, c.len-place-end.ensures, c.requires.links) in
    record {
      further = turned_so_far c.loop-place.place (count d) (stage c.args.session.now.world c.args.journal.now.entries) (stage c.loop-place.session.world c.loop-place.journal.entries) all c.loop-place.invariant.network c.loop-place.invariant.few c.loop-place.invariant.since c.loop-place.invariant.own;
      laid = laid_none g.L.Link.faults c.args.links.now.items c.loop-place.links.items (tt {0}) c.loop-place.invariant.len c.loop-place.invariant.same;
      takes = TakesTurn-same g.L.Link.told (node_at d) IsTaken (sent_by_then d) _ _ _ _ _ _ (tt {0}) (tt {0}) all c.loop-place.invariant.takes;
    }

pub returns-in-Err-clause-wrote : goal.returns-in-Err-clause-wrote
returns-in-Err-clause-wrote g c = goes_then _ _ _ _ _ _ _ _ _ _ c.loop-place.invariant.wrote c.in-Err.ensures.wrote

pub returns-clause-wrote : goal.returns-clause-wrote
returns-clause-wrote g c = c.loop-place.invariant.wrote
