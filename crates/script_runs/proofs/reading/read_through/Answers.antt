use Rattle.std.proofs.Common.{◌<◌, ◌++◌, ◌∙◌, [], false, true, take, length, refl, arith}
use Rattle.std.proofs.lemmas.Bool.{false≢true}
use Rattle.std.proofs.lemmas.List.{length-append}
use Rattle.script_runs.proofs.Blamed.{blame_more, unblamed}
use Rattle.script_runs.proofs.Closing.{closes_in, closes_cut, closes_stopped}
use Rattle.script_runs.proofs.Copying.{copied_none, copied_then}
use Rattle.script_runs.proofs.Ended.{stopped_read}
use Rattle.script_runs.proofs.Lines.{Consumes-nil, Consumes-then, Consumes-none, Consumes-kept, length-read}
use Rattle.script_runs.proofs.Writings.{found_stop, goes_as, goes_none, goes_then}
use Rattle.script_runs.proofs.reading.read_through.Goals as goal

pub reads-init : goal.reads-init
reads-init g c = record {
  ready = c.requires.ready;
  mode = refl;
  same = refl;
  room = refl;
  reached = ([], Consumes-nil _, c.requires.reached, refl, copied_none c.args.copy.now);
  wrote = goes_none _ _ _ c.requires.written;
  blamed = unblamed g.A.L.Link.faults _ _ _;
}

-- the source failed

pub returns-in_default-clause-told : goal.returns-in_default-clause-told
returns-in_default-clause-told g c =
    let so_far = c.reads.invariant.reached in (
      so_far.0,
      false,
      Consumes-kept _ _ _ so_far.0 so_far.1 c.in_default.ensures.bytes,
      λ e. absurd (false≢true e),
      closes_cut g.A.L.Link.told _ _ c.reads.feeder _ so_far.0 _ c.reads.invariant.mode so_far.2,
      so_far.4,
    )

-- it was read to its end

pub returns-then-count-eq0-clause-told : goal.returns-then-count-eq0-clause-told
returns-then-count-eq0-clause-told g c =
    let so_far = c.reads.invariant.reached in
    let some : 0 < length c.read.new.buf = omega (arith, c.read.auto.buf, c.reads.invariant.room) in (
      so_far.0,
      true,
      Consumes-none _ _ _ so_far.0 _ c.in-Ok.count so_far.1 c.in-Ok.ensures.bytes.0 c.if-count-eq0.true,
      λ _. c.in-Ok.ensures.bytes.1 c.if-count-eq0.true some,
      closes_in g.A.L.Link.told _ _ _ _ c.finish.result so_far.0 true _ c.reads.invariant.mode (c.finish.ensures.told _ so_far.0 so_far.2),
      so_far.4,
    )

pub returns-then-count-eq0-clause-blamed : goal.returns-then-count-eq0-clause-blamed
returns-then-count-eq0-clause-blamed g c = blame_more g.A.L.Link.faults _ _ _ _ _ _ _ _ _ _ c.reads.invariant.blamed c.finish.ensures.blamed

-- or not yet

pub overflow_add-total : goal.overflow_add-total
overflow_add-total g c =
    let so_far = c.reads.invariant.reached in
    let cut = so_far.2.come.cut in
    let few = length-read so_far.0 so_far.2.come.good c.reads.feeder.cutter.line.items cut.begins cut.short cut.few in
    omega (arith, so_far.3, few, c.in-Ok.ensures.bound.0, c.read.auto.buf, c.reads.invariant.room)

pub returns-in-Err-clause-told : goal.returns-in-Err-clause-told
returns-in-Err-clause-told g c =
    let so_far = c.reads.invariant.reached in
    let piece = take c.in-Ok.count c.read.new.buf in (
      so_far.0 ++ piece,
      false,
      Consumes-then _ _ _ so_far.0 piece so_far.1 c.in-Ok.ensures.bytes.0,
      λ e. absurd (false≢true e),
      closes_stopped g.A.L.Link.told _ _ _ _ c.in-Err.stop (so_far.0 ++ piece) _ c.reads.invariant.mode (c.in-Err.ensures.reached _ so_far.0 so_far.2),
      copied_then _ _ _ so_far.0 piece so_far.4 c.add.ensures,
    )

pub returns-in-Err-clause-blamed : goal.returns-in-Err-clause-blamed
returns-in-Err-clause-blamed g c = blame_more g.A.L.Link.faults _ _ _ _ _ _ _ _ _ _ c.reads.invariant.blamed c.in-Err.ensures.blamed

pub reads-smaller : goal.reads-smaller
reads-smaller g c =
    let so_far = c.reads.invariant.reached in
    let cut = so_far.2.come.cut in
    let few = length-read so_far.0 so_far.2.come.good c.reads.feeder.cutter.line.items cut.begins cut.short cut.few in
    omega (arith, so_far.3, few, c.if-count-eq0.false)

pub reads-preserved : goal.reads-preserved
reads-preserved g c =
    let so_far = c.reads.invariant.reached in
    let piece = take c.in-Ok.count c.read.new.buf in
    record {
      ready = c.in_default-feed.ensures.ready;
      mode = c.feed.ensures.mode ∙ c.reads.invariant.mode;
      same = c.in-Ok.ensures.unfailed ∙ c.reads.invariant.same;
      room = omega (arith, c.read.auto.buf, c.reads.invariant.room);
      reached = (so_far.0 ++ piece, Consumes-then _ _ _ so_far.0 piece so_far.1 c.in-Ok.ensures.bytes.0, c.in_default-feed.ensures.reached _ so_far.0 so_far.2, omega (arith, so_far.3, length-append so_far.0 piece, c.in-Ok.ensures.bound.1), copied_then _ _ _ so_far.0 piece so_far.4 c.add.ensures);
      wrote = goes_then false _ _ _ _ _ _ _ _ _ c.reads.invariant.wrote c.in_default-feed.ensures.wrote;
      blamed = blame_more g.A.L.Link.faults _ _ _ _ _ _ _ _ _ _ c.reads.invariant.blamed c.in_default-feed.ensures.blamed;
    }

-- the cause of a fault of the source

pub returns-then-count-eq0-clause-fault : goal.returns-then-count-eq0-clause-fault
returns-then-count-eq0-clause-fault g c is = absurd (c.finish.ensures.not_read is)

pub returns-then-count-eq0-clause-fault_told : goal.returns-then-count-eq0-clause-fault_told
returns-then-count-eq0-clause-fault_told g c differs = absurd (differs (c.in-Ok.ensures.unfailed ∙ c.reads.invariant.same))

pub returns-in-Err-clause-fault : goal.returns-in-Err-clause-fault
returns-in-Err-clause-fault g c is = absurd (stopped_read c.in-Err.stop is)

pub returns-in-Err-clause-fault_told : goal.returns-in-Err-clause-fault_told
returns-in-Err-clause-fault_told g c differs = absurd (differs (c.in-Ok.ensures.unfailed ∙ c.reads.invariant.same))

-- what was written

pub finish-requires-clause-written : goal.finish-requires-clause-written
finish-requires-clause-written g c = λ κs bounds. c.reads.invariant.wrote.count refl

pub feed-requires-clause-written : goal.feed-requires-clause-written
feed-requires-clause-written g c = λ κs bounds. c.reads.invariant.wrote.count refl

pub returns-in_default-clause-wrote : goal.returns-in_default-clause-wrote
returns-in_default-clause-wrote g c = c.reads.invariant.wrote

pub returns-then-count-eq0-clause-wrote : goal.returns-then-count-eq0-clause-wrote
returns-then-count-eq0-clause-wrote g c = goes_then _ _ _ _ _ _ _ _ _ _ c.reads.invariant.wrote c.finish.ensures.wrote

pub returns-in-Err-clause-wrote : goal.returns-in-Err-clause-wrote
returns-in-Err-clause-wrote g c = goes_as _ _ _ _ _ _ _ _ (found_stop (Unit {0}) c.in-Err.stop) (goes_then _ _ _ _ _ _ _ _ _ _ c.reads.invariant.wrote c.in-Err.ensures.wrote)
