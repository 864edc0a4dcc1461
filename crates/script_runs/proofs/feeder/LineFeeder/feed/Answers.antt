use Rattle.std.proofs.Common.{◌++◌, ◌∙◌, ◌-◌, ◌+◌, ℕ, List, take, drop, false, Ok, Err, ap, subst, arith, refl, sym}
use Rattle.frame_script.specs.declared.reader.Mode.{Mode}
use Rattle.script_runs.specs.declared.state.ScriptState.{ScriptState}
use Rattle.script_runs.specs.Feeders.{Reached}
use Rattle.script_runs.specs.Outer.{outer}
use Rattle.script_runs.specs.Sessions.{output}
use Rattle.script_runs.specs.Stops.{Halts}
use Rattle.script_runs.specs.Story.{most_read}
use Rattle.script_runs.specs.Written.{GoesOn, written_of}
use Rattle.script_runs.proofs.Blamed.{blame_more, unblamed}
use Rattle.script_runs.proofs.Coming.{all_further, feed_further, piece_further, reached_more, ready_more, unblamed_more}
use Rattle.script_runs.proofs.Lines.{Halts-behind}
use Rattle.script_runs.proofs.Writings.{goes_as, goes_none, goes_then, refusal_short}
use Rattle.std.proofs.lemmas.List.{append-nil}
use Rattle.script_runs.proofs.feeder.LineFeeder.feed.Goals as goal

pub loop-at-preserved-in-Ok : goal.loop-at-preserved-in-Ok
loop-at-preserved-in-Ok g c =
    let at = c.loop-at.at in
    let o = outer c.end_line.new.links.items (g.A.Air.told c.end_line.new.air) (g.D.Draws.last c.end_line.new.draws) in
    record {
      within = omega (arith, c.loop-at-test.true);
      ready = c.in-Ok.ensures.ready;
      mode = c.end_line.ensures.mode ∙ c.loop-at.invariant.mode;
      reached = λ first before r. subst (λ (w : List ℕ). Reached g.A.L.Link.told first o c.end_line.new.self w c.end_line.new.journal.entries) (feed_further before c.args.octets.now at c.loop-at-test.true c.if-octets-at-eq10.true)
          (c.in-Ok.ensures.reached first (before ++ take at c.args.octets.now) (c.loop-at.invariant.reached first before r));
      wrote = goes_then false _ _ _ _ _ _ _ _ _ c.loop-at.invariant.wrote c.in-Ok.ensures.wrote;
      blamed = blame_more g.A.L.Link.faults _ _ _ _ _ _ _ _ _ _ c.loop-at.invariant.blamed c.in-Ok.ensures.blamed;
    }

pub returns-in-Err-clause-reached : goal.returns-in-Err-clause-reached
returns-in-Err-clause-reached g c first before r =
    let at = c.loop-at.at in
    let o = outer c.end_line.new.links.items (g.A.Air.told c.end_line.new.air) (g.D.Draws.last c.end_line.new.draws) in
    let j = c.end_line.new.journal.entries in
    let here = c.in-Err.ensures.reached first (before ++ take at c.args.octets.now) (c.loop-at.invariant.reached first before r) in
    let behind = subst (λ (w : List ℕ). Halts g.A.L.Link.told first o c.loop-at.self.state.reader.mode 1 c.in-Err.stop w j) (feed_further before c.args.octets.now at c.loop-at-test.true c.if-octets-at-eq10.true) here in
    subst (λ (m : Mode). Halts g.A.L.Link.told first o m most_read c.in-Err.stop (before ++ c.args.octets.now) j) c.loop-at.invariant.mode
    (Halts-behind g.A.L.Link.told first o c.loop-at.self.state.reader.mode most_read c.in-Err.stop before c.args.octets.now (at + 1) j (omega arith) (omega (arith, c.loop-at-test.true)) c.requires.few behind)

pub returns-in-Err-clause-blamed : goal.returns-in-Err-clause-blamed
returns-in-Err-clause-blamed g c = blame_more g.A.L.Link.faults _ _ _ _ _ _ _ _ _ _ c.loop-at.invariant.blamed c.in-Err.ensures.blamed

pub loop-at-preserved : goal.loop-at-preserved
loop-at-preserved g c =
    let at = c.loop-at.at in
    let end = c.line_end-end.result in
    let piece : List ℕ = take (end - at) (drop at c.args.octets.now) in
    let o = outer c.loop-at.links.items (g.A.Air.told c.loop-at.air) (g.D.Draws.last c.loop-at.draws) in
    let j = c.loop-at.journal.entries in
    record {
      within = c.line_end-end.ensures.order.1;
      ready = ready_more c.loop-at.self c.add.new.self _ j (Ok c.in-Ok-add.field-0) c.loop-at.invariant.ready c.in-Ok-add.ensures.same.1 c.in-Ok-add.ensures.same.0;
      mode = ap (λ (x : ScriptState). x.reader.mode) c.in-Ok-add.ensures.same.1 ∙ c.loop-at.invariant.mode;
      reached = λ first before r. subst (λ (w : List ℕ). Reached g.A.L.Link.told first o c.add.new.self w j) (piece_further before c.args.octets.now at end c.line_end-end.ensures.order.0)
          (reached_more g.A.L.Link.told first o c.loop-at.self c.add.new.self (before ++ take at c.args.octets.now) piece j (Ok c.in-Ok-add.field-0) (c.loop-at.invariant.reached first before r) c.in-Ok-add.ensures.same.1
          (λ draft rounds come. c.in-Ok-add.ensures.come (before ++ take at c.args.octets.now) draft rounds j come) tt);
      wrote = subst (λ (x : ScriptState). GoesOn false (output (g.K.Sink.out c.args.sink.now) (g.K.Sink.faults c.args.sink.now)) (output (g.K.Sink.out c.loop-at.sink) (g.K.Sink.faults c.loop-at.sink)) (written_of c.args.self.now.state.session) (written_of x.session) c.args.journal.now.entries j) (sym c.in-Ok-add.ensures.same.1) c.loop-at.invariant.wrote;
      blamed = c.loop-at.invariant.blamed;
    }

pub returns-in-Err-add-clause-reached : goal.returns-in-Err-add-clause-reached
returns-in-Err-add-clause-reached g c first before r =
    let at = c.loop-at.at in
    let end = c.line_end-end.result in
    let piece : List ℕ = take (end - at) (drop at c.args.octets.now) in
    let o = outer c.loop-at.links.items (g.A.Air.told c.loop-at.air) (g.D.Draws.last c.loop-at.draws) in
    let j = c.loop-at.journal.entries in
    let onward = c.line_end-end.ensures.onward c.loop-at-test.true c.if-octets-at-eq10.false in
    let here = reached_more {T = ℕ} g.A.L.Link.told first o c.loop-at.self c.add.new.self (before ++ take at c.args.octets.now) piece j (Err c.in-Err-add.stop) (c.loop-at.invariant.reached first before r) c.in-Err-add.ensures.same.1
    (λ draft rounds come. c.in-Err-add.ensures.come (before ++ take at c.args.octets.now) draft rounds j come) c.in-Err-add.ensures.refused in
    let behind = subst (λ (w : List ℕ). Halts g.A.L.Link.told first o c.loop-at.self.state.reader.mode 1 c.in-Err-add.stop w j) (piece_further before c.args.octets.now at end c.line_end-end.ensures.order.0) here in
    subst (λ (m : Mode). Halts g.A.L.Link.told first o m most_read c.in-Err-add.stop (before ++ c.args.octets.now) j) c.loop-at.invariant.mode
    (Halts-behind g.A.L.Link.told first o c.loop-at.self.state.reader.mode most_read c.in-Err-add.stop before c.args.octets.now end j (omega (arith, onward)) c.line_end-end.ensures.order.1 c.requires.few behind)

pub returns-clause-reached : goal.returns-clause-reached
returns-clause-reached g c first before r =
    let o = outer c.loop-at.links.items (g.A.Air.told c.loop-at.air) (g.D.Draws.last c.loop-at.draws) in
    subst (λ (w : List ℕ). Reached g.A.L.Link.told first o c.loop-at.self w c.loop-at.journal.entries) (all_further before c.args.octets.now c.loop-at.at (omega (arith, c.loop-at-test.false)))
    (c.loop-at.invariant.reached first before r)

pub loop-at-init : goal.loop-at-init
loop-at-init g c =
    let o = outer c.args.links.now.items (g.A.Air.told c.args.air.now) (g.D.Draws.last c.args.draws.now) in
    record {
      within = omega arith;
      ready = c.requires.ready;
      mode = refl;
      reached = λ first before r. subst (λ (w : List ℕ). Reached g.A.L.Link.told first o c.args.self.now w c.args.journal.now.entries) (sym (append-nil before)) r;
      wrote = goes_none _ _ _ c.requires.written;
      blamed = unblamed g.A.L.Link.faults c.args.links.now.items (g.A.Air.faults c.args.air.now) (g.D.Draws.faults c.args.draws.now);
    }

pub returns-in-Err-add-clause-blamed : goal.returns-in-Err-add-clause-blamed
returns-in-Err-add-clause-blamed g c =
    blame_more g.A.L.Link.faults _ _ _ _ _ _ _ _ _ _ c.loop-at.invariant.blamed (unblamed_more {T = ℕ} g.A.L.Link.faults _ _ _ (Err c.in-Err-add.stop) c.in-Err-add.ensures.refused)

pub loop-at-smaller : goal.loop-at-smaller
loop-at-smaller g c =
    let onward = c.line_end-end.ensures.onward c.loop-at-test.true c.if-octets-at-eq10.false in
    omega (arith, onward, c.line_end-end.ensures.order.1)

pub returns-in-Err-clause-mode : goal.returns-in-Err-clause-mode
returns-in-Err-clause-mode g c = c.end_line.ensures.mode ∙ c.loop-at.invariant.mode

pub returns-in-Err-add-clause-mode : goal.returns-in-Err-add-clause-mode
returns-in-Err-add-clause-mode g c = ap (λ (x : ScriptState). x.reader.mode) c.in-Err-add.ensures.same.1 ∙ c.loop-at.invariant.mode

pub end_line-requires-clause-written : goal.end_line-requires-clause-written
end_line-requires-clause-written g c = λ κs bounds. c.loop-at.invariant.wrote.count refl

pub returns-in-Err-clause-wrote : goal.returns-in-Err-clause-wrote
returns-in-Err-clause-wrote g c = goes_then _ _ _ _ _ _ _ _ _ _ c.loop-at.invariant.wrote c.in-Err.ensures.wrote

pub returns-in-Err-add-clause-wrote : goal.returns-in-Err-add-clause-wrote
returns-in-Err-add-clause-wrote g c =
    let here = subst (λ (x : ScriptState). GoesOn false (output (g.K.Sink.out c.args.sink.now) (g.K.Sink.faults c.args.sink.now)) (output (g.K.Sink.out c.loop-at.sink) (g.K.Sink.faults c.loop-at.sink)) (written_of c.args.self.now.state.session) (written_of x.session) c.args.journal.now.entries c.loop-at.journal.entries)
    (sym c.in-Err-add.ensures.same.1) c.loop-at.invariant.wrote in
    goes_as false _ _ _ _ _ _ _ (sym (refusal_short (Unit {0}) c.in-Err-add.stop c.in-Err-add.ensures.refused)) here

pub returns-clause-wrote : goal.returns-clause-wrote
returns-clause-wrote g c = c.loop-at.invariant.wrote
