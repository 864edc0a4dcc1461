use Rattle.std.proofs.Common.{◌++◌, ◌∙◌, List, ℕ, arith, false, refl, rules, subst}
use Rattle.link_lines.specs.Slips.{slip_in}
use Rattle.link_lines.specs.declared.refusal.LinkRefusal.TheVariants.{LongLine}
use Rattle.link_runs.specs.Reading.{StopsLine}
use Rattle.link_runs.specs.Standing.{TellsLine, asked_of, outer}
use Rattle.link_runs.specs.Told.{script_limits}
use Rattle.link_runs.proofs.Closing.{ends_failed, ends_last, ends_line, ends_long, ends_over, ends_whole, further}
use Rattle.link_runs.proofs.Doing.{hurt_from}
use Rattle.link_runs.proofs.Writings.{goes_then}
use Rattle.link_runs.proofs.reading.read_lines.Goals as goal

-- a line more was done
pub lines-preserved : goal.lines-preserved
lines-preserved g c = record {
  begun = c.in-Ok.ensures.begun;
  few = omega (arith, c.in-Ok.ensures.few, c.end_line.ensures.lines);
  count = omega (arith, c.in-Ok.ensures.room, c.end_line.ensures.lines);
  limits = c.end_line.ensures.limits ∙ c.next.ensures.limits ∙ c.lines.invariant.limits;
  same = c.in-Line.ensures.unfailed (search rules) ∙ c.lines.invariant.same;
  reached = λ end reached.
      let first = outer (g.A.Air.told c.args.air.now) (g.D.Draws.last c.args.draws.now) in
      let now = outer (g.A.Air.told c.take_line.new.air) (g.D.Draws.last c.take_line.new.draws) in
      let so_far = c.lines.invariant.reached end reached in
      let comes = c.in-Line.ensures.comes script_limits so_far.octets so_far.reached.good so_far.reached.has in
      let line = subst (λ (w : List ℕ). TellsLine g.A.L.Link.told first now c.take_line.new.state w c.take_line.new.journal.entries so_far.reached.t) c.text-text.ensures (c.in-Ok.ensures.told first so_far.reached.t so_far.reached.stands) in
      further g.A.L.Link.told end first _ now c.lines.lines c.next.new.self c.end_line.new.self c.lines.state c.take_line.new.state _ _ _ _ _ so_far comes c.take_line.ensures.end line
      (c.end_line.ensures.read script_limits (so_far.octets ++ comes.more) so_far.reached.good comes.next_is.1.0 comes.has comes.next_is.1.1);
  wrote = goes_then false _ _ _ _ _ _ _ _ _ c.lines.invariant.wrote c.in-Ok.ensures.wrote;
  hurt = hurt_from false _ _ _ _ _ _ c.lines.invariant.hurt c.in-Ok.ensures.hurt;
  drained = c.in-Ok.ensures.drained.kept refl ∙ c.lines.invariant.drained;
}

-- a line was not done
pub returns-in-Err-clause-ends : goal.returns-in-Err-clause-ends
returns-in-Err-clause-ends g c end reached =
    let first = outer (g.A.Air.told c.args.air.now) (g.D.Draws.last c.args.draws.now) in
    let now = outer (g.A.Air.told c.take_line.new.air) (g.D.Draws.last c.take_line.new.draws) in
    let so_far = c.lines.invariant.reached end reached in
    let comes = c.in-Line.ensures.comes script_limits so_far.octets so_far.reached.good so_far.reached.has in
    let stop = subst (λ (w : List ℕ). StopsLine g.A.L.Link.told first now c.take_line.new.state c.next.new.self.cutter.lines w c.take_line.new.journal.entries so_far.reached.t c.in-Err.found) c.text-text.ensures (c.in-Err.ensures.told first so_far.reached.t so_far.reached.stands) in
    ends_line g.A.L.Link.told end first _ now c.lines.lines c.next.new.self c.lines.state c.take_line.new.state _ _ _ _ _ c.in-Err.found so_far comes c.take_line.ensures.end stop

-- the last one was
pub returns-in-Ok-take_line-clause-ends : goal.returns-in-Ok-take_line-clause-ends
returns-in-Ok-take_line-clause-ends g c end reached =
    let first = outer (g.A.Air.told c.args.air.now) (g.D.Draws.last c.args.draws.now) in
    let now = outer (g.A.Air.told c.take_line-in-Last.new.air) (g.D.Draws.last c.take_line-in-Last.new.draws) in
    let so_far = c.lines.invariant.reached end reached in
    let comes = c.in-Last.ensures.comes script_limits so_far.octets so_far.reached.good so_far.reached.has in
    let line = subst (λ (w : List ℕ). TellsLine g.A.L.Link.told first now c.take_line-in-Last.new.state w c.take_line-in-Last.new.journal.entries so_far.reached.t) c.deref.ensures.value (c.in-Ok-take_line.ensures.told first so_far.reached.t so_far.reached.stands) in
    ends_whole g.A.L.Link.told end first _ now c.lines.lines c.next.new.self c.lines.state c.take_line-in-Last.new.state _ _ _ _ _ so_far comes c.take_line-in-Last.ensures.end c.in-Ok-take_line.ensures.room line

-- or was not
pub returns-in-Err-take_line-clause-ends : goal.returns-in-Err-take_line-clause-ends
returns-in-Err-take_line-clause-ends g c end reached =
    let first = outer (g.A.Air.told c.args.air.now) (g.D.Draws.last c.args.draws.now) in
    let now = outer (g.A.Air.told c.take_line-in-Last.new.air) (g.D.Draws.last c.take_line-in-Last.new.draws) in
    let so_far = c.lines.invariant.reached end reached in
    let comes = c.in-Last.ensures.comes script_limits so_far.octets so_far.reached.good so_far.reached.has in
    let stop = subst (λ (w : List ℕ). StopsLine g.A.L.Link.told first now c.take_line-in-Last.new.state c.next.new.self.cutter.lines w c.take_line-in-Last.new.journal.entries so_far.reached.t c.in-Err-take_line.found) c.deref.ensures.value (c.in-Err-take_line.ensures.told first so_far.reached.t so_far.reached.stands) in
    ends_last g.A.L.Link.told end first _ now c.lines.lines c.next.new.self c.lines.state c.take_line-in-Last.new.state _ _ _ _ _ c.in-Err-take_line.found so_far comes c.take_line-in-Last.ensures.end stop

-- the last one had its line feed
pub returns-in-End-clause-ends : goal.returns-in-End-clause-ends
returns-in-End-clause-ends g c end reached =
    let so_far = c.lines.invariant.reached end reached in
    ends_over g.A.L.Link.told end _ _ c.lines.lines c.next.new.self c.lines.state _ _ _ _ so_far (c.in-End.ensures.comes script_limits so_far.octets so_far.reached.good so_far.reached.has)

-- one is too long
pub returns-in-Long-clause-ends : goal.returns-in-Long-clause-ends
returns-in-Long-clause-ends g c end reached =
    let so_far = c.lines.invariant.reached end reached in
    ends_long g.A.L.Link.told end _ _ c.lines.lines c.next.new.self c.lines.state _ _ _ _ (slip_in c.lines.state.reader (asked_of c.lines.state.running) LongLine c.deref-in-Long.result.now) c.refused.result so_far (c.in-Long.ensures.comes script_limits so_far.octets so_far.reached.good so_far.reached.has) c.refused.ensures

-- the source failed
pub returns-in-Failed-clause-ends : goal.returns-in-Failed-clause-ends
returns-in-Failed-clause-ends g c end reached =
    let so_far = c.lines.invariant.reached end reached in
    ends_failed g.A.L.Link.told end _ _ c.lines.lines c.next.new.self c.lines.state _ _ _ _ so_far (c.in-Failed.ensures.comes script_limits so_far.octets so_far.reached.good so_far.reached.has)
