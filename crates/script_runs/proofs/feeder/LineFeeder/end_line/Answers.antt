use Rattle.std.proofs.Common.{◌∙◌, ℕ, List, ap, subst, arith, length}
use Rattle.text_lines.specs.declared.limits.Limits.{Limits}
use Rattle.script_runs.specs.Outer.{outer}
use Rattle.script_runs.specs.Script.{script_limits}
use Rattle.text_lines.specs.Texts.{without_return}
use Rattle.script_runs.specs.States.{TellsLine, IsReady}
use Rattle.script_runs.specs.Stops.{StopsLine}
use Rattle.script_runs.proofs.Coming.{halts_line, reached_line}
use Rattle.script_runs.proofs.feeder.LineFeeder.end_line.Goals as goal

pub returns-in-Ok-clause-reached : goal.returns-in-Ok-clause-reached
returns-in-Ok-clause-reached g c first octets r =
    let s = c.args.self.now in
    let j = c.args.journal.now.entries in
    let k = c.take_line-taken.new.journal.entries in
    let o = outer c.take_line-taken.new.links.items (g.A.Air.told c.take_line-taken.new.air) (g.D.Draws.last c.take_line-taken.new.draws) in
    let text = c.without_return-text.ensures ∙ ap without_return c.deref.ensures.value in
    let told = subst (λ (w : List ℕ). TellsLine g.A.L.Link.told first o w r.draft r.rounds c.take_line-taken.new.state j k) text (c.in-Ok.ensures.told r.draft r.rounds first r.come.stands r.met) in
    reached_line g.A.L.Link.told first o s _ octets r.draft r.rounds j k r.come (c.end.ensures.cut script_limits octets r.come.good r.come.cut) c.take_line-taken.ensures.mode told

pub returns-in-Err-clause-reached : goal.returns-in-Err-clause-reached
returns-in-Err-clause-reached g c first octets r =
    let s = c.args.self.now in
    let j = c.args.journal.now.entries in
    let k = c.take_line-taken.new.journal.entries in
    let old = outer c.args.links.now.items (g.A.Air.told c.args.air.now) (g.D.Draws.last c.args.draws.now) in
    let new = outer c.take_line-taken.new.links.items (g.A.Air.told c.take_line-taken.new.air) (g.D.Draws.last c.take_line-taken.new.draws) in
    let text = c.without_return-text.ensures ∙ ap without_return c.deref.ensures.value in
    let stops = subst (λ (w : List ℕ). StopsLine c.in-Err.stop g.A.L.Link.told first old new s.state.reader.mode s.cutter.lines w r.draft r.rounds j k) text (c.in-Err.ensures.told r.draft r.rounds first r.come.stands r.met) in
    halts_line g.A.L.Link.told first old new s c.in-Err.stop octets r.draft r.rounds j k r.come r.met stops

pub returns-in-Ok-clause-ready : goal.returns-in-Ok-clause-ready
returns-in-Ok-clause-ready g c = subst (λ (n : ℕ). IsReady c.take_line-taken.new.state (length c.take_line-taken.new.links.items) n c.take_line-taken.new.journal.entries) (omega (arith, c.end.ensures.lines)) c.in-Ok.ensures.ready

pub end-requires-clause-room : goal.end-requires-clause-room
end-requires-clause-room g c = omega (arith, c.in-Ok.ensures.few, ap (λ (l : Limits). l.lines) c.args.self.now.limited)

pub end-requires-clause-few : goal.end-requires-clause-few
end-requires-clause-few g c = omega (arith, c.in-Ok.ensures.few)

pub returns-in-Ok-clause-wrote : goal.returns-in-Ok-clause-wrote
returns-in-Ok-clause-wrote g c = c.in-Ok.ensures.wrote

pub returns-in-Err-clause-wrote : goal.returns-in-Err-clause-wrote
returns-in-Err-clause-wrote g c = c.in-Err.ensures.wrote
