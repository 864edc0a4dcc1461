use Rattle.std.proofs.Common.{Err, subst}
use Rattle.link_runs.specs.declared.found.Undone.{Undone}
use Rattle.link_runs.specs.Standing.{LeavesLine, outer}
use Rattle.link_runs.proofs.Closing.{stops_many, stops_refused}
use Rattle.link_runs.proofs.reading.take_line.Goals as goal

-- one line too many
pub returns-then-lines-ge-MOST_LINES-clause-told : goal.returns-then-lines-ge-MOST_LINES-clause-told
returns-then-lines-ge-MOST_LINES-clause-told g c first t stands =
    stops_many g.A.L.Link.told first _ c.args.state.now c.args.lines c.args.line.now _ t c.refused.result c.if-lines-ge-MOST_LINES.true stands c.refused.ensures

-- or one that is refused
pub returns-in-Err-Refused-clause-told : goal.returns-in-Err-Refused-clause-told
returns-in-Err-Refused-clause-told g c first t stands =
    let now = outer (g.A.Air.told c.take.new.air) (g.D.Draws.last c.take.new.draws) in
    let leaves = subst (λ (x : Undone). LeavesLine {T = Unit {0}} g.A.L.Link.told first now c.take.new.state c.args.line.now c.take.new.journal.entries t (Err x)) c.in-Err-Refused.field-0-is (c.in-Err-Refused.ensures.leaves first t stands) in
    stops_refused g.A.L.Link.told first now c.take.new.state c.args.lines c.args.line.now c.take.new.journal.entries t c.in-Err-Refused.refusal c.refused-in-Err-Refused.result c.if-lines-ge-MOST_LINES.false leaves c.refused-in-Err-Refused.ensures
