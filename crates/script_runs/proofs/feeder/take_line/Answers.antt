use Rattle.std.proofs.Common.{Bool, false, Err, ap, subst, sym, ◌∙◌}
use Rattle.script_runs.specs.declared.stops.Stop.{Stop}
use Rattle.script_runs.specs.declared.stops.Undone.{Undone}
use Rattle.script_runs.specs.Outer.{outer, IsBlamed}
use Rattle.script_runs.specs.States.{LeavesLine}
use Rattle.script_runs.specs.Stops.{StopsLine, stop_blame, undone_blame}
use Rattle.script_runs.proofs.Blamed.{unblamed}
use Rattle.script_runs.proofs.Coming.{blamed_stop}
use Rattle.script_runs.specs.Written.{stop_short, undone_short}
use Rattle.script_runs.proofs.Lines.{broken-line, many-lines, refused-line, undrawn-line, unwritten-line}
use Rattle.script_runs.proofs.Taking.{ready_more}
use Rattle.script_runs.proofs.Writings.{goes_as, goes_none}
use Rattle.script_runs.proofs.feeder.take_line.Goals as goal

pub take-requires-clause-ready : goal.take-requires-clause-ready
take-requires-clause-ready g c regions within = ready_more c.args.state.now _ c.args.lines 65536 _ c.requires.ready c.requires.count

pub returns-in-Ok-clause-ready : goal.returns-in-Ok-clause-ready
returns-in-Ok-clause-ready g c = c.in-Ok.ensures.ready c.args.lines c.requires.ready

-- one line too many
pub returns-then-lines-ge-MOST_LINES-clause-told : goal.returns-then-lines-ge-MOST_LINES-clause-told
returns-then-lines-ge-MOST_LINES-clause-told g c draft rounds first stands met =
    let s = c.args.state.now in
    let j = c.args.journal.now.entries in
    let o = outer c.args.links.now.items (g.A.Air.told c.args.air.now) (g.D.Draws.last c.args.draws.now) in
    subst (λ (x : Stop). StopsLine x g.A.L.Link.told first o o s.reader.mode c.args.lines c.args.line.now draft rounds j j) (sym c.refused.ensures)
    (many-lines g.A.L.Link.told first o s j c.args.lines c.args.line.now draft rounds stands c.if-lines-ge-MOST_LINES.true)

pub returns-then-lines-ge-MOST_LINES-clause-blamed : goal.returns-then-lines-ge-MOST_LINES-clause-blamed
returns-then-lines-ge-MOST_LINES-clause-blamed g c =
    let links = c.args.links.now.items in
    let air = g.A.Air.faults c.args.air.now in
    let draws = g.D.Draws.faults c.args.draws.now in
    subst (λ (x : Stop). IsBlamed g.A.L.Link.faults (stop_blame x) links links air air draws draws) (sym c.refused.ensures) (unblamed g.A.L.Link.faults links air draws)

-- or one that is refused
pub returns-in-Err-Refused-clause-told : goal.returns-in-Err-Refused-clause-told
returns-in-Err-Refused-clause-told g c draft rounds first stands met =
    let s = c.args.state.now in
    let t = c.take.new.self in
    let j = c.args.journal.now.entries in
    let k = c.take.new.journal.entries in
    let old = outer c.args.links.now.items (g.A.Air.told c.args.air.now) (g.D.Draws.last c.args.draws.now) in
    let new = outer c.take.new.links.items (g.A.Air.told c.take.new.air) (g.D.Draws.last c.take.new.draws) in
    let leaves = subst (λ (x : Undone). LeavesLine x g.A.L.Link.told first old new t c.args.line.now draft rounds j k) c.in-Err-Refused.field-0-is (c.in-Err-Refused.ensures.told draft rounds first stands met) in
    subst (λ (x : Stop). StopsLine x g.A.L.Link.told first old new s.reader.mode c.args.lines c.args.line.now draft rounds j k) (sym c.refused-in-Err-Refused.ensures)
    (refused-line g.A.L.Link.told first old new t s.reader.mode j k c.args.lines c.args.line.now draft rounds c.in-Err-Refused.refusal leaves c.take.ensures.mode c.if-lines-ge-MOST_LINES.false)

pub returns-in-Err-Refused-clause-blamed : goal.returns-in-Err-Refused-clause-blamed
returns-in-Err-Refused-clause-blamed g c =
    let old = c.args.links.now.items in
    let new = c.take.new.links.items in
    let a = g.A.Air.faults c.args.air.now in
    let b = g.A.Air.faults c.take.new.air in
    let d = g.D.Draws.faults c.args.draws.now in
    let e = g.D.Draws.faults c.take.new.draws in
    let here = subst (λ (x : Undone). IsBlamed g.A.L.Link.faults (undone_blame x) old new a b d e) c.in-Err-Refused.field-0-is c.in-Err-Refused.ensures.blamed in
    subst (λ (x : Stop). IsBlamed g.A.L.Link.faults (stop_blame x) old new a b d e) (sym c.refused-in-Err-Refused.ensures) here

-- or not done
pub returns-in-Err-NoMemory-clause-told : goal.returns-in-Err-NoMemory-clause-told
returns-in-Err-NoMemory-clause-told g c draft rounds first stands met =
    let s = c.args.state.now in
    let t = c.take.new.self in
    let j = c.args.journal.now.entries in
    let k = c.take.new.journal.entries in
    let old = outer c.args.links.now.items (g.A.Air.told c.args.air.now) (g.D.Draws.last c.args.draws.now) in
    let new = outer c.take.new.links.items (g.A.Air.told c.take.new.air) (g.D.Draws.last c.take.new.draws) in
    let leaves = subst (λ (x : Undone). LeavesLine x g.A.L.Link.told first old new t c.args.line.now draft rounds j k) c.in-Err-NoMemory.field-0-is (c.in-Err-NoMemory.ensures.told draft rounds first stands met) in
    leaves

pub returns-in-Err-NoMemory-clause-blamed : goal.returns-in-Err-NoMemory-clause-blamed
returns-in-Err-NoMemory-clause-blamed g c =
    let old = c.args.links.now.items in
    let new = c.take.new.links.items in
    let a = g.A.Air.faults c.args.air.now in
    let b = g.A.Air.faults c.take.new.air in
    let d = g.D.Draws.faults c.args.draws.now in
    let e = g.D.Draws.faults c.take.new.draws in
    let here = subst (λ (x : Undone). IsBlamed g.A.L.Link.faults (undone_blame x) old new a b d e) c.in-Err-NoMemory.field-0-is c.in-Err-NoMemory.ensures.blamed in
    here

pub returns-in-Err-DrawFault-clause-told : goal.returns-in-Err-DrawFault-clause-told
returns-in-Err-DrawFault-clause-told g c draft rounds first stands met =
    let s = c.args.state.now in
    let t = c.take.new.self in
    let j = c.args.journal.now.entries in
    let k = c.take.new.journal.entries in
    let old = outer c.args.links.now.items (g.A.Air.told c.args.air.now) (g.D.Draws.last c.args.draws.now) in
    let new = outer c.take.new.links.items (g.A.Air.told c.take.new.air) (g.D.Draws.last c.take.new.draws) in
    let leaves = subst (λ (x : Undone). LeavesLine x g.A.L.Link.told first old new t c.args.line.now draft rounds j k) c.in-Err-DrawFault.field-0-is (c.in-Err-DrawFault.ensures.told draft rounds first stands met) in
    undrawn-line g.A.L.Link.told first old new t s.reader.mode j k c.args.lines c.args.line.now draft rounds leaves c.take.ensures.mode c.if-lines-ge-MOST_LINES.false

pub returns-in-Err-DrawFault-clause-blamed : goal.returns-in-Err-DrawFault-clause-blamed
returns-in-Err-DrawFault-clause-blamed g c =
    let old = c.args.links.now.items in
    let new = c.take.new.links.items in
    let a = g.A.Air.faults c.args.air.now in
    let b = g.A.Air.faults c.take.new.air in
    let d = g.D.Draws.faults c.args.draws.now in
    let e = g.D.Draws.faults c.take.new.draws in
    let here = subst (λ (x : Undone). IsBlamed g.A.L.Link.faults (undone_blame x) old new a b d e) c.in-Err-DrawFault.field-0-is c.in-Err-DrawFault.ensures.blamed in
    here

-- or in part
pub returns-in-Err-Broken-clause-told : goal.returns-in-Err-Broken-clause-told
returns-in-Err-Broken-clause-told g c draft rounds first stands met =
    let s = c.args.state.now in
    let t = c.take.new.self in
    let j = c.args.journal.now.entries in
    let k = c.take.new.journal.entries in
    let old = outer c.args.links.now.items (g.A.Air.told c.args.air.now) (g.D.Draws.last c.args.draws.now) in
    let new = outer c.take.new.links.items (g.A.Air.told c.take.new.air) (g.D.Draws.last c.take.new.draws) in
    let leaves = subst (λ (x : Undone). LeavesLine x g.A.L.Link.told first old new t c.args.line.now draft rounds j k) c.in-Err-Broken.field-0-is (c.in-Err-Broken.ensures.told draft rounds first stands met) in
    broken-line g.A.L.Link.told first old new t s.reader.mode j k c.args.lines c.args.line.now draft rounds c.in-Err-Broken.error leaves c.take.ensures.mode c.if-lines-ge-MOST_LINES.false

pub returns-in-Err-Broken-clause-blamed : goal.returns-in-Err-Broken-clause-blamed
returns-in-Err-Broken-clause-blamed g c =
    let old = c.args.links.now.items in
    let new = c.take.new.links.items in
    let a = g.A.Air.faults c.args.air.now in
    let b = g.A.Air.faults c.take.new.air in
    let d = g.D.Draws.faults c.args.draws.now in
    let e = g.D.Draws.faults c.take.new.draws in
    let here = subst (λ (x : Undone). IsBlamed g.A.L.Link.faults (undone_blame x) old new a b d e) c.in-Err-Broken.field-0-is c.in-Err-Broken.ensures.blamed in
    blamed_stop g.A.L.Link.faults c.in-Err-Broken.error old new a b d e here

pub returns-in-Ok-clause-told : goal.returns-in-Ok-clause-told
returns-in-Ok-clause-told g c draft rounds first stands met = c.in-Ok.ensures.told draft rounds first stands met

pub returns-in-Ok-clause-blamed : goal.returns-in-Ok-clause-blamed
returns-in-Ok-clause-blamed g c = c.in-Ok.ensures.blamed

-- or its round's lines could not be written
pub returns-in-Err-Unwritten-clause-told : goal.returns-in-Err-Unwritten-clause-told
returns-in-Err-Unwritten-clause-told g c draft rounds first stands met =
    let s = c.args.state.now in
    let t = c.take.new.self in
    let j = c.args.journal.now.entries in
    let k = c.take.new.journal.entries in
    let old = outer c.args.links.now.items (g.A.Air.told c.args.air.now) (g.D.Draws.last c.args.draws.now) in
    let new = outer c.take.new.links.items (g.A.Air.told c.take.new.air) (g.D.Draws.last c.take.new.draws) in
    let leaves = subst (λ (x : Undone). LeavesLine x g.A.L.Link.told first old new t c.args.line.now draft rounds j k) c.in-Err-Unwritten.field-0-is (c.in-Err-Unwritten.ensures.told draft rounds first stands met) in
    unwritten-line g.A.L.Link.told first old new t s.reader.mode j k c.args.lines c.args.line.now draft rounds leaves c.take.ensures.mode c.if-lines-ge-MOST_LINES.false

pub returns-in-Err-Unwritten-clause-blamed : goal.returns-in-Err-Unwritten-clause-blamed
returns-in-Err-Unwritten-clause-blamed g c =
    let old = c.args.links.now.items in
    let new = c.take.new.links.items in
    let a = g.A.Air.faults c.args.air.now in
    let b = g.A.Air.faults c.take.new.air in
    let d = g.D.Draws.faults c.args.draws.now in
    let e = g.D.Draws.faults c.take.new.draws in
    let here = subst (λ (x : Undone). IsBlamed g.A.L.Link.faults (undone_blame x) old new a b d e) c.in-Err-Unwritten.field-0-is c.in-Err-Unwritten.ensures.blamed in
    here

-- ---- what was written

abbrev short_of : Undone → Bool
short_of x = undone_short {T = Unit {0}} (Err x)

abbrev short_by : Stop → Bool
short_by x = stop_short {T = Unit {0}} (Err x)

pub returns-then-lines-ge-MOST_LINES-clause-wrote : goal.returns-then-lines-ge-MOST_LINES-clause-wrote
returns-then-lines-ge-MOST_LINES-clause-wrote g c = goes_as false _ _ _ _ _ _ _ (sym (ap short_by c.refused.ensures)) (goes_none _ _ _ c.requires.written)

pub returns-in-Ok-clause-wrote : goal.returns-in-Ok-clause-wrote
returns-in-Ok-clause-wrote g c = c.in-Ok.ensures.wrote

pub returns-in-Err-Refused-clause-wrote : goal.returns-in-Err-Refused-clause-wrote
returns-in-Err-Refused-clause-wrote g c = goes_as _ _ _ _ _ _ _ _ (ap short_of c.in-Err-Refused.field-0-is ∙ sym (ap short_by c.refused-in-Err-Refused.ensures)) c.in-Err-Refused.ensures.wrote

pub returns-in-Err-NoMemory-clause-wrote : goal.returns-in-Err-NoMemory-clause-wrote
returns-in-Err-NoMemory-clause-wrote g c = goes_as _ _ _ _ _ _ _ _ (ap short_of c.in-Err-NoMemory.field-0-is) c.in-Err-NoMemory.ensures.wrote

pub returns-in-Err-DrawFault-clause-wrote : goal.returns-in-Err-DrawFault-clause-wrote
returns-in-Err-DrawFault-clause-wrote g c = goes_as _ _ _ _ _ _ _ _ (ap short_of c.in-Err-DrawFault.field-0-is) c.in-Err-DrawFault.ensures.wrote

pub returns-in-Err-Broken-clause-wrote : goal.returns-in-Err-Broken-clause-wrote
returns-in-Err-Broken-clause-wrote g c = goes_as _ _ _ _ _ _ _ _ (ap short_of c.in-Err-Broken.field-0-is) c.in-Err-Broken.ensures.wrote

pub returns-in-Err-Unwritten-clause-wrote : goal.returns-in-Err-Unwritten-clause-wrote
returns-in-Err-Unwritten-clause-wrote g c = goes_as _ _ _ _ _ _ _ _ (ap short_of c.in-Err-Unwritten.field-0-is) c.in-Err-Unwritten.ensures.wrote
